-- All that a packet brings, as the rows that the code walks. Assumes nothing.
use Prim.Native.Nat.{ℕ, ◌+◌, ◌*◌, ◌≤◌}
use mathlib.Core.Path.{◌≡◌, sym, ap, ap₂, ◌∙◌, subst}
use mathlib.Core.List.{List, [], ◌∷◌, ◌++◌, map, append-nil}
use native.Mathlib.Omega.{arith}
use lib.ListN.{length, take}
use lib.Seq.{take_at}
use Rattle.byte_strings.specs.Lists.{part, total}
use Rattle.byte_strings.proofs.Lists.{length_run}
use Rattle.tree_index.specs.Tree.{index}
use Rattle.tree_index.specs.Numbers.{numbers}
use Rattle.blake2b.specs.Hash.{node_hash}
use Rattle.blake2b.proofs.Laws.{node_length, node_byte}
use Rattle.file_format.specs.Sizes.{used_tree, used_bitfield}
use Rattle.file_format.specs.Messages.{leaf_message}
use Rattle.file_format.specs.Entries.{Entry, entry_bytes, leaf}
use Rattle.file_format.specs.RootsByValue.{padded}
use Rattle.file_format.proofs.Nodes.{Proper, entry_bytes_length}
use Rattle.packet.specs.Packet.{siblings, other_roots}
use Rattle.packet.specs.Check.{siblings_place, packet_chunk, entry_in, entries_in, sibling_entries, other_entries, packet_total, steps_above, steps}
use Rattle.packet.specs.Inner.{ChunkOf, RowIn, Shaped, Handed, handed_on}
use Rattle.packet.proofs.Pieces.{entry_in_lem}
use Rattle.packet.proofs.Rows.{siblings_filled, others_filled, siblings_count}
use Rattle.copy_take_in.specs.TakeIn.{Given, given_at, lying, led_to, brought}
use Rattle.copy_take_in.specs.Inner.{lies, row_given, KnowableIn, RowFor, above_row, LedRows, Ready}
use Rattle.copy_take_in.specs.declared.way.Way.{Way}
use Rattle.copy_take_in.proofs.Brings.{row_given_lem, path_given, path_long}
use Rattle.copy_take_in.proofs.Places.{placed, chunk_long, second_is, beside_in, roots_in}
use Rattle.copy_take_in.proofs.Knowable.{leaf_filled, aboves_filled, knowable, row_for}

leaf_proper : (chunk : List ℕ) → length chunk ≤ 65536 → Proper (leaf node_hash chunk)
unfolding leaf
leaf_proper chunk h = record { long = node_length (leaf_message chunk); bytes = node_byte (leaf_message chunk); fits = omega arith }

leaf_long : (bytes : List ℕ) → length (entry_bytes (leaf node_hash bytes)) ≡ 40
unfolding leaf
leaf_long bytes = entry_bytes_length (leaf node_hash bytes) (node_length (leaf_message bytes))

whole_part : (row bytes : List ℕ) → row ≡ entry_bytes (leaf node_hash bytes) → part row 0 40 ≡ entry_bytes (leaf node_hash bytes)
unfolding part
whole_part row bytes e =
    ap (take 40) (e ∙ sym (append-nil (entry_bytes (leaf node_hash bytes)))) ∙ take_at (entry_bytes (leaf node_hash bytes)) [] 40 (leaf_long bytes)

module _ {t bits content p : List ℕ} {n c : ℕ} {w : Way} {start : ℕ} {row path : List ℕ} (r : Ready t bits content p n c w start row path) where
  abbrev shaped : Shaped p n c
  shaped = r.room.packet.shaped

  abbrev chunk : ChunkOf n c
  chunk = r.room.packet.shaped.chunk

  above_many : length (above_row c (length (siblings n c))) ≡ length (siblings n c)
  unfolding above_row
  above_many = length_run _ 0 (length (siblings n c))

  pub own_row : entry_in row 0 ≡ leaf node_hash (packet_chunk p)
  own_row =
      let z = placed p n c shaped in
      let m = chunk_long p n c shaped in
      entry_in_lem row 0 (leaf node_hash (packet_chunk p)) (leaf_proper (packet_chunk p) (omega arith)) (whole_part row (packet_chunk p) r.led.own)

  -- the sum on the way up
  way_small : (leaf node_hash (packet_chunk p)).size + total (map (λ (e : Entry). e.size) (sibling_entries p n c)) ≤ 68719476736
  unfolding leaf packet_total
  way_small = omega (arith, r.room.packet.small, chunk_long p n c shaped)

  -- the parents' row holds as many as the siblings'
  pub path_in_lem : RowIn path 0 w.up
  path_in_lem =
      let z = placed p n c shaped in
      record {
        few = omega (arith, r.way.up);
        inside =
            omega (
              arith,
              r.way.up,
              siblings_count p n c,
              path_long c (leaf node_hash (packet_chunk p)) (sibling_entries p n c) path (numbers w.above) w.up r.led.upward (r.way.up ∙ sym (siblings_count p n c))
                  (r.way.above ∙ ap (λ (k : ℕ). padded 0 k (above_row c k)) (sym (siblings_count p n c))) way_small,
            );
      }

  module _ {first : ℕ} (e : first ≡ siblings_place p + 1) where
    abbrev rows : List Given
    rows =
        lies row 0 (index 0 c)
        ∷ (row_given path 0 (numbers w.above) w.up
        ++ (row_given p first (numbers w.beside) w.up ++ row_given p (first + 40 * w.up + 1) (numbers w.roots) w.others))

    beside_given : given_at (siblings n c) (sibling_entries p n c) ≡ row_given p first (numbers w.beside) w.up
    unfolding sibling_entries
    beside_given =
        ap (λ (at : ℕ). given_at (siblings n c) (entries_in p at (length (siblings n c)))) (sym e)
        ∙ row_given_lem p first (siblings n c) (numbers w.beside) w.up r.way.up r.way.beside

    roots_given : given_at (other_roots n c) (other_entries p n c) ≡ row_given p (first + 40 * w.up + 1) (numbers w.roots) w.others
    unfolding other_entries
    roots_given =
        ap (λ (at : ℕ). given_at (other_roots n c) (entries_in p at (length (other_roots n c)))) (sym (second_is shaped e r.way.up))
        ∙ row_given_lem p (first + 40 * w.up + 1) (other_roots n c) (numbers w.roots) w.others r.way.others r.way.roots

    above_given : map led_to (steps_above node_hash 0 c (leaf node_hash (packet_chunk p)) (sibling_entries p n c)) ≡ row_given path 0 (numbers w.above) w.up
    above_given =
        path_given c (leaf node_hash (packet_chunk p)) (sibling_entries p n c) path (numbers w.above) w.up r.led.upward (r.way.up ∙ sym (siblings_count p n c))
        (r.way.above ∙ ap (λ (k : ℕ). padded 0 k (above_row c k)) (sym (siblings_count p n c))) way_small

    pub all_rows : brought node_hash p n c ≡ rows
    unfolding brought steps lying
    all_rows =
        ap₂ (λ (x : Entry) (y : List Given). record { at = index 0 c; entry = x } ∷ y) (sym own_row)
        (ap₂ (λ (x y : List Given). x ++ y) above_given (ap₂ (λ (x y : List Given). x ++ y) beside_given roots_given))

  -- ---- each row, while it is compared and while the files are written

  pub leaf_row : {i : ℕ} → i ≡ index 0 c → KnowableIn t bits i × 0 + 40 ≤ length row
  leaf_row e = (
    subst (KnowableIn t bits) (sym e) (knowable t bits n chunk.count r.room.nodes r.room.field (index 0 c) (leaf_filled n c chunk)),
    omega (arith, ap length r.led.own, leaf_long (packet_chunk p)),
  )

  module _ (t' bits' : List ℕ) (e : length t' ≡ length t) (f : length bits' ≡ length bits) where
    nodes' : used_tree n ≤ length t'
    nodes' = omega (arith, r.room.nodes)

    field' : used_bitfield n ≤ length bits'
    field' = omega (arith, r.room.field)

    pub path_row_lem : RowFor t' bits' path 0 (numbers w.above) w.up
    path_row_lem =
        row_for t' bits' n chunk.count nodes' field' path 0 (above_row c (length (siblings n c))) (numbers w.above) w.up path_in_lem (aboves_filled n c chunk)
        (r.way.above ∙ ap (λ (k : ℕ). padded 0 k (above_row c (length (siblings n c)))) (sym above_many)) (r.way.up ∙ sym above_many)

    module _ {first : ℕ} (g : first ≡ siblings_place p + 1) where
      pub beside_row : RowFor t' bits' p first (numbers w.beside) w.up
      beside_row =
          row_for t' bits' n chunk.count nodes' field' p first (siblings n c) (numbers w.beside) w.up (beside_in shaped g r.way.up)
          (siblings_filled n c chunk) r.way.beside r.way.up

      pub roots_row : RowFor t' bits' p (first + 40 * w.up + 1) (numbers w.roots) w.others
      roots_row =
          row_for t' bits' n chunk.count nodes' field' p (first + 40 * w.up + 1) (other_roots n c) (numbers w.roots) w.others
          (roots_in shaped g r.way.up r.way.others) (others_filled n c chunk) r.way.roots r.way.others

-- the leaf as a row, and the parents as the check left them
pub led_rows : (p : List ℕ) (n c : ℕ) {l : Entry} {row path : List ℕ} → record { own = l; row = path } ≡ handed_on node_hash p n c → row ≡ entry_bytes l
    → LedRows p n c row path
unfolding handed_on
led_rows p n c led e = record { own = e ∙ ap (λ (h : Handed). entry_bytes h.own) led; upward = ap (λ (h : Handed). h.row) led }
