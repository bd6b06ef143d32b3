-- Where a packet's chunk starts in the data, and that it lies within. Assumes nothing.
use Prim.Native.Nat.{ℕ, ◌+◌, ◌*◌, ◌≤◌}
use mathlib.Core.Path.{◌≡◌, sym, ap, ap₂, ◌∙◌}
use mathlib.Core.List.{List, [], ◌∷◌, ◌++◌, map, map-append}
use native.Mathlib.Omega.{arith}
use lib.ListN.{length}
use Rattle.byte_strings.specs.Lists.{total}
use Rattle.byte_strings.proofs.Lists.{total_append}
use Rattle.tree_index.specs.Tree.{index}
use Rattle.tree_index.specs.Numbers.{numbers}
use Rattle.file_format.specs.Entries.{Entry}
use Rattle.packet.specs.Packet.{siblings, other_roots}
use Rattle.packet.specs.Check.{chunk_length, siblings_place, others_place, packet_chunk, entries_in, sibling_entries, other_entries, packet_total}
use Rattle.packet.specs.Inner.{sizes_in, Shaped}
use Rattle.copy_take_in.specs.TakeIn.{Given, given_at, lying, left_size, packet_start}
use Rattle.copy_take_in.specs.Inner.{row_given, Addable, WayOf, Fits, Room, Held}
use Rattle.copy_take_in.specs.declared.way.Way.{Way}
use Rattle.copy_take_in.proofs.Entries.{left_le, left_whole}
use Rattle.copy_take_in.proofs.Brings.{row_given_lem}
use Rattle.copy_take_in.proofs.Places.{chunk_long, second_is, beside_in, roots_in}
use Rattle.copy_take_in.proofs.Totals.{total_is}
use Rattle.copy_take_in.proofs.Knowable.{data_bit}

pub start_is : {p : List ℕ} {n c : ℕ} {w : Way} {place sum start leaf : ℕ} → Shaped p n c → WayOf n c w → place ≡ siblings_place p + 1 → leaf ≡ index 0 c
    → sum ≡ 0 + total (map (left_size leaf) (row_given p place (numbers w.beside) w.up))
    → start ≡ sum + total (map (left_size leaf) (row_given p (place + 40 * w.up + 1) (numbers w.roots) w.others)) → start ≡ packet_start p n c
unfolding packet_start lying sibling_entries other_entries
start_is {p} {n} {c} {w} {place} {leaf = leaf} s way e l f g =
    let x : given_at (siblings n c) (entries_in p (siblings_place p + 1) (length (siblings n c))) ≡ row_given p place (numbers w.beside) w.up =
    ap (λ (at : ℕ). given_at (siblings n c) (entries_in p at (length (siblings n c)))) (sym e)
    ∙ row_given_lem p place (siblings n c) (numbers w.beside) w.up way.up way.beside in
    let y : given_at (other_roots n c) (entries_in p (others_place p n c + 1) (length (other_roots n c))) ≡ row_given p (place + 40 * w.up + 1) (numbers w.roots) w.others =
    ap (λ (at : ℕ). given_at (other_roots n c) (entries_in p at (length (other_roots n c)))) (sym (second_is s e way.up))
    ∙ row_given_lem p (place + 40 * w.up + 1) (other_roots n c) (numbers w.roots) w.others way.others way.roots in
    let a : List Given = given_at (siblings n c) (entries_in p (siblings_place p + 1) (length (siblings n c))) in
    let b : List Given = given_at (other_roots n c) (entries_in p (others_place p n c + 1) (length (other_roots n c))) in
    let q : total (map (left_size (index 0 c)) (a ++ b)) ≡ total (map (left_size (index 0 c)) a) + total (map (left_size (index 0 c)) b) =
    ap total (map-append (left_size (index 0 c)) a b) ∙ total_append (map (left_size (index 0 c)) a) (map (left_size (index 0 c)) b) in
    let fa : total (map (left_size leaf) (row_given p place (numbers w.beside) w.up)) ≡ total (map (left_size (index 0 c)) a) =
    ap₂ (λ (i : ℕ) (gs : List Given). total (map (left_size i) gs)) l (sym x) in
    let fb : total (map (left_size leaf) (row_given p (place + 40 * w.up + 1) (numbers w.roots) w.others)) ≡ total (map (left_size (index 0 c)) b) =
    ap₂ (λ (i : ℕ) (gs : List Given). total (map (left_size i) gs)) l (sym y) in
    omega arith

-- the lengths to the left may be added
module _ {p : List ℕ} {n c : ℕ} (f : Fits p n c) {w : Way} (way : WayOf n c w) {first : ℕ} (e : first ≡ siblings_place p + 1) where
  sums : chunk_length p + (total (sizes_in p first w.up) + total (sizes_in p (first + 40 * w.up + 1) w.others)) ≡ packet_total p n c
  sums =
      ap₂ (λ (i k : ℕ). chunk_length p + (total (sizes_in p i k) + total (sizes_in p (first + 40 * w.up + 1) w.others))) e way.up
      ∙ ap₂ (λ (i k : ℕ). chunk_length p + (total (sizes_in p (siblings_place p + 1) (length (siblings n c))) + total (sizes_in p i k)))
      (second_is f.shaped e way.up) way.others
      ∙ sym (total_is p n c)

  pub beside_adds : Addable p first w.up 0
  beside_adds = record { inside = beside_in f.shaped e way.up; sum = omega (arith, sums, f.small) }

  module _ (leaf : ℕ) {sum : ℕ} (g : sum ≡ 0 + total (map (left_size leaf) (row_given p first (numbers w.beside) w.up))) where
    pub roots_add : Addable p (first + 40 * w.up + 1) w.others sum
    roots_add =
        record {
          inside = roots_in f.shaped e way.up way.others;
          sum = omega (arith, sums, f.small, left_whole leaf p first (numbers w.beside) w.up w.up (omega arith));
        }

left_small : (leaf : ℕ) (xs : List ℕ) (es : List Entry) → total (map (left_size leaf) (given_at xs es)) ≤ total (map (λ (e : Entry). e.size) es)
unfolding given_at total
left_small leaf [] [] = omega arith
left_small leaf [] (e ∷ es) = omega arith
left_small leaf (x ∷ xs) [] = omega arith
left_small leaf (x ∷ xs) (e ∷ es) = omega (arith, left_le leaf (record { at = x; entry = e }), left_small leaf xs es)

pub start_inside : (p : List ℕ) (n c : ℕ) → packet_start p n c + chunk_length p ≤ packet_total p n c
unfolding packet_start lying packet_total
start_inside p n c =
    let a : List Given = given_at (siblings n c) (sibling_entries p n c) in
    let b : List Given = given_at (other_roots n c) (other_entries p n c) in
    omega (
      arith,
      ap total (map-append (left_size (index 0 c)) a b) ∙ total_append (map (left_size (index 0 c)) a) (map (left_size (index 0 c)) b),
      left_small (index 0 c) (siblings n c) (sibling_entries p n c),
      left_small (index 0 c) (other_roots n c) (other_entries p n c),
    )

pub held_in_lem : {t bits content p : List ℕ} {n c start : ℕ} {bytes : List ℕ} → Room t bits content p n c → start ≡ packet_start p n c → bytes ≡ packet_chunk p
    → Held bits content c start bytes
held_in_lem {t} {bits} {p = p} {n} {c} {bytes = bytes} r e f =
    let h = r.packet.shaped.chunk in
    let l : length bytes ≡ chunk_length p = ap length f ∙ chunk_long p n c r.packet.shaped in
    record {
      small = omega (arith, h.below, h.count);
      bit = data_bit t bits n h.count r.nodes r.field c h.below;
      inside = omega (arith, r.bytes, start_inside p n c);
    }
