-- A copy of a sequence takes in every packet that is made from a register of the sequence. Assumes nothing.
use Prim.Native.Nat.{ℕ, ◌+◌, ◌<◌}
use mathlib.Core.Path.{◌≡◌, refl, sym, ap, ap₂, ◌∙◌}
use mathlib.Core.Bool.{Bool, true}
use mathlib.Core.List.{List, [], ◌∷◌, ◌++◌, map}
use native.Mathlib.Omega.{arith}
use borrow.Author.Tests.{eq-eqb}
use lib.Dec.{eqb}
use lib.ListN.{length, get_or, take}
use lib.Seq.{take_at}
use Rattle.answer_types.specs.Verdict.{Verdict, tree, done, and_then}
use Rattle.byte_strings.specs.Lists.{part, total}
use Rattle.byte_strings.specs.Lowest.{Lowest, nowhere, first}
use Rattle.tree_index.specs.Tree.{index, entries, roots}
use Rattle.tree_index.proofs.Filled.{filled_below}
use Rattle.tree_index.proofs.Roots.{root_filled}
use Rattle.bitfield.specs.Release.{stored_held}
use Rattle.bitfield.specs.Known.{stored_known}
use Rattle.file_format.specs.Headers.{bitfield_header}
use Rattle.file_format.specs.Messages.{HashFunction}
use Rattle.file_format.specs.Entries.{entry_bytes}
use Rattle.file_format.specs.Stored.{stored_size, stored_root_sizes}
use Rattle.file_format.specs.Images.{data_size, root_hash_for}
use Rattle.file_format.specs.Slots.{all_held, Within}
use Rattle.file_format.proofs.Spans.{map_ext}
use Rattle.file_format.proofs.Slots.{all_length, all_contents}
use Rattle.file_format.proofs.OfImage.{bitfield_header_length, stored_total}
use Rattle.checks.specs.Checks.{Check, judged, adds_up}
use Rattle.checks.proofs.Judged.{judged_right}
use Rattle.audit.specs.Audit.{refused_at}
use Rattle.packet.specs.Check.{packet_chunk, packet_total, packet_verdict}
use Rattle.copy_checks.specs.Copy.{Copy, known}
use Rattle.copy_checks.specs.Least.{lower_of}
use Rattle.copy_checks.specs.Checks.{unknown_root, passed_over}
use Rattle.copy_checks.proofs.Steps.{Lent, partly_passes}
use Rattle.copy_take_in.specs.TakeIn.{Given, packet_start, bytes_contradicted, index_if, contradicts, brought, contradiction, take_verdict}
use Rattle.copy_take_in.proofs.Contradicted.{no_entry, no_bytes}
use Rattle.copy_take_in.proofs.Stages.{fits}
use Rattle.byte_strings.proofs.Members.{In, place_in_lem}
use Rattle.theorem_taking_laws.proofs.Among.{brought_filled}
use Rattle.file_format.proofs.Shown.{shown, shown_long, shown_held, shown_known}
use Rattle.theorem_taking_laws.proofs.Starts.{roots_total}
use Rattle.theorem_taking_laws.proofs.Unknown.{each_least}
use Rattle.theorem_copies_whole.specs.Whole.{MadeFrom}
use Rattle.theorem_copies_whole.proofs.Full.{full, full_belongs, full_count}
use Rattle.theorem_copies_whole.proofs.Partly.{Partly, tree_bit_in}
use Rattle.theorem_copies_whole.proofs.Packets.{nodes, piece, start, holds_all, own_chunk, checked}
use Rattle.theorem_copies_whole.proofs.Alike.{all_known}
use Rattle.theorem_copies_whole.proofs.Releases.{known_full}
use Rattle.bitfield.specs.Image.{entries_for}

module _ (F : List ℕ → List ℕ) (hf : HashFunction F) (cs : List (List ℕ)) (w : Within (all_held cs)) (c : Copy) (has knows : ℕ → Bool) (tail : List ℕ)
    (q : Partly F cs c has knows tail) where
  front_is : take 32 c.bitfield ≡ bitfield_header
  unfolding shown
  front_is = ap (take 32) q.bits ∙ take_at bitfield_header (entries_for has knows c.n ++ tail) 32 bitfield_header_length

  lent : Lent c
  lent =
      record {
        count = omega (arith, q.count, w.count, all_length cs);
        tree = q.nodes;
        bitfield = omega (arith, ap length q.bits, shown_long has knows c.n tail);
        content = q.bytes;
        tree_front_lem = q.front;
        bitfield_front = front_is;
      }

  -- the roots of the sequence add up
  full_total : total (stored_root_sizes (full F hf cs w).tree c.n) ≡ c.size
  full_total =
      ap (λ (n : ℕ). total (stored_root_sizes (full F hf cs w).tree n)) (q.count ∙ sym (full_count F hf cs w))
      ∙ stored_total F hf (all_held cs) w (full F hf cs w) (full_belongs F hf cs w) ∙ (full_belongs F hf cs w).total ∙ ap data_size (all_contents cs) ∙ sym q.total

  knows_as : (j : ℕ) → j < entries c.n → stored_known c.bitfield j ≡ knows j
  knows_as j l = ap (λ (x : List ℕ). stored_known x j) q.bits ∙ shown_known has knows c.n tail j (tree_bit_in c.n j l)

  sum_right : (l : Lowest) → unknown_root c ≡ l → passed_over l (adds_up c.tree c.n c.size) ≡ true
  unfolding unknown_root adds_up stored_root_sizes
  sum_right (first i) e = refl
  sum_right nowhere e =
      eq-eqb (total (map (stored_size c.tree) (roots c.n))) c.size
      (ap total (map_ext (stored_size c.tree) (stored_size (full F hf cs w).tree) (roots c.n)
      (λ j l. known_full F hf cs w c has knows tail q (get_or (roots c.n) j 0)
      (sym (knows_as (get_or (roots c.n) j 0) (filled_below c.n (get_or (roots c.n) j 0) (root_filled c.n j l)))
      ∙ all_known (known c) (roots c.n) e (get_or (roots c.n) j 0) (place_in_lem 0 (roots c.n) j l))))
      ∙ full_total)

  module _ (p : List ℕ) (i : ℕ) (m : MadeFrom F cs p i) where
    abbrev gs : List Given
    gs = brought F p c.n i

    agrees : (g : Given) → In g gs → contradicts c.tree c.bitfield g ≡ nowhere
    agrees g l =
        no_entry c.tree c.bitfield g (λ e.
        let f = brought_filled c.n i (own_chunk F hf cs w c.n q.count p i m) F p g l in
        q.entry g.at (sym (knows_as g.at (filled_below c.n g.at f)) ∙ e)
        ∙ ap entry_bytes (sym (nodes F hf cs w c.n q.count p i m g l)))

    bytes_agree : index_if (bytes_contradicted c.bitfield c.content i (packet_start p c.n i) (packet_chunk p)) (index 0 i) ≡ nowhere
    bytes_agree =
        no_bytes c.bitfield c.content i (packet_start p c.n i) (packet_chunk p) (index 0 i) (λ e.
        let h = own_chunk F hf cs w c.n q.count p i m in
        let k : has i ≡ true = sym (ap (λ (x : List ℕ). stored_held x i) q.bits ∙ shown_held has knows c.n tail i h.below) ∙ e in
        let x : packet_chunk p ≡ get_or cs i [] = piece F hf cs w c.n q.count p i m h.below in
        ap₂ (λ (a : ℕ) (y : List ℕ). part c.content a (length y)) (start F hf cs w c.n q.count p i m h) x ∙ q.chunk i k ∙ sym x)

    none : contradiction F c p i ≡ nowhere
    unfolding contradiction lower_of
    none = ap₂ lower_of bytes_agree (each_least (contradicts c.tree c.bitfield) gs agrees)

    sums : packet_total p c.n i ≡ c.size
    sums =
        let h = own_chunk F hf cs w c.n q.count p i m in
        let f = fits F c p i (root_hash_for F (all_held cs)) (sym (checked F hf cs w c.n q.count p i m)) in
        sym (roots_total F p c.n i h (full F hf cs w).tree (holds_all F hf cs w c.n q.count p i m h) f.shaped) ∙ full_total

    pub takes : take_verdict F c p i (root_hash_for F (all_held cs)) ≡ done
    unfolding take_verdict refused_at
    takes =
        let check : Check = record { number = 6; right = eqb (packet_total p c.n i) c.size } in
        let last : Verdict = refused_at 19 tree (contradiction F c p i) done in
        partly_passes c (and_then (packet_verdict F p c.n i (root_hash_for F (all_held cs))) (judged (check ∷ []) last)) lent (sum_right (unknown_root c) refl)
        ∙ ap (λ (v : Verdict). and_then v (judged (check ∷ []) last)) (checked F hf cs w c.n q.count p i m)
        ∙ judged_right (check ∷ []) last (eq-eqb (packet_total p c.n i) c.size sums, tt)
        ∙ ap (λ (l : Lowest). refused_at 19 tree l done) none
