-- A packet is put together again from its chunk and from a tree file that has its entries. Assumes nothing.
use Prim.Native.Nat.{ℕ, ◌+◌, ◌*◌, ◌≤◌, ◌<◌}
use mathlib.Core.Path.{◌≡◌, refl, sym, ap, ap₂, ◌∙◌}
use mathlib.Core.Bool.{true}
use mathlib.Core.List.{List, [], ◌∷◌, ◌++◌, map}
use native.Mathlib.Nat.{zero-add}
use native.Mathlib.Omega.{arith}
use borrow.Author.Tests.{eqb-true}
use lib.Dec.{leb, eqb}
use lib.ListN.{length, get_or}
use lib.Seq.{take-length}
use Rattle.byte_strings.specs.Lists.{part, run, joined, Bytes}
use Rattle.byte_strings.specs.Numbers.{be}
use Rattle.byte_strings.proofs.Lists.{length_part, part_add, part_run, parts_joined, run_ext, run_get_or, get_or_run, bytes_part}
use Rattle.byte_strings.proofs.Numbers.{be_number}
use Rattle.file_format.specs.Sizes.{longest_chunk, entry_place}
use Rattle.file_format.specs.Entries.{hole, entry_bytes}
use Rattle.packet.specs.Packet.{siblings, other_roots, section, packet_with}
use Rattle.packet.specs.Check.{chunk_length, siblings_place, others_place, whole_length, shape_right, packet_chunk, entry_in, entries_in, sibling_entries, other_entries}
use Rattle.packet.specs.Inner.{Shaped}
use Rattle.packet.proofs.Right.{map_run}
use Rattle.packet.proofs.Shape.{sized}
use Rattle.packet_compare.proofs.Stands.{sibling_is}
use Rattle.copy_take_in.specs.TakeIn.{Given, brought}
use Rattle.copy_take_in.proofs.Places.{chunk_long}
use Rattle.byte_strings.proofs.Members.{In}
use Rattle.byte_strings.proofs.Bools.{both_true}
use Rattle.theorem_taking_laws.proofs.Brought.{side_brought, other_brought}

-- a list cut at a place
cut : (xs : List ℕ) (at a b : ℕ) (ys zs : List ℕ) → part xs at a ≡ ys → part xs (at + a) b ≡ zs → part xs at (a + b) ≡ ys ++ zs
cut xs at a b ys zs e f = part_add xs at a b ∙ ap₂ ◌++◌ e f

-- the two counts that a right shape has
counted : (p : List ℕ) (n c : ℕ) → shape_right p n c ≡ true
    → (get_or p (4 + chunk_length p) 0 ≡ length (siblings n c))
    × (get_or p (4 + chunk_length p + 1 + 40 * length (siblings n c)) 0 ≡ length (other_roots n c))
unfolding shape_right whole_length others_place siblings_place
counted p n c e =
    let a = both_true (leb 4 (length p)) _ e in
    let b = both_true (leb (chunk_length p) longest_chunk) _ a.1 in
    let d = both_true (eqb (length p) (whole_length p n c)) _ b.1 in
    let f = both_true _ _ d.1 in
    (eqb-true _ _ f.0, eqb-true _ _ f.1)

module _ (p : List ℕ) (bp : Bytes p) where
  -- the 40 bytes of an entry
  in_bytes : (at : ℕ) → at + 40 ≤ length p → entry_bytes (entry_in p at) ≡ part p at 40
  unfolding entry_bytes entry_in
  in_bytes at l =
      ap (λ (x : List ℕ). part p at 32 ++ x) (be_number 8 (part p (at + 32) 8) (bytes_part p (at + 32) 8 bp) (length_part p (at + 32) 8 (omega arith)))
      ∙ sym (part_add p at 32 8)

  module _ (t : List ℕ) (is : List ℕ) (at : ℕ) (count : get_or p at 0 ≡ length is) (inside : at + 1 + 40 * length is ≤ length p)
      (each : (j : ℕ) → j < length is → part t (entry_place (get_or is j 0)) 40 ≡ entry_bytes (entry_in p (at + 1 + 40 * j))) where
    entries_are : joined (map (λ i. part t (entry_place i) 40) is) ≡ part p (at + 1) (40 * length is)
    entries_are =
        ap (λ (l : List ℕ). joined (map (λ i. part t (entry_place i) 40) l)) (sym (run_get_or is (length is) 0 refl))
        ∙ ap joined (map_run (λ i. part t (entry_place i) 40) (λ j. get_or is j 0) 0 (length is)
        ∙ run_ext (λ j. part t (entry_place (get_or is j 0)) 40) (λ j. part p (at + 1 + 40 * j) 40) 0 (length is)
        (λ j a b. each j (omega arith) ∙ in_bytes (at + 1 + 40 * j) (omega arith)))
        ∙ parts_joined p (at + 1) 40 (length is)

    one : part p at 1 ≡ length is ∷ []
    unfolding run
    one = part_run p at 1 0 (omega arith) ∙ ap (λ (x : ℕ). x ∷ []) count

    section_is : part p at (1 + 40 * length is) ≡ section t is
    unfolding section
    section_is = cut p at 1 (40 * length is) (length is ∷ []) (joined (map (λ i. part t (entry_place i) 40) is)) one (sym entries_are)

module _ (F : List ℕ → List ℕ) (p : List ℕ) (bp : Bytes p) (n c : ℕ) (s : Shaped p n c) (t : List ℕ)
    (entries : (g : Given) → In g (brought F p n c) → part t (entry_place g.at) 40 ≡ entry_bytes g.entry) where
  abbrev l : ℕ
  l = chunk_length p

  abbrev u : ℕ
  u = length (siblings n c)

  abbrev o : ℕ
  o = length (other_roots n c)

  whole : length p ≡ 4 + chunk_length p + 1 + 40 * length (siblings n c) + 1 + 40 * length (other_roots n c)
  whole = (sized p n c s.shape).whole

  counts : (get_or p (4 + chunk_length p) 0 ≡ length (siblings n c))
      × (get_or p (4 + chunk_length p + 1 + 40 * length (siblings n c)) 0 ≡ length (other_roots n c))
  counts = counted p n c s.shape

  side_entry : (j : ℕ) → j < u → part t (entry_place (get_or (siblings n c) j 0)) 40 ≡ entry_bytes (entry_in p (4 + l + 1 + 40 * j))
  unfolding sibling_entries entries_in siblings_place
  side_entry j m =
      ap (λ (i : ℕ). part t (entry_place i) 40) (sibling_is F p n c j m) ∙ entries _ (side_brought F p n c j m)
      ∙ ap entry_bytes (get_or_run (λ k. entry_in p (4 + chunk_length p + 1 + 40 * k)) 0 u j hole m ∙ ap (λ (k : ℕ). entry_in p (4 + l + 1 + 40 * k)) (zero-add j))

  other_entry : (j : ℕ) → j < o → part t (entry_place (get_or (other_roots n c) j 0)) 40 ≡ entry_bytes (entry_in p (4 + l + 1 + 40 * u + 1 + 40 * j))
  unfolding other_entries entries_in others_place siblings_place
  other_entry j m =
      entries _ (other_brought F p n c j m)
      ∙ ap entry_bytes (get_or_run (λ k. entry_in p (4 + chunk_length p + 1 + 40 * length (siblings n c) + 1 + 40 * k)) 0 o j hole m
      ∙ ap (λ (k : ℕ). entry_in p (4 + l + 1 + 40 * u + 1 + 40 * k)) (zero-add j))

  length_four : part p 0 4 ≡ be 4 (length (packet_chunk p))
  unfolding chunk_length
  length_four =
      sym (ap (be 4) (chunk_long p n c s) ∙ be_number 4 (part p 0 4) (bytes_part p 0 4 bp) (length_part p 0 4 (omega (arith, whole))))

  chunk_part : part p 4 (chunk_length p) ≡ packet_chunk p
  unfolding packet_chunk
  chunk_part = refl

  all_of : part p 0 (length p) ≡ p
  unfolding part
  all_of = take-length p

  pub rebuilt : packet_with t n c (packet_chunk p) ≡ p
  unfolding packet_with
  rebuilt =
      let sum : length p ≡ 4 + (l + (1 + 40 * u + (1 + 40 * o))) = omega (arith, whole) in
      let x : 4 + l + (1 + 40 * u) ≡ 4 + l + 1 + 40 * u = omega arith in
      sym
      (sym all_of ∙ ap (part p 0) sum
      ∙ cut p 0 4 (l + (1 + 40 * u + (1 + 40 * o))) _ _ length_four
      (cut p 4 l (1 + 40 * u + (1 + 40 * o)) _ _ chunk_part
      (cut p (4 + l) (1 + 40 * u) (1 + 40 * o) _ _
      (section_is p bp t (siblings n c) (4 + l) counts.0 (omega (arith, whole)) side_entry)
      (ap (λ (a : ℕ). part p a (1 + 40 * o)) x
      ∙ section_is p bp t (other_roots n c) (4 + l + 1 + 40 * u) counts.1 (omega (arith, whole)) other_entry))))
