-- Where the pieces of a packet stand in it.
-- Assumes nothing.
use Prim.Native.Nat.{ℕ, zero, suc, ◌+◌, ◌*◌, ◌≤◌, ◌<◌}
use mathlib.Core.Path.{◌≡◌, refl, sym, ap, ap₂, ◌∙◌}
use mathlib.Core.Bool.{true}
use mathlib.Core.List.{List, [], ◌∷◌, ◌++◌, map, append_assoc, append-nil}
use native.Mathlib.Nat.{add-zero, le_of_suc-le-suc, not-suc-le-zero}
use native.Mathlib.Omega.{arith}
use lib.ListN.{length, get_or, length-append}
use borrow.Author.Tests.{eq-eqb}
use Rattle.byte_strings.specs.Lists.{part, joined}
use Rattle.byte_strings.specs.Numbers.{be, number}
use Rattle.byte_strings.proofs.Lists.{get_or_behind, length_part, part_part, part_left, part_behind, part_front, part_at}
use Rattle.byte_strings.proofs.Numbers.{length_be, number_be}
use Rattle.file_format.specs.Sizes.{entry_place}
use Rattle.file_format.specs.Entries.{Entry, entry_bytes}
use Rattle.file_format.proofs.Nodes.{Proper}
use Rattle.lookup.proofs.Visits.{filled_entry}
use Rattle.packet.specs.Packet.{siblings, other_roots, section, packet_with}
use Rattle.packet.specs.Check.{chunk_length, shape_right, packet_chunk, entry_in}
use Rattle.packet.specs.Inner.{Readable}
use Rattle.packet.proofs.Shape.{all_tests}
use Rattle.packet.proofs.Climb.{entry}
use Rattle.packet.proofs.Rows.{Filled, siblings_filled, others_filled, section_long, packet_long}

-- an entry out of its 40 bytes
pub entry_in_lem : (p : List ℕ) (at : ℕ) (e : Entry) → Proper e → part p at 40 ≡ entry_bytes e → entry_in p at ≡ e
unfolding entry_in entry_bytes
entry_in_lem p at e q h =
    ap₂ entry
    (ap (λ (a : ℕ). part p a 32) (sym (add-zero at)) ∙ sym (part_part p at 40 0 32 (omega arith)) ∙ ap (λ (l : List ℕ). part l 0 32) h
    ∙ part_front e.hash (be 8 e.size) 32 q.long)
    (ap number (sym (part_part p at 40 32 8 (omega arith)) ∙ ap (λ (l : List ℕ). part l 32 8) h ∙ last)
    ∙ number_be 8 e.size q.fits)
  where
    last : part (e.hash ++ be 8 e.size) 32 8 ≡ be 8 e.size
    last =
        ap (λ (l : List ℕ). part l 32 8) (sym (ap (λ (l : List ℕ). e.hash ++ l) (append-nil (be 8 e.size))))
        ∙ part_at e.hash (be 8 e.size) [] 32 8 q.long (length_be 8 e.size)

-- the j-th of pieces of 40 bytes one behind the other
joined_at : (f : ℕ → List ℕ) (is : List ℕ) → ((j : ℕ) → j < length is → length (f (get_or is j 0)) ≡ 40) → (j : ℕ) → j < length is
    → part (joined (map f is)) (40 * j) 40 ≡ f (get_or is j 0)
unfolding joined
joined_at f [] l j h = absurd (not-suc-le-zero h)
joined_at f (i ∷ is) l zero h = part_front (f i) (joined (map f is)) 40 (l 0 h)
joined_at f (i ∷ is) l (suc j) h =
    let e : 40 * suc j ≡ 40 + 40 * j = omega arith in
    ap (λ (a : ℕ). part (f i ++ joined (map f is)) a 40) e ∙ part_behind (f i) (joined (map f is)) 40 (40 * j) 40 (l 0 (omega arith))
    ∙ joined_at f is (λ k g. l (suc k) (omega arith)) j (le_of_suc-le-suc h)

module _ (t : List ℕ) (n c : ℕ) (bytes : List ℕ) (r : Readable t n c bytes) where
  section_at : (is : List ℕ) → Filled n is → (j : ℕ) → j < length is → part (section t is) (1 + 40 * j) 40 ≡ part t (entry_place (get_or is j 0)) 40
  unfolding section
  section_at is f j h =
      part_behind (length is ∷ []) (joined (map (λ i. part t (entry_place i) 40) is)) 1 (40 * j) 40 refl
      ∙ joined_at (λ i. part t (entry_place i) 40) is
      (λ k g. length_part t (entry_place (get_or is k 0)) 40 (filled_entry t n (get_or is k 0) r.chunk.count r.inside (f k g)).inside) j h

  abbrev p : List ℕ
  p = packet_with t n c bytes

  abbrev s1 : List ℕ
  s1 = section t (siblings n c)

  abbrev s2 : List ℕ
  s2 = section t (other_roots n c)

  abbrev head : List ℕ
  head = be 4 (length bytes) ++ bytes

  head_long : length head ≡ 4 + length bytes
  head_long = length-append (be 4 (length bytes)) bytes ∙ ap (λ (x : ℕ). x + length bytes) (length_be 4 (length bytes))

  first_cut : p ≡ head ++ (s1 ++ s2)
  unfolding packet_with
  first_cut = sym (append_assoc (be 4 (length bytes)) bytes (s1 ++ s2))

  second_cut : p ≡ (head ++ s1) ++ s2
  second_cut = first_cut ∙ sym (append_assoc head s1 s2)

  second_long : length (head ++ s1) ≡ 4 + length bytes + 1 + 40 * length (siblings n c)
  second_long =
      length-append head s1 ∙ ap₂ (λ (a b : ℕ). a + b) head_long (section_long t n c bytes r (siblings n c) (siblings_filled n c r.chunk))
      ∙ omega arith

  pub length_back : chunk_length p ≡ length bytes
  unfolding chunk_length packet_with
  length_back =
      ap number (part_front (be 4 (length bytes)) (bytes ++ (s1 ++ s2)) 4 (length_be 4 (length bytes)))
      ∙ number_be 4 (length bytes) (let s : length bytes ≤ 65536 = r.short in omega arith)

  pub chunk_back : packet_chunk p ≡ bytes
  unfolding packet_chunk packet_with
  chunk_back = ap (part p 4) length_back ∙ part_at (be 4 (length bytes)) bytes (s1 ++ s2) 4 (length bytes) (length_be 4 (length bytes)) refl

  first_count : get_or p (4 + length bytes) 0 ≡ length (siblings n c)
  unfolding section
  first_count =
      ap₂ (λ (l : List ℕ) (a : ℕ). get_or l a 0) first_cut (sym (add-zero (4 + length bytes)))
      ∙ get_or_behind head (s1 ++ s2) (4 + length bytes) 0 0 head_long

  second_count : get_or p (4 + length bytes + 1 + 40 * length (siblings n c)) 0 ≡ length (other_roots n c)
  unfolding section
  second_count =
      ap₂ (λ (l : List ℕ) (a : ℕ). get_or l a 0) second_cut (sym (add-zero (4 + length bytes + 1 + 40 * length (siblings n c))))
      ∙ get_or_behind (head ++ s1) s2 (4 + length bytes + 1 + 40 * length (siblings n c)) 0 0 second_long

  pub shape_right_lem : shape_right p n c ≡ true
  shape_right_lem =
      let l = packet_long t n c bytes r (length (siblings n c)) (length (other_roots n c)) refl refl in
      sym (all_tests (record { long = sym length_back; up = refl; others = refl }) (omega arith) r.short (sym l) (sym first_count) refl (sym second_count))
      ∙ eq-eqb (length (other_roots n c)) (length (other_roots n c)) refl

  pub sibling_at : (j : ℕ) → j < length (siblings n c) → part p (4 + length bytes + 1 + 40 * j) 40 ≡ part t (entry_place (get_or (siblings n c) j 0)) 40
  sibling_at j h =
      let e : 4 + length bytes + 1 + 40 * j ≡ 4 + length bytes + (1 + 40 * j) = omega arith in
      let z = section_long t n c bytes r (siblings n c) (siblings_filled n c r.chunk) in
      ap₂ (λ (l : List ℕ) (a : ℕ). part l a 40) first_cut e ∙ part_behind head (s1 ++ s2) (4 + length bytes) (1 + 40 * j) 40 head_long
      ∙ part_left s1 s2 (1 + 40 * j) 40 (omega arith) ∙ section_at (siblings n c) (siblings_filled n c r.chunk) j h

  pub other_at : (j : ℕ) → j < length (other_roots n c)
      → part p (4 + length bytes + 1 + 40 * length (siblings n c) + 1 + 40 * j) 40 ≡ part t (entry_place (get_or (other_roots n c) j 0)) 40
  other_at j h =
      let e : 4 + length bytes + 1 + 40 * length (siblings n c) + 1 + 40 * j ≡ 4 + length bytes + 1 + 40 * length (siblings n c) + (1 + 40 * j) = omega arith in
      ap₂ (λ (l : List ℕ) (a : ℕ). part l a 40) second_cut e
      ∙ part_behind (head ++ s1) s2 (4 + length bytes + 1 + 40 * length (siblings n c)) (1 + 40 * j) 40 second_long
      ∙ section_at (other_roots n c) (others_filled n c r.chunk) j h
