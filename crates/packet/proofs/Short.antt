-- No packet has more than 38 entries, nor more than `packet_extra` bytes beside its chunk. Assumes nothing.
use Prim.Native.Nat.{ℕ, suc, ◌+◌, ◌-◌, ◌*◌, ◌/◌, ◌%◌, ◌^◌, ◌≤◌, ◌<◌}
use mathlib.Core.Path.{◌≡◌, refl, sym, ap, ◌∙◌, subst}
use mathlib.Core.Bool.{Bool}
use mathlib.Core.Logic.{◌⊎◌, inl, inr}
use mathlib.Core.List.{List, [], ◌∷◌, ◌++◌, map}
use native.Mathlib.Nat.{eq-or-lt_of_le, min-le_left, le_trans, suc-mul}
use native.Mathlib.Omega.{arith}
use borrow.Author.Tests.{le-leb}
use lib.ListN.{length, get_or, drop, length-append, length-take}
use Rattle.answer_types.specs.Verdict.{Verdict, done, refused, and_then}
use Rattle.byte_strings.specs.Lists.{part, joined}
use Rattle.byte_strings.specs.Numbers.{be}
use Rattle.byte_strings.proofs.Numbers.{length_be}
use Rattle.tree_index.specs.Tree.{depth, root_of, roots_below, roots}
use Rattle.tree_index.proofs.Index.{depth_index}
use Rattle.tree_index.proofs.Roots.{root_at}
use Rattle.file_format.specs.Sizes.{entry_place}
use Rattle.file_format.specs.Belongs.{Register}
use Rattle.lookup.specs.Read.{chunk_bytes, read_verdict}
use Rattle.packet.specs.Packet.{siblings, other_roots, section, packet_of, packet_extra, room_or14, make_verdict, packet_with, place_above}
use Rattle.packet.specs.Inner.{ChunkOf}
use Rattle.packet.specs.Theorems.{PacketStaysShortForAll}
use Rattle.packet.proofs.Above.{place_below, sibling_count_lem, other_count_lem, few_siblings, few_others}

-- ---- how many entries there are

-- the root above a chunk of fewer than 1,048,576 chunks spans no more than 524,288
shallow : (n d : ℕ) → n < 1048576 → d < 21 → n / 2 ^ d % 2 ≡ 1 → d ≤ 19
shallow n d h l e = pick (eq-or-lt_of_le l)
  where
    pick : (suc d ≡ 21) ⊎ (suc d < 21) → d ≤ 19
    pick (inl f) =
        let twenty : d ≡ 20 = omega arith in
        let g : n / 2 ^ 20 % 2 ≡ 1 = subst (λ (x : ℕ). n / 2 ^ x % 2 ≡ 1) twenty e in
        absurd (omega arith)
    pick (inr g) = omega arith

few_below : (n c : ℕ) → ChunkOf n c → n < 1048576 → length (siblings n c) ≤ 19
few_below n c h l =
    let p = root_at n (place_above (roots n) c) (place_below n c h) in
    let e : depth (get_or (roots n) (place_above (roots n) c) 0) ≡ p.0 = ap depth p.3 ∙ depth_index p.0 (n / 2 ^ p.0 - 1) in
    omega (arith, sibling_count_lem n c (get_or (roots n) (place_above (roots n) c) 0) refl, shallow n p.0 l p.1 p.2)

one_root_alone : length (roots 1048576) ≡ 1
unfolding roots roots_below root_of
one_root_alone = refl

few_entries : (n c : ℕ) → ChunkOf n c → length (siblings n c) + length (other_roots n c) ≤ 38
few_entries n c h = pick (eq-or-lt_of_le h.count)
  where
    pick : (n ≡ 1048576) ⊎ (n < 1048576) → length (siblings n c) + length (other_roots n c) ≤ 38
    pick (inl e) = omega (arith, few_siblings n c h, other_count_lem n c h, ap (λ (m : ℕ). length (roots m)) e, one_root_alone)
    pick (inr l) = omega (arith, few_below n c h l, few_others n c h)

-- ---- and how many bytes

-- the part of a file at a place is no longer than asked for, also where the file ends before it
part_short : (xs : List ℕ) (at k : ℕ) → length (part xs at k) ≤ k
unfolding part
part_short xs at k = subst (λ (x : ℕ). x ≤ k) (sym (length-take k (drop at xs))) (min-le_left k (length (drop at xs)))

joined_short : (f : ℕ → List ℕ) (k : ℕ) → ((i : ℕ) → length (f i) ≤ k) → (is : List ℕ) → length (joined (map f is)) ≤ length is * k
unfolding joined
joined_short f k h [] = omega arith
joined_short f k h (i ∷ is) =
    omega (arith, length-append (f i) (joined (map f is)), h i, joined_short f k h is, suc-mul (length is) k)

section_short : (t is : List ℕ) → length (section t is) ≤ 1 + 40 * length is
unfolding section
section_short t is = omega (arith, joined_short (λ i. part t (entry_place i) 40) 40 (λ i. part_short t (entry_place i) 40) is)

packet_short : (r : Register) (i : ℕ) → ChunkOf r.n i → length (packet_of r i) ≤ length (chunk_bytes r i) + packet_extra
unfolding packet_of packet_with packet_extra
packet_short r i h =
    let x = chunk_bytes r i in
    let a = section r.tree (siblings r.n i) in
    let b = section r.tree (other_roots r.n i) in
    omega (
      arith,
      length-append (be 4 (length x)) (x ++ (a ++ b)),
      length-append x (a ++ b),
      length-append a b,
      length_be 4 (length x),
      section_short r.tree
          (siblings r.n i),
      section_short r.tree (other_roots r.n i),
      few_entries r.n i h,
    )

-- ---- a buffer that is long enough

and_done : (v : Verdict) → and_then v done ≡ v
and_done done = refl
and_done (refused m at) = refl

packet_room : (F : List ℕ → List ℕ) (r : Register) (i : ℕ) (out : List ℕ) → length (packet_of r i) ≤ length out
    → make_verdict F r i out ≡ read_verdict F r i
unfolding make_verdict
packet_room F r i out l =
    ap (λ (b : Bool). and_then (read_verdict F r i) (room_or14 b)) (le-leb (length (packet_of r i)) (length out) l) ∙ and_done (read_verdict F r i)

pub packet_stays_short : PacketStaysShortForAll
packet_stays_short r m i l =
    let h : ChunkOf r.n i = record { count = m; below = l } in
    record {
      few = few_entries r.n i h;
      short = packet_short r i h;
      room = λ F out g. packet_room F r i out (le_trans (packet_short r i h) g);
    }
