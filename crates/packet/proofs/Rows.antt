-- The entries that a packet is made of: they lie in the tree file, and stand in the packet one behind the other.
-- Assumes nothing.
use Prim.Native.Nat.{ℕ, zero, suc, ◌+◌, ◌-◌, ◌*◌, ◌/◌, ◌%◌, ◌^◌, ◌≤◌, ◌<◌}
use mathlib.Core.Path.{◌≡◌, refl, sym, ap, ap₂, ◌∙◌, subst}
use mathlib.Core.Bool.{Bool, true, false, cond}
use mathlib.Core.Logic.{◌⊎◌, inl, inr}
use mathlib.Core.List.{List, [], ◌∷◌, ◌++◌, map, append_assoc}
use native.Mathlib.Nat.{zero-add, add-zero, add-suc, le_refl, le_trans, mul-le-mul_right, mul_assoc, div-lt_iff_lt-mul}
use native.Mathlib.Numerals.{add-one, one-add}
use native.Mathlib.Omega.{arith}
use lib.Dec.{ltb}
use lib.ListN.{length, get_or, set, take, drop, replicate, length-append, get_or-append}
use lib.Pow.{pow_pos, shr-shr}
use borrow.Author.Tests.{leb-true}
use Rattle.byte_strings.specs.Lists.{part, put, run, joined}
use Rattle.byte_strings.specs.Numbers.{be}
use Rattle.byte_strings.proofs.Lists.{length_part, put_nil, put_one, length_run, get_or_run, joined_run_suc}
use Rattle.byte_strings.proofs.Numbers.{length_be}
use Rattle.tree_index.specs.Tree.{index, depth, block, filled, roots}
use Rattle.tree_index.proofs.Index.{pow_twice}
use Rattle.tree_index.proofs.Filled.{end_filled}
use Rattle.tree_index.proofs.Roots.{bit, root_filled}
use Rattle.file_format.specs.Sizes.{most_chunks, entry_place, used_tree}
use Rattle.file_format.specs.Inner.{EntryIn, EntriesIn}
use Rattle.file_format.specs.RootsByValue.{padded}
use Rattle.file_format.proofs.ByValue.{gathered}
use Rattle.file_format.proofs.Places.{put_next}
use Rattle.lookup.proofs.Visits.{filled_entry}
use Rattle.packet.specs.Packet.{root_above, beside, siblings, other_roots, section, packet_with, place_above}
use Rattle.packet.specs.Check.{sibling_entries, entries_in}
use Rattle.packet.specs.Inner.{ChunkOf, skipped, sibling_row, other_row, entries_at, Readable}
use Rattle.packet.proofs.Above.{place_root, place_below, root_spans, others_cut, cut_run, other_count_lem, few_siblings, few_others}

-- ---- the siblings are filled

abbrev arranged : ℕ → ℕ → ℕ → ℕ
arranged b x y = elim b [ zero ↦ x | suc c ↦ y ]

pub beside_even : (k : ℕ) → k % 2 ≡ 0 → k + 1 ≡ beside k
unfolding beside
beside_even k e = sym (ap (λ (b : ℕ). arranged b (k + 1) (k - 1)) e)

pub beside_odd : (k : ℕ) → k % 2 ≡ 1 → k - 1 ≡ beside k
unfolding beside
beside_odd k e = sym (ap (λ (b : ℕ). arranged b (k + 1) (k - 1)) e)

-- the block beside ends no later than the parent of both
pub beside_end : (k : ℕ) → beside k + 1 ≤ 2 * (k / 2 + 1)
beside_end k = pick (bit k)
  where
    pick : (k % 2 ≡ 0) ⊎ (k % 2 ≡ 1) → beside k + 1 ≤ 2 * (k / 2 + 1)
    pick (inl e) = omega (arith, beside_even k e)
    pick (inr e) = omega (arith, beside_odd k e)

-- where the block of 2^d chunks around chunk c ends
abbrev ending : ℕ → ℕ → ℕ
ending c d = (c / 2 ^ d + 1) * 2 ^ d

pub half : (c d : ℕ) → c / 2 ^ d / 2 ≡ c / 2 ^ suc d
half c d = shr-shr c d 1 ∙ ap (λ (k : ℕ). c / 2 ^ k) (add-one d)

doubled : (c d x : ℕ) → x ≤ 2 * (c / 2 ^ d / 2 + 1) → x * 2 ^ d ≤ ending c (suc d)
doubled c d x h =
    subst (λ (y : ℕ). x * 2 ^ d ≤ y)
    (mul_assoc 2 (c / 2 ^ d / 2 + 1) (2 ^ d) ∙ sym (pow_twice (c / 2 ^ d / 2 + 1) d) ∙ ap (λ (y : ℕ). (y + 1) * 2 ^ suc d) (half c d))
    (mul-le-mul_right (2 ^ d) h)

ending_step : (c d : ℕ) → ending c d ≤ ending c (suc d)
ending_step c d = doubled c d (c / 2 ^ d + 1) (omega arith)

ending_up : (c d e : ℕ) → ending c d ≤ ending c (d + e)
ending_up c d zero = subst (λ (x : ℕ). ending c d ≤ ending c x) (sym (add-zero d)) (le_refl (ending c d))
ending_up c d (suc e) =
    subst (λ (x : ℕ). ending c d ≤ ending c x) (sym (add-suc d e)) (le_trans (ending_up c d e) (ending_step c (d + e)))

-- the root above a chunk ends within the register
root_end : (n c : ℕ) → ChunkOf n c → ending c (depth (root_above (roots n) c)) ≤ n
unfolding filled
root_end n c h =
    let i : ℕ = root_above (roots n) c in
    let f : filled n (root_above (roots n) c) ≡ true =
    subst (λ (x : ℕ). filled n x ≡ true) (sym (place_root (roots n) c)) (root_filled n (place_above (roots n) c) (place_below n c h)) in
    let l : (block i + 1) * 2 ^ depth i ≤ n = leb-true ((block i + 1) * 2 ^ depth i) n f in
    let s = root_spans n c h in
    let q : c / 2 ^ depth i < block i + 1 = (div-lt_iff_lt-mul (pow_pos (depth i))).1 s.to in
    le_trans (mul-le-mul_right (2 ^ depth i) (subst (λ (x : ℕ). x ≤ block i + 1) (sym (add-one (c / 2 ^ depth i))) q)) l

pub sibling_filled : (n c d : ℕ) → ChunkOf n c → d < depth (root_above (roots n) c) → filled n (index d (beside (c / 2 ^ d))) ≡ true
sibling_filled n c d h l =
    let e : suc d + (depth (root_above (roots n) c) - suc d) ≡ depth (root_above (roots n) c) = omega arith in
    let up : ending c (suc d) ≤ ending c (depth (root_above (roots n) c)) =
    subst (λ (x : ℕ). ending c (suc d) ≤ ending c x) e (ending_up c (suc d) (depth (root_above (roots n) c) - suc d)) in
    end_filled n d (beside (c / 2 ^ d))
    (le_trans (doubled c d (beside (c / 2 ^ d) + 1) (beside_end (c / 2 ^ d))) (le_trans up (root_end n c h)))

-- ---- rows of filled indexes

abbrev pub Filled : ℕ → List ℕ → Type 0
Filled n is = (j : ℕ) → j < length is → filled n (get_or is j 0) ≡ true

pub siblings_row : (n c u : ℕ) → u ≡ length (siblings n c) → sibling_row c u ≡ siblings n c
unfolding siblings sibling_row
siblings_row n c u e = ap (run (λ h. index h (beside (c / 2 ^ h))) 0) (e ∙ length_run _ 0 (depth (root_above (roots n) c)))

pub siblings_filled : (n c : ℕ) → ChunkOf n c → Filled n (siblings n c)
unfolding siblings
siblings_filled n c h j l =
    let g : j < depth (root_above (roots n) c) = subst (λ (x : ℕ). j < x) (length_run _ 0 (depth (root_above (roots n) c))) l in
    subst (λ (x : ℕ). filled n x ≡ true)
    (sym (get_or_run (λ d. index d (beside (c / 2 ^ d))) 0 (depth (root_above (roots n) c)) j 0 g ∙ ap (λ (d : ℕ). index d (beside (c / 2 ^ d))) (zero-add j)))
    (sibling_filled n c j h g)

pub others_row : (n c place : ℕ) → ChunkOf n c → place ≡ place_above (roots n) c → other_row (roots n) place (length (roots n) - 1) ≡ other_roots n c
unfolding other_row
others_row n c place h e =
    ap (λ (k : ℕ). run (λ j. get_or (roots n) (skipped k j) 0) 0 (length (roots n) - 1)) e
    ∙ sym (others_cut n c h ∙ cut_run 0 (roots n) (place_above (roots n) c) (place_below n c h))

pub skipped_below : (k j m : ℕ) → j < m - 1 → k < m → skipped k j < m
skipped_below k j m h l = pick (ltb j k)
  where
    pick : (b : Bool) → cond b j (j + 1) < m
    pick true = omega arith
    pick false = omega arith

other_filled : (n c : ℕ) → ChunkOf n c → Filled n (other_row (roots n) (place_above (roots n) c) (length (roots n) - 1))
unfolding other_row
other_filled n c h j l =
    let k : ℕ = place_above (roots n) c in
    let g : j < length (roots n) - 1 = subst (λ (x : ℕ). j < x) (length_run (λ i. get_or (roots n) (skipped (place_above (roots n) c) i) 0) 0 (length (roots n) - 1)) l in
    subst (λ (x : ℕ). filled n x ≡ true)
    (sym (get_or_run (λ i. get_or (roots n) (skipped (place_above (roots n) c) i) 0) 0 (length (roots n) - 1) j 0 g
    ∙ ap (λ (i : ℕ). get_or (roots n) (skipped (place_above (roots n) c) i) 0) (zero-add j)))
    (root_filled n (skipped (place_above (roots n) c) j) (skipped_below (place_above (roots n) c) j (length (roots n)) g (place_below n c h)))

pub others_filled : (n c : ℕ) → ChunkOf n c → Filled n (other_roots n c)
others_filled n c h = subst (λ (l : List ℕ). Filled n l) (others_row n c (place_above (roots n) c) h refl) (other_filled n c h)

-- ---- where they are stored

module _ (t : List ℕ) (n : ℕ) (few : n ≤ most_chunks) (inside : used_tree n ≤ length t) (is : List ℕ) (f : Filled n is) (idx : List ℕ) (k : ℕ)
    (e : idx ≡ padded 0 k is) (m : k ≡ length is) where
  row_at : (j : ℕ) → j < k → get_or idx j 0 ≡ get_or is j 0
  unfolding padded
  row_at j h = ap (λ (l : List ℕ). get_or l j 0) e ∙ get_or-append is (replicate (20 - k) 0) 0 j (subst (λ (x : ℕ). j < x) m h)

  pub row_in : k ≤ 20 → EntriesIn t idx k
  row_in s =
      record {
        few = s;
        each = λ j h. subst (EntryIn t) (sym (row_at j h)) (filled_entry t n (get_or is j 0) few inside (f j (subst (λ (x : ℕ). j < x) m h)));
      }

  pub row_section : k ∷ entries_at t idx k ≡ section t is
  unfolding entries_at section padded
  row_section =
      ap (λ (l : List ℕ). k ∷ joined (run (λ j. part t (entry_place (get_or l j 0)) 40) 0 k)) e
      ∙ ap (λ (x : ℕ). x ∷ joined (run (λ j. part t (entry_place (get_or (is ++ replicate (20 - k) 0) j 0)) 40) 0 x)) m
      ∙ ap (λ (l : List (List ℕ)). length is ∷ joined l) (gathered (λ i. part t (entry_place i) 40) is (replicate (20 - k) 0))

-- ---- entries one behind the other

entries_suc : (t is : List ℕ) (j : ℕ) → entries_at t is (j + 1) ≡ entries_at t is j ++ part t (entry_place (get_or is j 0)) 40
unfolding entries_at
entries_suc t is j =
    ap (λ (k : ℕ). joined (run (λ i. part t (entry_place (get_or is i 0)) 40) 0 k)) (add-one j)
    ∙ joined_run_suc (λ i. part t (entry_place (get_or is i 0)) 40) 0 j
    ∙ ap (λ (k : ℕ). joined (run (λ i. part t (entry_place (get_or is i 0)) 40) 0 j) ++ part t (entry_place (get_or is k 0)) 40) (zero-add j)

entries_none : (t is : List ℕ) → length (entries_at t is 0) ≡ 40 * 0
unfolding entries_at run joined
entries_none t is = refl

pub entries_long : (t is : List ℕ) (k : ℕ) → EntriesIn t is k → (j : ℕ) → j ≤ k → length (entries_at t is j) ≡ 40 * j
entries_long t is k e zero h = entries_none t is
entries_long t is k e (suc j) h =
    subst (λ (x : ℕ). length (entries_at t is x) ≡ 40 * x) (add-one j)
    (ap length (entries_suc t is j) ∙ length-append (entries_at t is j) (part t (entry_place (get_or is j 0)) 40)
    ∙ ap₂ (λ (a b : ℕ). a + b) (entries_long t is k e j (omega arith)) (length_part t (entry_place (get_or is j 0)) 40 (e.each j (omega arith)).inside)
    ∙ omega arith)

-- the first j entries are written
pub record Writing (t is out₀ : List ℕ) (at j : ℕ) (out : List ℕ) : Type 0 where
  pub holds : out ≡ put out₀ at (entries_at t is j)
  pub long : length out ≡ length out₀

module _ (t is out₀ : List ℕ) (at : ℕ) where
  pub writing_none : Writing t is out₀ at 0 out₀
  unfolding entries_at run joined
  writing_none = record { holds = sym (put_nil out₀ at); long = refl }

  pub writing_next : (k j : ℕ) (out after bytes : List ℕ) → EntriesIn t is k → j < k → at + 40 * k ≤ length out₀ → Writing t is out₀ at j out
      → length after ≡ length out → bytes ≡ part t (entry_place (get_or is j 0)) 40 → after ≡ put out (at + 40 * j) bytes
      → Writing t is out₀ at (j + 1) after
  writing_next k j out after bytes e h r w l b a =
      record {
        holds = a ∙ ap₂ (λ (x y : List ℕ). put x (at + 40 * j) y) w.holds b
            ∙ put_next out₀ at (at + 40 * j) (40 * j) (entries_at t is j) (part t (entry_place (get_or is j 0)) 40) (entries_long t is k e j (omega arith)) refl (omega arith)
            ∙ ap (put out₀ at) (sym (entries_suc t is j));
        long = l ∙ w.long;
      }

-- ---- the packet's sections

pub section_written : (out mid after : List ℕ) (at k : ℕ) (ys : List ℕ) → at < length out → mid ≡ set out at k → after ≡ put mid (at + 1) ys
    → after ≡ put out at (k ∷ ys)
section_written out mid after at k ys h e f =
    f ∙ ap (λ (l : List ℕ). put l (at + 1) ys) (e ∙ put_one out at k h) ∙ put_next out at (at + 1) 1 (k ∷ []) ys refl refl (omega arith)

module _ (t : List ℕ) (n c : ℕ) (bytes : List ℕ) (r : Readable t n c bytes) where
  filled_long : (is : List ℕ) → Filled n is → length (joined (map (λ i. part t (entry_place i) 40) is)) ≡ 40 * length is
  unfolding joined
  filled_long [] f = refl
  filled_long (i ∷ is) f =
      length-append (part t (entry_place i) 40) (joined (map (λ i. part t (entry_place i) 40) is))
      ∙ ap₂ (λ (a b : ℕ). a + b)
      (length_part t (entry_place i) 40 (filled_entry t n i r.chunk.count r.inside (f 0 (omega arith))).inside)
      (filled_long is (λ j l. f (suc j) (omega arith)))
      ∙ omega arith

  pub section_long : (is : List ℕ) → Filled n is → length (section t is) ≡ 1 + 40 * length is
  unfolding section
  section_long is f = ap suc (filled_long is f) ∙ sym (one-add (40 * length is))

  pub packet_long : (u o : ℕ) → u ≡ length (siblings n c) → o ≡ length (other_roots n c)
      → 4 + length bytes + 1 + 40 * u + 1 + 40 * o ≡ length (packet_with t n c bytes)
  unfolding packet_with
  packet_long u o e f =
      let a = length-append (be 4 (length bytes)) (bytes ++ (section t (siblings n c) ++ section t (other_roots n c))) in
      let b = length-append bytes (section t (siblings n c) ++ section t (other_roots n c)) in
      let d = length-append (section t (siblings n c)) (section t (other_roots n c)) in
      let g = length_be 4 (length bytes) in
      let h = section_long (siblings n c) (siblings_filled n c r.chunk) in
      let i = section_long (other_roots n c) (others_filled n c r.chunk) in
      omega arith

  module _ (above : List ℕ) (u : ℕ) (eu : u ≡ length (siblings n c)) (ea : above ≡ padded 0 u (sibling_row c u)) where
    siblings_are : above ≡ padded 0 u (siblings n c)
    siblings_are = ea ∙ ap (padded 0 u) (siblings_row n c u eu)

    pub siblings_in : EntriesIn t above u
    siblings_in =
        row_in t n r.chunk.count r.inside (siblings n c) (siblings_filled n c r.chunk) above u siblings_are eu
        (subst (λ (x : ℕ). x ≤ 20) (sym eu) (few_siblings n c r.chunk))

    pub siblings_section : u ∷ entries_at t above u ≡ section t (siblings n c)
    siblings_section = row_section t n r.chunk.count r.inside (siblings n c) (siblings_filled n c r.chunk) above u siblings_are eu

  module _ (others : List ℕ) (o place : ℕ) (eo : o ≡ length (other_roots n c)) (ep : place ≡ place_above (roots n) c)
      (eb : others ≡ padded 0 (length (roots n) - 1) (other_row (roots n) place (length (roots n) - 1))) where
    others_are : others ≡ padded 0 o (other_roots n c)
    others_are =
        eb ∙ ap (λ (m : ℕ). padded 0 m (other_row (roots n) place (length (roots n) - 1))) (sym (eo ∙ other_count_lem n c r.chunk))
        ∙ ap (padded 0 o) (others_row n c place r.chunk ep)

    pub others_in : EntriesIn t others o
    others_in =
        row_in t n r.chunk.count r.inside (other_roots n c) (others_filled n c r.chunk) others o others_are eo
        (omega (arith, few_others n c r.chunk))

    pub others_section : o ∷ entries_at t others o ≡ section t (other_roots n c)
    others_section = row_section t n r.chunk.count r.inside (other_roots n c) (others_filled n c r.chunk) others o others_are eo

  -- the four pieces one behind the other
  pub packet_written : (out a b d after length4 s1 s2 : List ℕ) (u : ℕ) → u ≡ length (siblings n c) → length (packet_with t n c bytes) ≤ length out
      → length4 ≡ be 4 (length bytes) → a ≡ put out 0 length4 → b ≡ put a 4 bytes → s1 ≡ section t (siblings n c) → d ≡ put b (4 + length bytes) s1
      → s2 ≡ section t (other_roots n c) → after ≡ put d (4 + length bytes + 1 + 40 * u) s2 → after ≡ put out 0 (packet_with t n c bytes)
  unfolding packet_with
  packet_written out a b d after l4 s1 s2 u eu room el ea eb e1 ed e2 ef =
      let g = length_be 4 (length bytes) in
      let h = section_long (siblings n c) (siblings_filled n c r.chunk) in
      let b' : b ≡ put out 0 (be 4 (length bytes) ++ bytes) =
      eb ∙ ap (λ (x : List ℕ). put x 4 bytes) (ea ∙ ap (put out 0) el) ∙ put_next out 0 4 4 (be 4 (length bytes)) bytes g refl (omega arith) in
      let d' : d ≡ put out 0 ((be 4 (length bytes) ++ bytes) ++ section t (siblings n c)) =
      ed ∙ ap₂ (λ (x y : List ℕ). put x (4 + length bytes) y) b' e1
      ∙ put_next out 0 (4 + length bytes) (4 + length bytes) (be 4 (length bytes) ++ bytes) (section t (siblings n c))
      (length-append (be 4 (length bytes)) bytes ∙ ap (λ (x : ℕ). x + length bytes) g) (omega arith) (omega arith) in
      ef ∙ ap₂ (λ (x y : List ℕ). put x (4 + length bytes + 1 + 40 * u) y) d' e2
      ∙ put_next out 0 (4 + length bytes + 1 + 40 * u) (4 + length bytes + 1 + 40 * u) ((be 4 (length bytes) ++ bytes) ++ section t (siblings n c))
      (section t (other_roots n c))
      (length-append (be 4 (length bytes) ++ bytes) (section t (siblings n c))
      ∙ ap₂ (λ (x y : ℕ). x + y) (length-append (be 4 (length bytes)) bytes ∙ ap (λ (x : ℕ). x + length bytes) g) h ∙ omega arith)
      (omega arith) (omega arith)
      ∙ ap (put out 0)
      (append_assoc (be 4 (length bytes) ++ bytes) (section t (siblings n c)) (section t (other_roots n c))
      ∙ append_assoc (be 4 (length bytes)) bytes (section t (siblings n c) ++ section t (other_roots n c)))

-- an entry's 40 bytes, lent as a part of the tree file
pub lent_entry : (t : List ℕ) (start place : ℕ) → start ≡ place → take (start + 40 - start) (drop start t) ≡ part t place 40
unfolding part
lent_entry t start place e =
    let f : start + 40 - start ≡ 40 = omega arith in ap₂ (λ (a b : ℕ). take a (drop b t)) f e

pub lent_length : (t : List ℕ) (start : ℕ) → start + 40 ≤ length t → length (take (start + 40 - start) (drop start t)) ≡ 40
lent_length t start h = ap length (lent_entry t start start refl) ∙ length_part t start 40 h

-- a packet has as many siblings' entries as there are siblings
pub siblings_count : (p : List ℕ) (n c : ℕ) → length (sibling_entries p n c) ≡ length (siblings n c)
unfolding sibling_entries entries_in
siblings_count p n c = length_run _ 0 (length (siblings n c))
