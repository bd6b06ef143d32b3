-- The lookups and the verified read get the same of a register and of the same cut to its used sizes.
-- Assumes nothing.
use Prim.Native.Nat.{ℕ, zero, suc, ◌+◌, ◌-◌, ◌*◌, ◌^◌, ◌≤◌, ◌<◌}
use mathlib.Core.Path.{◌≡◌, refl, sym, ap, ◌∙◌, subst}
use mathlib.Core.Bool.{Bool, true}
use mathlib.Core.List.{List, [], ◌∷◌}
use native.Mathlib.Nat.{mul-one}
use native.Mathlib.Omega.{arith}
use borrow.Author.Tests.{leb-true}
use lib.Dec.{leb, eqb}
use lib.ListN.{length, take, get_or}
use Rattle.answer_types.specs.Verdict.{Verdict, done, refused, and_then}
use Rattle.byte_strings.specs.Lists.{part}
use Rattle.byte_strings.proofs.Bools.{chosen}
use Rattle.byte_strings.proofs.Lists.{part_take}
use Rattle.tree_index.specs.Tree.{index, depth, block, filled, roots, entries}
use Rattle.tree_index.proofs.Filled.{end_filled, filled_below}
use Rattle.tree_index.proofs.Roots.{root_filled}
use Rattle.file_format.specs.Sizes.{longest_chunk, used_tree, used_bitfield}
use Rattle.file_format.specs.Stored.{stored_size}
use Rattle.file_format.specs.Belongs.{Register}
use Rattle.checks.specs.Checks.{judged}
use Rattle.lookup.specs.Descent.{stopped, reached, if_known, always, chunk_within, byte_within, descend, from_roots, descent}
use Rattle.lookup.specs.Lookup.{found, found_behind, place_in, held_place_in, place_of, held_place_of, byte_at}
use Rattle.lookup.specs.Read.{verdict_found, bytes_found, chunk_bytes, hash_judged, read_found, read_verdict, read_part}
use Rattle.lookup.proofs.Descents.{left_inside, right_end}
use Rattle.lookup.proofs.Lookups.{place_same, held_same, byte_same, hash_same, bytes_same, hashed}
use Rattle.lookup.proofs.Calls.{Placing, held_placing, reading}
use Rattle.theorem_used_bytes.proofs.Cut.{cut, held_cut, hash_cut, size_cut, checks_cut}

-- ---- the descents

-- two tests that know the same of the entries of n chunks
module _ (f g : ℕ → Bool) (within : ℕ → ℕ → ℕ → ℕ → Bool) (t : List ℕ) (n : ℕ) (same : (i : ℕ) → filled n i ≡ true → f i ≡ g i) where
  abbrev u : List ℕ
  u = take (used_tree n) t

  node_cut : (d k : ℕ) → (k + 1) * 2 ^ d ≤ n → stored_size u (index d k) ≡ stored_size t (index d k)
  node_cut d k h = size_cut t n (index d k) (filled_below n (index d k) (end_filled n d k h))

  descend_cut : (d k start : ℕ) → (k + 1) * 2 ^ d ≤ n → descend f within u d k start ≡ descend g within t d k start
  unfolding descend
  descend_cut zero k start h = ap (λ (z : ℕ). chosen (leb z longest_chunk) (reached k start) (stopped (index 0 k))) (node_cut 0 k h)
  descend_cut (suc d) k start h =
      let lh : (2 * k + 1) * 2 ^ d ≤ n = left_inside d k n h in
      let rh : (2 * k + 1 + 1) * 2 ^ d ≤ n = subst (λ (x : ℕ). x ≤ n) (sym (right_end d k)) h in
      let z = node_cut (suc d) k h in
      let l = node_cut d (2 * k) lh in
      let r = node_cut d (2 * k + 1) rh in
      let a = same (index d (2 * k)) (end_filled n d (2 * k) lh) in
      let b = same (index d (2 * k + 1)) (end_filled n d (2 * k + 1) rh) in
      let x = descend_cut d (2 * k) start lh in
      let y : descend f within u d (2 * k + 1) (start + stored_size u (index d (2 * k))) ≡ descend g within t d (2 * k + 1) (start + stored_size t (index d (2 * k))) =
      ap (λ (m : ℕ). descend f within u d (2 * k + 1) (start + m)) l ∙ descend_cut d (2 * k + 1) (start + stored_size t (index d (2 * k))) rh in
      λ i. if_known (a i) (index d (2 * k))
      (if_known (b i) (index d (2 * k + 1)) (chosen (eqb (z i) (l i + r i)) (chosen (within d (2 * k) start (l i)) (x i) (y i)) (stopped (index (suc d) k))))

  from_cut : (is : List ℕ) (start : ℕ) → ((j : ℕ) → j < length is → filled n (get_or is j 0) ≡ true) → from_roots f within u is start ≡ from_roots g within t is start
  unfolding from_roots filled
  from_cut [] start h = refl
  from_cut (i ∷ is) start h =
      let e : filled n i ≡ true = h 0 (omega arith) in
      let a = same i e in
      let z : stored_size u i ≡ stored_size t i = size_cut t n i (filled_below n i e) in
      let x = descend_cut (depth i) (block i) start (leb-true ((block i + 1) * 2 ^ depth i) n e) in
      let y : from_roots f within u is (start + stored_size u i) ≡ from_roots g within t is (start + stored_size t i) =
      ap (λ (m : ℕ). from_roots f within u is (start + m)) z ∙ from_cut is (start + stored_size t i) (λ j l. h (suc j) (omega arith)) in
      λ j. if_known (a j) i (chosen (within (depth i) (block i) start (z j)) (x j) (y j))

  pub descent_cut : descent f within u n ≡ descent g within t n
  unfolding descent
  descent_cut = from_cut (roots n) 0 (root_filled n)

-- ---- the lookups

-- what comes behind a verdict is read only where that is done
pub then_same : (v x y : Verdict) → (v ≡ done → x ≡ y) → and_then v x ≡ and_then v y
then_same done x y h = h refl
then_same (refused m at) x y h = refl

pub then_first : (v x : Verdict) → and_then v x ≡ done → v ≡ done
then_first done x e = refl
then_first (refused m at) x e = e

pub leaf_below : (n c : ℕ) → c < n → index 0 c < entries n
leaf_below n c h = filled_below n (index 0 c) (end_filled n 0 c (omega (arith, mul-one (c + 1))))

-- of a tree file and of the same cut to its used size
module _ (f g : ℕ → Bool) (t : List ℕ) (n c : ℕ) (same : (i : ℕ) → filled n i ≡ true → f i ≡ g i) where
  pub size_same : c < n → stored_size (take (used_tree n) t) (index 0 c) ≡ stored_size t (index 0 c)
  size_same h = size_cut t n (index 0 c) (leaf_below n c h)

  pub place_in_cut : place_in f (take (used_tree n) t) n c ≡ place_in g t n c
  place_in_cut = place_same f g (take (used_tree n) t) t n c (descent_cut f g (chunk_within c) t n same) (λ k s h e. size_same h)

  pub held_in_cut : (bits : List ℕ) → held_place_in f (take (used_tree n) t) n (take (used_bitfield n) bits) c ≡ held_place_in g t n bits c
  held_in_cut bits =
      held_same f g (take (used_tree n) t) t n c (descent_cut f g (chunk_within c) t n same) (λ k s h e. size_same h) (take (used_bitfield n) bits) bits (held_cut bits n c)

module _ (r : Register) where
  pub place_cut : (c : ℕ) → place_of (cut r) c ≡ place_of r c
  unfolding place_of
  place_cut c = λ i. found_behind (judged (checks_cut r i) done) (place_in_cut always always r.tree r.n c (λ j f. refl) i)

  pub held_place_cut : (c : ℕ) → held_place_of (cut r) c ≡ held_place_of r c
  unfolding held_place_of
  held_place_cut c = λ i. found_behind (judged (checks_cut r i) done) (held_in_cut always always r.tree r.n c (λ j f. refl) r.bitfield i)

  pub byte_at_cut : (b : ℕ) → byte_at (cut r) b ≡ byte_at r b
  unfolding byte_at
  byte_at_cut b =
      λ i. found_behind (judged (checks_cut r i) done)
      (byte_same always always (take (used_tree r.n) r.tree) r.tree r.n r.size b (descent_cut always always (byte_within b) r.tree r.n (λ j f. refl)) i)

-- ---- the read

-- a part that lies within the data
pub part_cut : (r : Register) (c : ℕ) {s z : ℕ} → Placing r c s z → part (cut r).content s z ≡ part r.content s z
part_cut r c {s} {z} p = part_take r.content r.size s z p.inside

module _ (F : List ℕ → List ℕ) (r : Register) (c : ℕ) where
  pub read_found_cut : read_found F (cut r) c ≡ read_found F r c
  unfolding read_found
  read_found_cut =
      ap (hash_judged F (cut r).tree (cut r).content c) (held_place_cut r c)
      ∙ hash_same F (cut r).tree r.tree (cut r).content r.content c (held_place_of r c)
      (λ s z e. let p = held_placing r c e in (hash_cut r.tree r.n (index 0 c) (leaf_below r.n c p.below), part_cut r c p))

  pub read_verdict_cut : read_verdict F (cut r) c ≡ read_verdict F r c
  unfolding read_verdict
  read_verdict_cut = ap verdict_found read_found_cut

  pub read_part_cut : (s e : ℕ) → read_found F r c ≡ found s e → part (cut r).content s (e - s) ≡ part r.content s (e - s)
  unfolding read_found
  read_part_cut s e q =
      let h = hashed F r.tree r.content c (held_place_of r c) q in
      let z : e - s ≡ h.size = omega (arith, h.to) in
      ap (part (cut r).content s) z ∙ part_cut r c (held_placing r c h.place) ∙ sym (ap (part r.content s) z)

  pub read_cut : read_part F (cut r) c ≡ read_part F r c
  unfolding read_part
  read_cut = ap (bytes_found (cut r).content) read_found_cut ∙ bytes_same (cut r).content r.content (read_found F r c) read_part_cut

  pub bytes_cut : read_verdict F r c ≡ done → chunk_bytes (cut r) c ≡ chunk_bytes r c
  bytes_cut e = sym (reading F (cut r) c (read_verdict_cut ∙ e)).bytes ∙ read_cut ∙ (reading F r c e).bytes
