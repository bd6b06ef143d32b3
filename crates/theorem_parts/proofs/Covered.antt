-- What parts that cover the files find. Assumes nothing.
use Prim.Native.Nat.{ℕ, ◌+◌, ◌-◌, ◌*◌, ◌/◌, ◌≤◌, ◌<◌}
use mathlib.Core.Path.{◌≡◌, refl, sym, ap, ◌∙◌}
use mathlib.Core.Logic.{inl, inr}
use mathlib.Core.Bool.{Bool}
use mathlib.Core.List.{List, [], ◌∷◌, map}
use native.Mathlib.Omega.{arith}
use Rattle.byte_strings.specs.Lists.{run}
use Rattle.byte_strings.specs.Lowest.{Lowest, nowhere, lowest}
use Rattle.tree_index.specs.Tree.{entries}
use Rattle.bitfield.specs.Image.{entry_count}
use Rattle.file_format.specs.Sizes.{used_bitfield}
use Rattle.copy_checks.specs.Least.{least_of}
use Rattle.parts_audit.specs.Range.{within}
use Rattle.parts_audit.proofs.ByTest.{by_test}
use Rattle.theorem_parts.specs.Cover.{Part, tree_entries, bitfield_entries, HasEntry, HasRow, Range, HasIndex, Some, Covers, CoversIndexes}
use Rattle.theorem_parts.proofs.Least.{ranges_least, wrong_at, lowest_least}

-- ---- the numbers of a range

module _ (k a b i : ℕ) where
  pub in_range : a ≤ i → i < a + within k a b → (i < k) × (i < b)
  in_range h = by_test b k (λ m. i < a + (m - a) → (i < k) × (i < b)) (λ l q. (omega arith, omega arith)) (λ l q. (omega arith, omega arith))

  pub of_range : a ≤ i → i < b → i < k → i < a + within k a b
  of_range h g l = by_test b k (λ m. i < a + (m - a)) (λ q. omega arith) (λ q. omega arith)

-- ---- lists

pub map_same : {A B : Type 0} (f g : A → B) → ((x : A) → f x ≡ g x) → (xs : List A) → map f xs ≡ map g xs
map_same f g h [] = refl
map_same f g h (x ∷ xs) = λ j. h x j ∷ map_same f g h xs j

some_map : {A : Type 0} (P Q : A → Type 0) → ((x : A) → P x → Q x) → (xs : List A) → Some P xs → Some Q xs
unfolding Some
some_map P Q h [] s = s
some_map P Q h (x ∷ xs) (inl p) = inl (h x p)
some_map P Q h (x ∷ xs) (inr s) = inr (some_map P Q h xs s)

-- ---- the tree entries

module _ (n : ℕ) (ps : List Part) (c : Covers n ps) where
  -- what the parts with tree entries find, where each entry says what is wrong by it
  abbrev pub tree_finds : (ℕ → Lowest) → Part → Lowest
  tree_finds f (tree_entries a b) = least_of (run f a (within (entries n) a b))
  tree_finds f (bitfield_entries a b) = nowhere

  from : Part → ℕ
  from (tree_entries a b) = a
  from (bitfield_entries a b) = 0

  count : Part → ℕ
  count (tree_entries a b) = within (entries n) a b
  count (bitfield_entries a b) = 0

  pub tree_found : (f : ℕ → Lowest) → least_of (map (tree_finds f) ps) ≡ least_of (run f 0 (entries n))
  unfolding from count least_of run
  tree_found f =
      ap least_of (map_same (tree_finds f) (λ p. least_of (run f (from p) (count p))) as_run ps)
      ∙ ranges_least f 0 (entries n) from count inside ps
      (λ i h l. some_map (HasEntry i) (λ p. (from p ≤ i) × (i < from p + count p)) (has i (omega arith)) ps (c.tree i (omega arith)))
    where
      as_run : (p : Part) → tree_finds f p ≡ least_of (run f (from p) (count p))
      as_run (tree_entries a b) = refl
      as_run (bitfield_entries a b) = refl

      inside : (p : Part) (i : ℕ) → from p ≤ i → i < from p + count p → (0 ≤ i) × (i < 0 + entries n)
      inside (tree_entries a b) i h l = (omega arith, omega (arith, (in_range (entries n) a b i h l).0))
      inside (bitfield_entries a b) i h l = absurd (omega arith)

      has : (i : ℕ) → i < entries n → (p : Part) → HasEntry i p → (from p ≤ i) × (i < from p + count p)
      has i l (tree_entries a b) h = (h.0, of_range (entries n) a b i h.0 h.1 l)
      has i l (bitfield_entries a b) h = absurd h

  -- ---- the bytes of the bitfield's entries

  abbrev pub row_finds : (ℕ → Bool) → Part → Lowest
  row_finds right (tree_entries a b) = nowhere
  row_finds right (bitfield_entries a b) = lowest right (32 + 3328 * a) (3328 * within (entry_count n) a b)

  place : Part → ℕ
  place (tree_entries a b) = 0
  place (bitfield_entries a b) = 32 + 3328 * a

  bytes : Part → ℕ
  bytes (tree_entries a b) = 0
  bytes (bitfield_entries a b) = 3328 * within (entry_count n) a b

  pub row_found : (right : ℕ → Bool) → least_of (map (row_finds right) ps) ≡ lowest right 32 (used_bitfield n - 32)
  unfolding place bytes least_of run used_bitfield
  row_found right =
      ap least_of (map_same (row_finds right) (λ p. least_of (run (wrong_at right) (place p) (bytes p))) as_run ps)
      ∙ ranges_least (wrong_at right) 32 (used_bitfield n - 32) place bytes inside ps
      (λ b h l.
      let e : ℕ = (b - 32) / 3328 in
      some_map (HasRow e) (λ p. (place p ≤ b) × (b < place p + bytes p)) (has b e h (omega arith) (omega arith)) ps (c.bitfield e (omega arith)))
      ∙ sym (lowest_least right 32 (used_bitfield n - 32))
    where
      as_run : (p : Part) → row_finds right p ≡ least_of (run (wrong_at right) (place p) (bytes p))
      as_run (tree_entries a b) = refl
      as_run (bitfield_entries a b) = lowest_least right (32 + 3328 * a) (3328 * within (entry_count n) a b)

      inside : (p : Part) (i : ℕ) → place p ≤ i → i < place p + bytes p → (32 ≤ i) × (i < 32 + (used_bitfield n - 32))
      inside (tree_entries a b) i h l = absurd (omega arith)
      inside (bitfield_entries a b) i h l =
          let e : ℕ = (i - 32) / 3328 in
          let r = in_range (entry_count n) a b e (omega arith) (omega arith) in
          (omega arith, omega (arith, r.0))

      has : (b e : ℕ) → 32 ≤ b → e ≡ (b - 32) / 3328 → e < entry_count n → (p : Part) → HasRow e p → (place p ≤ b) × (b < place p + bytes p)
      has b e h q l (tree_entries x y) p = absurd p
      has b e h q l (bitfield_entries x y) p =
          let r = of_range (entry_count n) x y e p.0 p.1 l in
          (omega (arith, p.0), omega (arith, p.0, r))

-- ---- the indexes of a walk

module _ (n : ℕ) (rs : List Range) (c : CoversIndexes n rs) where
  pub walk_found : (right : ℕ → Bool) → least_of (map (λ r. lowest right r.from (within (entries n) r.from r.to)) rs) ≡ lowest right 0 (entries n)
  unfolding CoversIndexes
  walk_found right =
      ap least_of
      (map_same (λ r. lowest right r.from (within (entries n) r.from r.to)) (λ r. least_of (run (wrong_at right) r.from (within (entries n) r.from r.to)))
      (λ r. lowest_least right r.from (within (entries n) r.from r.to)) rs)
      ∙ ranges_least (wrong_at right) 0 (entries n) (λ r. r.from) (λ r. within (entries n) r.from r.to) inside rs
      (λ i h l. some_map (HasIndex i) (λ r. (r.from ≤ i) × (i < r.from + within (entries n) r.from r.to)) (has i (omega arith)) rs (c i (omega arith)))
      ∙ sym (lowest_least right 0 (entries n))
    where
      inside : (r : Range) (i : ℕ) → r.from ≤ i → i < r.from + within (entries n) r.from r.to → (0 ≤ i) × (i < 0 + entries n)
      inside r i h l = (omega arith, omega (arith, (in_range (entries n) r.from r.to i h l).0))

      has : (i : ℕ) → i < entries n → (r : Range) → HasIndex i r → (r.from ≤ i) × (i < r.from + within (entries n) r.from r.to)
      has i l r h = (h.0, of_range (entries n) r.from r.to i h.0 h.1 l)
