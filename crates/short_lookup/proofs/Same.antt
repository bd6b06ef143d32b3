-- The short lookups answer alike of two tree files, by two tests for the entries that may be read, where the tests agree on the leaves of n chunks and the
-- files on those that may be read. Assumes nothing.
use Prim.Native.Nat.{ℕ, zero, suc, ◌+◌, ◌-◌, ◌≤◌, ◌<◌}
use mathlib.Core.Path.{◌≡◌, refl, sym, ap, ap₂, ◌∙◌}
use mathlib.Core.Bool.{Bool, true, false, cond, ◌&&◌}
use mathlib.Core.List.{List}
use native.Mathlib.Numerals.{add-one}
use native.Mathlib.Omega.{arith}
use borrow.Author.Tests.{ltb-true}
use lib.Dec.{leb, ltb, eqb}
use Rattle.answer_types.specs.Verdict.{none, tree}
use Rattle.byte_strings.specs.Lowest.{Lowest, nowhere, first, lowest}
use Rattle.byte_strings.proofs.Lowest.{lowest_agree, lowest_for_all}
use Rattle.tree_index.specs.Tree.{index}
use Rattle.file_format.specs.Sizes.{longest_chunk}
use Rattle.file_format.specs.Stored.{stored_size, stored_start}
use Rattle.lookup.specs.Lookup.{Found, refusal, found}
use Rattle.short_lookup.specs.ShortLookup.{leaf_right, leaf_refused, leaf_passed, place_by_leaves, byte_by_leaves, short_place_in, short_byte_in}
use Rattle.short_lookup.proofs.Walks.{start_next, start_none}
use Rattle.short_lookup.proofs.Answers.{and_true, Right, lowest_says}

-- where a walk ends, of each lookup
abbrev place_end : (ℕ → Bool) → List ℕ → ℕ → Lowest → Found
place_end f t c l = elim l [ nowhere ↦ found (stored_start t c) (stored_size t (index 0 c)) | first k ↦ leaf_refused f t k ]

abbrev byte_here_lem : (ℕ → Bool) → List ℕ → ℕ → ℕ → Found
byte_here_lem f t b k = cond (leaf_right f t k) (found k (b - stored_start t k)) (leaf_refused f t k)

abbrev byte_end_lem : (ℕ → Bool) → List ℕ → ℕ → ℕ → Lowest → Found
byte_end_lem f t n b l = elim l [ nowhere ↦ refusal 10 (tree (index 0 (n - 1))) | first k ↦ byte_here_lem f t b k ]

module _ (f g : ℕ → Bool) (t u : List ℕ) (n : ℕ) (tests : (k : ℕ) → k < n → f (index 0 k) ≡ g (index 0 k))
    (sizes : (k : ℕ) → k < n → g (index 0 k) ≡ true → stored_size t (index 0 k) ≡ stored_size u (index 0 k)) where
  -- ---- one leaf

  leaf_same : (k : ℕ) → k < n → leaf_right f t k ≡ leaf_right g u k
  unfolding leaf_right
  leaf_same k h =
      ap (λ (x : Bool). x && leb (stored_size t (index 0 k)) longest_chunk) (tests k h) ∙ pick (g (index 0 k)) (sizes k h)
    where
      pick : (x : Bool) → (x ≡ true → stored_size t (index 0 k) ≡ stored_size u (index 0 k))
          → (x && leb (stored_size t (index 0 k)) longest_chunk) ≡ (x && leb (stored_size u (index 0 k)) longest_chunk)
      pick true e = ap (λ (z : ℕ). leb z longest_chunk) (e refl)
      pick false e = refl

  refused_same : (k : ℕ) → k < n → leaf_refused f t k ≡ leaf_refused g u k
  unfolding leaf_refused
  refused_same k h = ap (λ (x : Bool). refusal (cond x 10 20) (tree (index 0 k))) (tests k h)

  size_same : (k : ℕ) → k < n → leaf_right g u k ≡ true → stored_size t (index 0 k) ≡ stored_size u (index 0 k)
  unfolding leaf_right
  size_same k h e = sizes k h (and_true (g (index 0 k)) (leb (stored_size u (index 0 k)) longest_chunk) e).0

  -- behind right leaves a chunk starts at the same place
  start_same : (k : ℕ) → k ≤ n → Right g u k → stored_start t k ≡ stored_start u k
  start_same zero h p = start_none t ∙ sym (start_none u)
  start_same (suc k) h p =
      ap (stored_start t) (sym (add-one k)) ∙ start_next t k
      ∙ ap₂ ◌+◌ (start_same k (omega arith) (λ j l. p j (omega arith))) (size_same k (omega arith) (p k (omega arith)))
      ∙ sym (start_next u k) ∙ ap (stored_start u) (add-one k)

  -- ---- the place lookup

  by_leaves : (c : ℕ) → c < n → place_by_leaves f t c ≡ place_by_leaves g u c
  unfolding place_by_leaves
  by_leaves c h =
      ap (place_end f t c) (lowest_agree (leaf_right f t) (leaf_right g u) 0 (c + 1) (λ j p q before. leaf_same j (omega arith)))
      ∙ pick (lowest (leaf_right g u) 0 (c + 1)) refl
    where
      pick : (l : Lowest) → lowest (leaf_right g u) 0 (c + 1) ≡ l → place_end f t c l ≡ place_end g u c l
      pick nowhere e =
          let all = (lowest_for_all (leaf_right g u) 0 (c + 1)).none.0 e in
          ap₂ found (start_same c (omega arith) (λ j l. all j (omega arith) (omega arith))) (size_same c h (all c (omega arith) (omega arith)))
      pick (first k) e = refused_same k (omega (arith, (lowest_says (leaf_right g u) 0 (c + 1) k e).below))

  pub place_same : (c : ℕ) → short_place_in f t n c ≡ short_place_in g u n c
  unfolding short_place_in
  place_same c = pick (ltb c n) refl
    where
      pick : (x : Bool) → ltb c n ≡ x → cond x (place_by_leaves f t c) (refusal 9 none) ≡ cond x (place_by_leaves g u c) (refusal 9 none)
      pick true e = by_leaves c (ltb-true c n e)
      pick false e = refl

  -- ---- the byte lookup

  module _ (b : ℕ) where
    passed_right : (k : ℕ) → leaf_passed g u b k ≡ true → leaf_right g u k ≡ true
    unfolding leaf_passed
    passed_right k e = (and_true (leaf_right g u k) (leb (stored_start u k + stored_size u (index 0 k)) b) e).0

    passed_same : (k : ℕ) → k < n → Right g u k → leaf_passed f t b k ≡ leaf_passed g u b k
    unfolding leaf_passed
    passed_same k h p = ap (λ (x : Bool). x && leb (stored_start t k + stored_size t (index 0 k)) b) (leaf_same k h) ∙ pick (leaf_right g u k) refl
      where
        pick : (x : Bool) → leaf_right g u k ≡ x
            → (x && leb (stored_start t k + stored_size t (index 0 k)) b) ≡ (x && leb (stored_start u k + stored_size u (index 0 k)) b)
        pick true e = ap₂ (λ (s z : ℕ). leb (s + z) b) (start_same k (omega arith) p) (size_same k h e)
        pick false e = refl

    byte_by : byte_by_leaves f t n b ≡ byte_by_leaves g u n b
    unfolding byte_by_leaves
    byte_by =
        ap (byte_end_lem f t n b)
        (lowest_agree (leaf_passed f t b) (leaf_passed g u b) 0 n
        (λ j p q before. passed_same j (omega arith) (λ m l. passed_right m (before m (omega arith) l))))
        ∙ pick (lowest (leaf_passed g u b) 0 n) refl
      where
        pick : (l : Lowest) → lowest (leaf_passed g u b) 0 n ≡ l → byte_end_lem f t n b l ≡ byte_end_lem g u n b l
        pick nowhere e = refl
        pick (first k) e =
            let a = lowest_says (leaf_passed g u b) 0 n k e in
            let h : k < n = omega (arith, a.below) in
            ap (λ (x : Bool). cond x (found k (b - stored_start t k)) (leaf_refused f t k)) (leaf_same k h)
            ∙ ap₂ (λ (s : ℕ) (x : Found). cond (leaf_right g u k) (found k (b - s)) x)
            (start_same k (omega arith) (λ j l. passed_right j (a.right j (omega arith) l))) (refused_same k h)

  pub byte_same : (size b : ℕ) → short_byte_in f t n size b ≡ short_byte_in g u n size b
  unfolding short_byte_in
  byte_same size b = ap (λ (x : Found). cond (ltb size b) (refusal 9 none) (cond (eqb b size) (found n 0) x)) (byte_by b)
