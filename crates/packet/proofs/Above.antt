-- Which of the roots stands above a chunk, and the roots without it.
-- Assumes nothing.
use Prim.Native.Nat.{ℕ, zero, suc, ◌+◌, ◌-◌, ◌*◌, ◌/◌, ◌%◌, ◌^◌, ◌≤◌, ◌<◌}
use mathlib.Core.Path.{◌≡◌, refl, sym, ap, ap₂, ◌∙◌, subst}
use mathlib.Core.Bool.{Bool, true, false, cond}
use mathlib.Core.Logic.{◌⊎◌, inl, inr}
use mathlib.Core.List.{List, [], ◌∷◌, ◌++◌}
use native.Mathlib.Nat.{add-zero, zero-add, div-one, mul-one, mul_assoc, le_of_suc-le-suc, not-suc-le-zero, zero-lt-suc, lt_of_lt_of_le}
use native.Mathlib.Numerals.{add-one}
use native.Mathlib.Omega.{arith}
use lib.Dec.{ltb}
use lib.ListN.{length, get_or, take, drop, length-append, length-drop, get_or-append}
use lib.Seq.{drop-cons, drop-length, length-take-le, get_or-take, get_or-drop, ext_get_or}
use lib.Pow.{shr-shr}
use borrow.Author.Tests.{ltb-true, ltb-false, lt-ltb, le-ltb, leb-true, leb-false, eq-eqb, ne_eqb}
use Rattle.byte_strings.specs.Lists.{run}
use Rattle.byte_strings.proofs.Lists.{get_or_behind, length_run, get_or_run}
use Rattle.byte_strings.proofs.Bools.{chosen}
use Rattle.tree_index.specs.Tree.{index, depth, block, filled, entries, root_of, roots_below, roots}
use Rattle.file_format.specs.Sizes.{most_chunks}
use Rattle.tree_index.proofs.Index.{depth_index, block_index, pow_twice}
use Rattle.tree_index.proofs.Filled.{end_filled, end_hole}
use Rattle.tree_index.proofs.Roots.{bit, no_root, one_root, root_at, root_below, length_roots_le}
use Rattle.packet.specs.Packet.{root_above, siblings, without, other_roots, place_above}
use Rattle.packet.specs.Inner.{ChunkOf, skipped}

-- ---- the place of the root above a chunk

pub place_root : (is : List ℕ) (c : ℕ) → root_above is c ≡ get_or is (place_above is c) 0
unfolding root_above place_above
place_root [] c = refl
place_root (i ∷ is) c = pick (ltb c ((block i + 1) * 2 ^ depth i)) (place_root is c)
  where
    pick : (b : Bool) → root_above is c ≡ get_or is (place_above is c) 0
        → chosen b i (root_above is c) ≡ get_or (i ∷ is) (chosen b 0 (suc (place_above is c))) 0
    pick true h = refl
    pick false h = h

place_first : (i : ℕ) (is : List ℕ) (c : ℕ) → filled c i ≡ false → place_above (i ∷ is) c ≡ 0
unfolding place_above filled
place_first i is c e =
    ap (λ (b : Bool). chosen b 0 (suc (place_above is c)))
    (lt-ltb c ((block i + 1) * 2 ^ depth i) (leb-false ((block i + 1) * 2 ^ depth i) c e))

place_later : (i : ℕ) (is : List ℕ) (c : ℕ) → filled c i ≡ true → place_above (i ∷ is) c ≡ suc (place_above is c)
unfolding place_above filled
place_later i is c e =
    ap (λ (b : Bool). chosen b 0 (suc (place_above is c)))
    (le-ltb c ((block i + 1) * 2 ^ depth i) (leb-true ((block i + 1) * 2 ^ depth i) c e))

-- the search among the roots from the place j on, turn by turn: `there` is the place in the end
pub record Seeking (is : List ℕ) (c j there : ℕ) : Type 0 where
  pub few : j ≤ length is
  pub same : there ≡ j + place_above (drop j is) c

pub seeking_none : (is : List ℕ) (c : ℕ) → Seeking is c 0 (place_above is c)
seeking_none is c = record { few = omega arith; same = sym (zero-add (place_above is c)) }

module _ (is : List ℕ) (c j there : ℕ) (s : Seeking is c j there) where
  pub seeking_found : j < length is → filled c (get_or is j 0) ≡ false → j ≡ there
  seeking_found h e =
      sym (s.same ∙ ap (λ (k : ℕ). j + k) (ap (λ (l : List ℕ). place_above l c) (drop-cons is j 0 h) ∙ place_first (get_or is j 0) (drop (suc j) is) c e)
      ∙ add-zero j)

  pub seeking_next : j < length is → filled c (get_or is j 0) ≡ true → Seeking is c (j + 1) there
  seeking_next h e =
      subst (λ (k : ℕ). Seeking is c k there) (sym (add-one j))
      (record {
        few = h;
        same = s.same ∙ ap (λ (k : ℕ). j + k) (ap (λ (l : List ℕ). place_above l c) (drop-cons is j 0 h) ∙ place_later (get_or is j 0) (drop (suc j) is) c e)
            ∙ omega arith;
      })

  pub seeking_end : length is ≤ j → length is ≡ there
  unfolding place_above
  seeking_end h =
      let e : j ≡ length is = omega (arith, s.few) in
      sym (s.same ∙ ap (λ (k : ℕ). j + k) (ap (λ (k : ℕ). place_above (drop k is) c) e ∙ ap (λ (l : List ℕ). place_above l c) (drop-length is)) ∙ add-zero j ∙ e)

-- ---- there is a root above each chunk

even_end : (d n : ℕ) → n / 2 ^ d % 2 ≡ 0 → n / 2 ^ d * 2 ^ d ≡ n / 2 ^ suc d * 2 ^ suc d
even_end d n e =
    let h : n / 2 ^ d / 2 ≡ n / 2 ^ suc d = shr-shr n d 1 ∙ ap (λ (k : ℕ). n / 2 ^ k) (add-one d) in
    let g : n / 2 ^ d ≡ 2 * (n / 2 ^ suc d) = omega arith in
    ap (λ (q : ℕ). q * 2 ^ d) g ∙ mul_assoc 2 (n / 2 ^ suc d) (2 ^ d) ∙ sym (pow_twice (n / 2 ^ suc d) d)

abbrev Covered : ℕ → List ℕ → Type 0
Covered c is = place_above is c < length is

covered_first : (d n c q : ℕ) → q % 2 ≡ 1 → (b : Bool) → ltb c (q * 2 ^ d) ≡ b → (q * 2 ^ d ≤ c → Covered c (roots_below d n))
    → Covered c (index d (q - 1) ∷ roots_below d n)
covered_first d n c q o true e rest =
    subst (λ (x : ℕ). x < suc (length (roots_below d n)))
    (sym (place_first (index d (q - 1)) (roots_below d n) c
    (end_hole c d (q - 1) (subst (λ (x : ℕ). c < x * 2 ^ d) (omega arith) (ltb-true c (q * 2 ^ d) e)))))
    (zero-lt-suc (length (roots_below d n)))
covered_first d n c q o false e rest =
    let g : q * 2 ^ d ≤ c = ltb-false c (q * 2 ^ d) e in
    subst (λ (x : ℕ). x < suc (length (roots_below d n)))
    (sym (place_later (index d (q - 1)) (roots_below d n) c
    (end_filled c d (q - 1) (subst (λ (x : ℕ). x * 2 ^ d ≤ c) (omega arith) g))))
    (omega (arith, rest g))

cover : (d n c : ℕ) → n / 2 ^ d * 2 ^ d ≤ c → c < n → Covered c (roots_below d n)
unfolding roots_below
cover zero n c h l =
    absurd (omega (arith, subst (λ (x : ℕ). x ≤ c) (mul-one (n / 1) ∙ div-one n) h))
cover (suc d) n c h l = pick (bit (n / 2 ^ d)) (λ g. cover d n c g l)
  where
    pick : (n / 2 ^ d % 2 ≡ 0) ⊎ (n / 2 ^ d % 2 ≡ 1) → (n / 2 ^ d * 2 ^ d ≤ c → Covered c (roots_below d n)) → Covered c (root_of d n ++ roots_below d n)
    pick (inl e) rest =
        subst (λ (r : List ℕ). Covered c (r ++ roots_below d n)) (sym (no_root d n e)) (rest (subst (λ (x : ℕ). x ≤ c) (sym (even_end d n e)) h))
    pick (inr o) rest =
        subst (λ (r : List ℕ). Covered c (r ++ roots_below d n)) (sym (one_root d n o))
        (covered_first d n c (n / 2 ^ d) o (ltb c (n / 2 ^ d * 2 ^ d)) refl rest)

pub place_below : (n c : ℕ) → ChunkOf n c → place_above (roots n) c < length (roots n)
unfolding roots
place_below n c h =
    let e : n / 2097152 ≡ 0 = omega (arith, h.count) in
    cover 21 n c (subst (λ (x : ℕ). x * 2097152 ≤ c) (sym e) (omega arith)) h.below

-- ---- how many siblings and other roots there are

pub sibling_count_lem : (n c i : ℕ) → i ≡ get_or (roots n) (place_above (roots n) c) 0 → depth i ≡ length (siblings n c)
unfolding siblings
sibling_count_lem n c i e =
    ap depth (e ∙ sym (place_root (roots n) c)) ∙ sym (length_run _ 0 (depth (root_above (roots n) c)))

pub few_siblings : (n c : ℕ) → ChunkOf n c → length (siblings n c) ≤ 20
few_siblings n c h =
    let p = root_at n (place_above (roots n) c) (place_below n c h) in
    let e : depth (get_or (roots n) (place_above (roots n) c) 0) ≡ p.0 = ap depth p.3 ∙ depth_index p.0 (n / 2 ^ p.0 - 1) in
    omega (arith, sibling_count_lem n c (get_or (roots n) (place_above (roots n) c) 0) refl, p.1)

-- the depths of the numbers fall, from one that is below d on
Falls : ℕ → List ℕ → Type 0
Falls d [] = Unit {0}
Falls d (i ∷ is) = (depth i < d) × Falls (depth i) is

falls_up : (d e : ℕ) (is : List ℕ) → d ≤ e → Falls d is → Falls e is
unfolding Falls
falls_up d e [] h f = tt
falls_up d e (i ∷ is) h f = (lt_of_lt_of_le f.0 h, f.1)

below_falls : (d n : ℕ) → Falls d (roots_below d n)
unfolding Falls roots_below
below_falls zero n = tt
below_falls (suc d) n = pick (bit (n / 2 ^ d)) (below_falls d n)
  where
    pick : (n / 2 ^ d % 2 ≡ 0) ⊎ (n / 2 ^ d % 2 ≡ 1) → Falls d (roots_below d n) → Falls (suc d) (root_of d n ++ roots_below d n)
    pick (inl e) f = subst (λ (r : List ℕ). Falls (suc d) (r ++ roots_below d n)) (sym (no_root d n e)) (falls_up d (suc d) (roots_below d n) (omega arith) f)
    pick (inr o) f =
        subst (λ (r : List ℕ). Falls (suc d) (r ++ roots_below d n)) (sym (one_root d n o)) (
          subst (λ (x : ℕ). x < suc d) (sym (depth_index d (n / 2 ^ d - 1))) (omega arith),
          subst (λ (x : ℕ). Falls x (roots_below d n)) (sym (depth_index d (n / 2 ^ d - 1))) f,
        )

falls_below : (d : ℕ) (is : List ℕ) → Falls d is → (j : ℕ) → j < length is → depth (get_or is j 0) < d
unfolding Falls
falls_below d [] f j l = absurd (not-suc-le-zero l)
falls_below d (i ∷ is) f zero l = f.0
falls_below d (i ∷ is) f (suc j) l = omega (arith, falls_below (depth i) is f.1 j (le_of_suc-le-suc l), f.0)

-- no number of the list is x
abbrev pub Apart : ℕ → List ℕ → Type 0
Apart x is = (j : ℕ) → j < length is → get_or is j 0 ≡ x → ⊥

-- each number differs from those behind it
unfoldable pub Distinct : List ℕ → Type 0
Distinct [] = Unit {0}
Distinct (i ∷ is) = Apart i is × Distinct is

falls_distinct : (d : ℕ) (is : List ℕ) → Falls d is → Distinct is
unfolding Falls Distinct
falls_distinct d [] f = tt
falls_distinct d (i ∷ is) f =
    (λ j l e. omega (arith, falls_below (depth i) is f.1 j l, ap depth e), falls_distinct (depth i) is f.1)

pub roots_distinct : (n : ℕ) → Distinct (roots n)
unfolding roots
roots_distinct n = falls_distinct 21 (roots_below 21 n) (below_falls 21 n)

-- ---- the list without one of its numbers

without_none : (x : ℕ) (is : List ℕ) → Apart x is → without x is ≡ is
unfolding without
without_none x [] a = refl
without_none x (i ∷ is) a =
    ap (λ (b : Bool). chosen b (without x is) (i ∷ without x is)) (ne_eqb i x (a 0 (zero-lt-suc (length is))))
    ∙ ap (λ (l : List ℕ). i ∷ l) (without_none x is (λ j l. a (suc j) (omega arith)))

pub without_cut : (is : List ℕ) (k : ℕ) → Distinct is → k < length is → without (get_or is k 0) is ≡ take k is ++ drop (suc k) is
unfolding without Distinct
without_cut [] k u h = absurd (not-suc-le-zero h)
without_cut (i ∷ is) zero u h =
    ap (λ (b : Bool). chosen b (without i is) (i ∷ without i is)) (eq-eqb i i refl) ∙ without_none i is u.0
without_cut (i ∷ is) (suc k) u h =
    ap (λ (b : Bool). chosen b (without (get_or is k 0) is) (i ∷ without (get_or is k 0) is))
    (ne_eqb i (get_or is k 0) (λ e. u.0 k (le_of_suc-le-suc h) (sym e)))
    ∙ ap (λ (l : List ℕ). i ∷ l) (without_cut is k u.1 (le_of_suc-le-suc h))

module _ {A : Type 0} (d : A) (is : List A) (k : ℕ) (h : k < length is) where
  pub length_cut : length (take k is ++ drop (suc k) is) ≡ length is - 1
  length_cut =
      length-append (take k is) (drop (suc k) is) ∙ ap₂ (λ (a b : ℕ). a + b) (length-take-le k is (omega arith)) (length-drop (suc k) is)
      ∙ omega arith

  cut_at_lem : (j : ℕ) → j < length is - 1 → (b : Bool) → ltb j k ≡ b → get_or (take k is ++ drop (suc k) is) j d ≡ get_or is (cond b j (j + 1)) d
  cut_at_lem j l true e =
      let g : j < k = ltb-true j k e in
      let m : length (take k is) ≡ k = length-take-le k is (omega arith) in
      get_or-append (take k is) (drop (suc k) is) d j (omega arith) ∙ get_or-take k is j d g
  cut_at_lem j l false e =
      let g : k ≤ j = ltb-false j k e in
      let f : k + (j - k) ≡ j = omega arith in
      ap (λ (x : ℕ). get_or (take k is ++ drop (suc k) is) x d) (sym f)
      ∙ get_or_behind (take k is) (drop (suc k) is) k (j - k) d (length-take-le k is (omega arith))
      ∙ get_or-drop (suc k) is (j - k) d ∙ ap (λ (x : ℕ). get_or is x d) (omega arith)

  pub cut_run : take k is ++ drop (suc k) is ≡ run (λ j. get_or is (skipped k j) d) 0 (length is - 1)
  cut_run =
      let e : length (run (λ j. get_or is (skipped k j) d) 0 (length is - 1)) ≡ length is - 1 = length_run (λ j. get_or is (skipped k j) d) 0 (length is - 1) in
      ext_get_or d (take k is ++ drop (suc k) is) (run (λ j. get_or is (skipped k j) d) 0 (length is - 1)) (length_cut ∙ sym e)
      (λ j l. let m : j < length is - 1 = omega (arith, length_cut) in
      cut_at_lem j m (ltb j k) refl ∙ sym (get_or_run (λ j. get_or is (skipped k j) d) 0 (length is - 1) j d m ∙ ap (λ (x : ℕ). get_or is (skipped k x) d) (zero-add j)))

pub others_cut : (n c : ℕ) → ChunkOf n c
    → other_roots n c ≡ take (place_above (roots n) c) (roots n) ++ drop (suc (place_above (roots n) c)) (roots n)
unfolding other_roots
others_cut n c h =
    ap (λ (x : ℕ). without x (roots n)) (place_root (roots n) c)
    ∙ without_cut (roots n) (place_above (roots n) c) (roots_distinct n) (place_below n c h)

pub other_count_lem : (n c : ℕ) → ChunkOf n c → length (other_roots n c) ≡ length (roots n) - 1
other_count_lem n c h = ap length (others_cut n c h) ∙ length_cut 0 (roots n) (place_above (roots n) c) (place_below n c h)

pub few_others : (n c : ℕ) → ChunkOf n c → length (other_roots n c) ≤ 19
few_others n c h = omega (arith, other_count_lem n c h, length_roots_le n h.count)

-- ---- the roots in the code's array

pub root_small : {n i j : ℕ} → n ≤ most_chunks → (j < length (roots n)) × (i ≡ get_or (roots n) j 0) → i < 4194304
unfolding entries
root_small {n} {j = j} s a = omega (arith, root_below n j a.0)

-- ---- the root's block holds the chunk

pub record Spans (i c : ℕ) : Type 0 where
  pub from : block i * 2 ^ depth i ≤ c
  pub to : c < (block i + 1) * 2 ^ depth i

odd_start : (d n : ℕ) → n / 2 ^ d % 2 ≡ 1 → (n / 2 ^ d - 1) * 2 ^ d ≡ n / 2 ^ suc d * 2 ^ suc d
odd_start d n e =
    let h : n / 2 ^ d / 2 ≡ n / 2 ^ suc d = shr-shr n d 1 ∙ ap (λ (k : ℕ). n / 2 ^ k) (add-one d) in
    let g : n / 2 ^ d - 1 ≡ 2 * (n / 2 ^ suc d) = omega arith in
    ap (λ (q : ℕ). q * 2 ^ d) g ∙ mul_assoc 2 (n / 2 ^ suc d) (2 ^ d) ∙ sym (pow_twice (n / 2 ^ suc d) d)

spans_first : (i : ℕ) (is : List ℕ) (c : ℕ) → block i * 2 ^ depth i ≤ c → ((block i + 1) * 2 ^ depth i ≤ c → Spans (root_above is c) c)
    → Spans (root_above (i ∷ is) c) c
unfolding root_above
spans_first i is c h rest = pick (ltb c ((block i + 1) * 2 ^ depth i)) refl
  where
    pick : (b : Bool) → ltb c ((block i + 1) * 2 ^ depth i) ≡ b → Spans (chosen b i (root_above is c)) c
    pick true e = record { from = h; to = ltb-true c ((block i + 1) * 2 ^ depth i) e }
    pick false e = rest (ltb-false c ((block i + 1) * 2 ^ depth i) e)

spans_below : (d n c : ℕ) → n / 2 ^ d * 2 ^ d ≤ c → c < n → Spans (root_above (roots_below d n) c) c
unfolding roots_below
spans_below zero n c h l =
    absurd (omega (arith, subst (λ (x : ℕ). x ≤ c) (mul-one (n / 1) ∙ div-one n) h))
spans_below (suc d) n c h l = pick (bit (n / 2 ^ d)) (λ g. spans_below d n c g l)
  where
    pick : (n / 2 ^ d % 2 ≡ 0) ⊎ (n / 2 ^ d % 2 ≡ 1) → (n / 2 ^ d * 2 ^ d ≤ c → Spans (root_above (roots_below d n) c) c)
        → Spans (root_above (root_of d n ++ roots_below d n) c) c
    pick (inl e) rest =
        subst (λ (r : List ℕ). Spans (root_above (r ++ roots_below d n) c) c) (sym (no_root d n e)) (rest (subst (λ (x : ℕ). x ≤ c) (sym (even_end d n e)) h))
    pick (inr o) rest =
        let q : n / 2 ^ d - 1 + 1 ≡ n / 2 ^ d = omega arith in
        let at : (x : ℕ) → (block (index d x)) * 2 ^ depth (index d x) ≡ x * 2 ^ d =
        λ x. ap₂ (λ (a b : ℕ). a * 2 ^ b) (block_index d x) (depth_index d x) in
        let end : (x : ℕ) → (block (index d x) + 1) * 2 ^ depth (index d x) ≡ (x + 1) * 2 ^ d =
        λ x. ap₂ (λ (a b : ℕ). (a + 1) * 2 ^ b) (block_index d x) (depth_index d x) in
        subst (λ (r : List ℕ). Spans (root_above (r ++ roots_below d n) c) c) (sym (one_root d n o))
        (spans_first (index d (n / 2 ^ d - 1)) (roots_below d n) c (subst (λ (x : ℕ). x ≤ c) (sym (at (n / 2 ^ d - 1) ∙ odd_start d n o)) h)
        (λ g. rest (subst (λ (x : ℕ). x ≤ c) (end (n / 2 ^ d - 1) ∙ ap (λ (x : ℕ). x * 2 ^ d) q) g)))

pub root_spans : (n c : ℕ) → ChunkOf n c → Spans (root_above (roots n) c) c
unfolding roots
root_spans n c h =
    let e : n / 2097152 ≡ 0 = omega (arith, h.count) in
    spans_below 21 n c (subst (λ (x : ℕ). x * 2097152 ≤ c) (sym e) (omega arith)) h.below
