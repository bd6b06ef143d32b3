-- What the short lookups answer on every register that passes the checks 2 to 6: the proof of `ShortLookupsForAll`. Assumes nothing.
use Prim.Native.Nat.{ℕ, zero, suc, ◌+◌, ◌-◌, ◌≤◌, ◌<◌}
use mathlib.Core.Path.{◌≡◌, refl, sym, ap, ◌∙◌, subst}
use mathlib.Core.Bool.{Bool, true, false, cond, ◌&&◌}
use mathlib.Core.List.{List}
use native.Mathlib.Numerals.{add-one}
use native.Mathlib.Nat.{le_dest}
use native.Mathlib.Omega.{arith}
use borrow.Author.Tests.{leb-true, leb-false}
use lib.Dec.{leb}
use Rattle.answer_types.specs.Verdict.{tree, done}
use Rattle.byte_strings.specs.Lowest.{Lowest, nowhere, first, lowest}
use Rattle.byte_strings.proofs.Lowest.{lowest_off, lowest_for_all}
use Rattle.tree_index.specs.Tree.{index}
use Rattle.file_format.specs.Stored.{stored_size, stored_start}
use Rattle.file_format.specs.Belongs.{Register}
use Rattle.checks.specs.Checks.{judged, register_checks}
use Rattle.lookup.specs.Descent.{always}
use Rattle.lookup.specs.Lookup.{Found, refusal, found}
use Rattle.search.proofs.Cut.{cut_none, lowest_none}
use Rattle.short_lookup.specs.ShortLookup.{leaf_right, leaf_refused, leaf_passed, place_by_leaves, byte_by_leaves, short_place_of, short_byte_at}
use Rattle.short_lookup.specs.Theorems.{LeavesFit, FirstLong, ShortLookups, ShortLookupsForAll}
use Rattle.short_lookup.proofs.Walks.{start_next, start_none, leaf_right_lem, leaf_long, refused_by, passed_on, passed_wrong, passed_here}
use Rattle.short_lookup.proofs.Walks.{place_nowhere, place_first, byte_nowhere, byte_first, place_nine, place_there, byte_nine, byte_end, byte_there}
use Rattle.short_lookup.proofs.Calls.{place_by, byte_by}

-- ---- the lowest number that a test finds wrong

module _ (f : ℕ → Bool) (k end : ℕ) (h : k < end) (right : (j : ℕ) → j < k → f j ≡ true) (wrong : f k ≡ false) where
  -- the first wrong one behind right ones
  lowest_first : lowest f 0 end ≡ first k
  lowest_first =
      let e : end ≡ end - 0 = omega arith in
      ap (lowest f 0) e
      ∙ cut_none f 0 k end (omega arith) (omega arith) (sym (lowest_none f 0 (k - 0) (λ j p q. right j (omega arith))))
      ∙ lowest_off f k end h wrong

lowest_all : (f : ℕ → Bool) (end : ℕ) → ((j : ℕ) → j < end → f j ≡ true) → lowest f 0 end ≡ nowhere
lowest_all f end right = lowest_none f 0 end (λ j p q. right j (omega arith))

-- and what is found is the first
pub record Found_at (f : ℕ → Bool) (i m j : ℕ) : Type 0 where
  pub from : i ≤ j
  pub below : j < i + m
  pub wrong : f j ≡ false
  pub right : (l : ℕ) → i ≤ l → l < j → f l ≡ true

pub lowest_says : (f : ℕ → Bool) (i m j : ℕ) → lowest f i m ≡ first j → Found_at f i m j
lowest_says f i m j e = let a = ((lowest_for_all f i m).some j).0 e in record { from = a.0; below = a.1; wrong = a.2; right = a.3 }

-- ---- a tree file

pub and_true : (a b : Bool) → (a && b) ≡ true → (a ≡ true) × (b ≡ true)
and_true true b e = (refl, e)
and_true false b e = let z : ◌≡◌ {A = ℕ} 0 1 = cc in absurd (omega arith)

module _ (t : List ℕ) where
  -- starts rise
  start_mono : (i d : ℕ) → stored_start t i ≤ stored_start t (i + d)
  start_mono i zero = let e : i + 0 ≡ i = omega arith in omega (arith, ap (stored_start t) e)
  start_mono i (suc d) =
      let e : i + suc d ≡ i + d + 1 = omega arith in
      omega (arith, start_mono i d, start_next t (i + d), ap (stored_start t) e)

  start_le : (i j : ℕ) → i ≤ j → stored_start t i ≤ stored_start t j
  start_le i j h = let c = le_dest h in subst (λ (x : ℕ). stored_start t i ≤ stored_start t x) c.1 (start_mono i c.0)

-- a walk goes on from the leaves of the first m chunks
abbrev pub Right : (ℕ → Bool) → List ℕ → ℕ → Type 0
Right known t m = (k : ℕ) → k < m → leaf_right known t k ≡ true

-- in a register from those that fit
pub fits_right : (t : List ℕ) (m : ℕ) → LeavesFit t m → Right always t m
unfolding LeavesFit
fits_right t m p k h = leaf_right_lem always t k refl (p k h)

module _ (known : ℕ → Bool) (t : List ℕ) where
  -- a leaf before chunk k, which does not begin behind the offset, is passed
  before_passed : (b k : ℕ) → Right known t k → stored_start t k ≤ b → (j : ℕ) → j < k → leaf_passed known t b j ≡ true
  before_passed b k p h j l = passed_on known t j b (p j l) (omega (arith, start_next t j, start_le t (j + 1) k (omega arith)))

  module _ (n b k : ℕ) (h : k < n) (s : stored_start t k ≤ b) where
    pub byte_at_lem : Right known t (k + 1) → b < stored_start t k + stored_size t (index 0 k) → found k (b - stored_start t k) ≡ byte_by_leaves known t n b
    byte_at_lem p g =
        let z : leaf_right known t k ≡ true = p k (omega arith) in
        byte_first known t n b k true
        (lowest_first (leaf_passed known t b) k n h (before_passed b k (λ i q. p i (omega arith)) s) (passed_here known t k b z g)) z

    pub byte_stops_lem : Right known t k → leaf_right known t k ≡ false → leaf_refused known t k ≡ byte_by_leaves known t n b
    byte_stops_lem p w =
        byte_first known t n b k false (lowest_first (leaf_passed known t b) k n h (before_passed b k p s) (passed_wrong known t k b w)) w

  pub byte_ends : (n b : ℕ) → Right known t n → stored_start t n ≤ b → refusal 10 (tree (index 0 (n - 1))) ≡ byte_by_leaves known t n b
  byte_ends n b p s = byte_nowhere known t n b (lowest_all (leaf_passed known t b) n (before_passed b n p s))

  pub place_at : (c : ℕ) → Right known t (c + 1) → found (stored_start t c) (stored_size t (index 0 c)) ≡ place_by_leaves known t c
  place_at c p = place_nowhere known t c (lowest_all (leaf_right known t) (c + 1) p)

  pub place_stops : (c k : ℕ) → k ≤ c → Right known t k → leaf_right known t k ≡ false → leaf_refused known t k ≡ place_by_leaves known t c
  place_stops c k h p w = place_first known t c k (lowest_first (leaf_right known t) k (c + 1) (omega arith) p w)

  -- ---- a chunk that is answered

  has_from : (b j : ℕ) → ((l : ℕ) → 0 ≤ l → l < j → leaf_passed known t b l ≡ true) → stored_start t j ≤ b
  unfolding leaf_passed
  has_from b zero p = omega (arith, start_none t)
  has_from b (suc i) p =
      let q = and_true (leaf_right known t i) (leb (stored_start t i + stored_size t (index 0 i)) b) (p i (omega arith) (omega arith)) in
      omega (arith, leb-true (stored_start t i + stored_size t (index 0 i)) b q.1, start_next t i, ap (stored_start t) (add-one i))

  -- a leaf that is right, and is not passed, ends behind the offset
  has_to : (b j : ℕ) → leaf_passed known t b j ≡ false → leaf_right known t j ≡ true → b < stored_start t j + stored_size t (index 0 j)
  unfolding leaf_passed
  has_to b j w f =
      leb-false (stored_start t j + stored_size t (index 0 j)) b
      (sym (ap (λ (x : Bool). x && leb (stored_start t j + stored_size t (index 0 j)) b) f) ∙ w)

  abbrev pub Has : ℕ → ℕ → ℕ → ℕ → Type 0
  Has n b k x = (k < n) × (stored_start t k + x ≡ b) × (x < stored_size t (index 0 k))

  pub byte_has_lem : (n b k x : ℕ) → byte_by_leaves known t n b ≡ found k x → Has n b k x
  unfolding byte_by_leaves leaf_refused
  byte_has_lem n b k x e = pick (lowest (leaf_passed known t b) 0 n) refl e
    where
      told : (j : ℕ) (y : Bool) → Found_at (leaf_passed known t b) 0 n j → leaf_right known t j ≡ y
          → cond y (found j (b - stored_start t j)) (leaf_refused known t j) ≡ found k x → Has n b k x
      told j true a f g =
          let p : j ≡ k = cc in
          let q : b - stored_start t j ≡ x = cc in
          let u : stored_start t j ≤ b = has_from b j a.right in
          let v : b < stored_start t j + stored_size t (index 0 j) = has_to b j a.wrong f in
          subst (λ (y : ℕ). Has n b y x) p (omega (arith, a.below), omega arith, omega arith)
      told j false a f g = let z : ◌≡◌ {A = ℕ} 0 1 = cc in absurd (omega arith)

      pick : (l : Lowest) → lowest (leaf_passed known t b) 0 n ≡ l
          → elim l [ nowhere ↦ refusal 10 (tree (index 0 (n - 1))) | first j ↦ cond (leaf_right known t j) (found j (b - stored_start t j)) (leaf_refused known t j) ] ≡ found k x
          → Has n b k x
      pick nowhere w g = let z : ◌≡◌ {A = ℕ} 0 1 = cc in absurd (omega arith)
      pick (first j) w g = told j (leaf_right known t j) (lowest_says (leaf_passed known t b) 0 n j w) refl g

-- ---- a register

module _ (r : Register) (e : judged (register_checks r) done ≡ done) where
  abbrev t : List ℕ
  t = r.tree

  placed : (c : ℕ) (x : Found) → c < r.n → x ≡ place_by_leaves always t c → short_place_of r c ≡ x
  placed c x h p = sym (p ∙ place_there always t r.n c h ∙ place_by r done (sym e) c)

  located : (b : ℕ) (x : Found) → b < r.size → x ≡ byte_by_leaves always t r.n b → short_byte_at r b ≡ x
  located b x h p =
      sym (p ∙ byte_there always t r.n r.size b (omega arith) (λ q. omega arith) ∙ byte_by r done (sym e) b)

  -- the first leaf above 65,536
  long : (k : ℕ) → FirstLong t k → (leaf_right always t k ≡ false) × (refusal 10 (tree (index 0 k)) ≡ leaf_refused always t k)
  long k p = (leaf_long always t k refl p.long, refused_by always t k true refl)

  answered : ShortLookups r
  answered =
      record {
        place = λ c h p. placed c _ h (place_at always t c (fits_right t (c + 1) p));
        place_long = λ c k h l p. placed c _ h ((long k p).1 ∙ place_stops always t c k l (fits_right t k p.before) (long k p).0);
        no_place = λ c h. sym (place_nine always t r.n c h ∙ place_by r done (sym e) c);
        byte = λ b k h l p s g. located b _ h (byte_at_lem always t r.n b k l s (fits_right t (k + 1) p) g);
        byte_long = λ b k h l p s. located b _ h ((long k p).1 ∙ byte_stops_lem always t r.n b k l s (fits_right t k p.before) (long k p).0);
        byte_none = λ b h p s. located b _ h (byte_ends always t r.n b (fits_right t r.n p) s);
        byte_has = λ b k x h g. byte_has_lem always t r.n b k x (sym (located b _ h refl) ∙ g);
        end = sym (byte_end always t r.n r.size r.size refl ∙ byte_by r done (sym e) r.size);
        no_byte = λ b h. sym (byte_nine always t r.n r.size b h ∙ byte_by r done (sym e) b);
      }

pub short_lookups : ShortLookupsForAll
short_lookups r e = answered r e
