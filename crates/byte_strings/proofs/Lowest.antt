-- The search for the lowest wrong number, step by step up to an end.
-- Assumes nothing.
use Prim.Native.Nat.{ℕ, zero, suc, ◌+◌, ◌-◌, ◌≤◌, ◌<◌}
use mathlib.Core.Path.{◌≡◌, refl, sym, ap, ◌∙◌, subst}
use mathlib.Core.Logic.{◌⊎◌, inl, inr}
use mathlib.Core.Bool.{Bool, true, false}
use native.Mathlib.Nat.{le_refl, add-zero, add-suc, suc-add}
use native.Mathlib.Numerals.{add-one}
use native.Mathlib.Decide.{dec_lt}
use native.Mathlib.Omega.{arith}
use Rattle.byte_strings.proofs.Bools.{cases, clash}
use Rattle.byte_strings.specs.Lowest.{Lowest, nowhere, first, lowest, IsLowest, LowestForAll}

-- one step of the search
abbrev pub step : Bool → ℕ → Lowest → Lowest
step b i l = elim b [ true ↦ l | false ↦ first i ]

module _ (right : ℕ → Bool) (i end : ℕ) where
  one_more_lem : i < end → lowest right i (end - i) ≡ step (right i) i (lowest right (i + 1) (end - (i + 1)))
  unfolding lowest
  one_more_lem h =
      let e : end - i ≡ suc (end - (i + 1)) = omega arith in
      ap (lowest right i) e ∙ ap (λ (j : ℕ). step (right i) i (lowest right j (end - (i + 1)))) (sym (add-one i))

  -- a right number is passed
  pub lowest_on : i < end → right i ≡ true → lowest right i (end - i) ≡ lowest right (i + 1) (end - (i + 1))
  lowest_on h e = one_more_lem h ∙ ap (λ (b : Bool). step b i (lowest right (i + 1) (end - (i + 1)))) e

  -- a wrong one is found
  pub lowest_off : i < end → right i ≡ false → lowest right i (end - i) ≡ first i
  lowest_off h e = one_more_lem h ∙ ap (λ (b : Bool). step b i (lowest right (i + 1) (end - (i + 1)))) e

  -- and past the end there is none
  pub lowest_end : end ≤ i → lowest right i (end - i) ≡ nowhere
  unfolding lowest
  lowest_end h = let e : end - i ≡ 0 = omega arith in ap (lowest right i) e

-- ---- two tests

here_or_behind : (i j : ℕ) → i ≤ j → (i ≡ j) ⊎ (suc i ≤ j)
here_or_behind i j h = elim (dec_lt i j) [ yes l ↦ inr l | no f ↦ inl (omega arith) ]

-- two tests find the same where they agree as long as all before was right
pub lowest_agree : (f g : ℕ → Bool) (i k : ℕ)
    → ((j : ℕ) → i ≤ j → j < i + k → ((m : ℕ) → i ≤ m → m < j → g m ≡ true) → f j ≡ g j) → lowest f i k ≡ lowest g i k
unfolding lowest
lowest_agree f g i zero h = refl
lowest_agree f g i (suc k) h =
    ap (λ (b : Bool). step b i (lowest f (suc i) k)) (h i (le_refl i) (omega arith) (λ m p q. absurd (omega arith)))
    ∙ go (g i) refl
    (λ e. lowest_agree f g (suc i) k
    (λ j p q before. h j (omega arith) (omega arith)
    (λ m s t. elim (here_or_behind i m s) [ inl r ↦ subst (λ (x : ℕ). g x ≡ true) r e | inr r ↦ before m r t ])))
  where
    go : (b : Bool) → g i ≡ b → (g i ≡ true → lowest f (suc i) k ≡ lowest g (suc i) k)
        → step b i (lowest f (suc i) k) ≡ step b i (lowest g (suc i) k)
    go false e r = refl
    go true e r = r e

-- ---- what the search finds

pub never_first : {A : Type 0} (i : ℕ) → first i ≡ nowhere → A
never_first i e = let z : ◌≡◌ {A = ℕ} 0 1 = cc in absurd (omega arith)

module _ (right : ℕ → Bool) where
  -- all is right, or the first wrong number with all right before it
  pub data Found (i k : ℕ) (l : Lowest) : Type 0 where
    all : l ≡ nowhere → ((j : ℕ) → i ≤ j → j < i + k → right j ≡ true) → Found i k l
    one : (j : ℕ) → l ≡ first j → i ≤ j → j < i + k → right j ≡ false → ((m : ℕ) → i ≤ m → m < j → right m ≡ true) → Found i k l

  pub found_lowest : (i k : ℕ) → Found i k (lowest right i k)
  unfolding lowest
  found_lowest i zero = all refl (λ j h g. absurd (omega arith))
  found_lowest i (suc k) = go (cases (right i)) (found_lowest (suc i) k)
    where
      go : (right i ≡ true) ⊎ (right i ≡ false) → Found (suc i) k (lowest right (suc i) k) → Found i (suc k) (lowest right i (suc k))
      go (inr e) f = one i (ap (λ (b : Bool). step b i (lowest right (suc i) k)) e) (le_refl i) (omega arith) e (λ m h g. absurd (omega arith))
      go (inl e) (all l h) =
          all (ap (λ (b : Bool). step b i (lowest right (suc i) k)) e ∙ l)
          (λ j p q. elim (here_or_behind i j p) [ inl r ↦ subst (λ (x : ℕ). right x ≡ true) r e | inr r ↦ h j r (omega arith) ])
      go (inl e) (one j l p q w h) =
          one j (ap (λ (b : Bool). step b i (lowest right (suc i) k)) e ∙ l) (omega arith) (omega arith) w
          (λ m s t. elim (here_or_behind i m s) [ inl r ↦ subst (λ (x : ℕ). right x ≡ true) r e | inr r ↦ h m r t ])

  -- a wrong number with all right before it is the only one
  only_one : (i j m : ℕ) → i ≤ j → i ≤ m → right j ≡ false → right m ≡ false → ((x : ℕ) → i ≤ x → x < j → right x ≡ true)
      → ((x : ℕ) → i ≤ x → x < m → right x ≡ true) → j ≡ m
  only_one i j m p q w v h g =
      elim (dec_lt j m) [
        | yes l ↦ clash (right j) (g j p l) w
        | no f ↦ elim (dec_lt m j) [ yes l ↦ clash (right m) (h m q l) v | no d ↦ omega arith ]
      ]

  is_lowest : (i k : ℕ) (l : Lowest) → Found i k l → IsLowest right i k l
  is_lowest i k l (all e h) =
      record {
        none = (λ _. h, λ _. e);
        some = λ j. (λ d. absurd (let z : ◌≡◌ {A = ℕ} 0 1 = cc in omega arith), λ f. clash (right j) (h j f.0 f.1) f.2);
      }
  is_lowest i k l (one j e p q w h) =
      record {
        none = (λ d. absurd (let z : ◌≡◌ {A = ℕ} 0 1 = cc in omega arith), λ g. clash (right j) (g j p q) w);
        some = λ m. (
          λ d. let r : j ≡ m = cc in
              subst (λ (x : ℕ). (i ≤ x) × (x < i + k) × (right x ≡ false) × ((y : ℕ) → i ≤ y → y < x → right y ≡ true)) r (p, q, w, h),
          λ f. e ∙ ap first (only_one i j m p f.0 w f.2 h f.3),
        );
      }

pub lowest_for_all : LowestForAll
lowest_for_all right i k = is_lowest right i k (lowest right i k) (found_lowest right i k)

-- ---- none is found wrong

-- where none is found all are right
pub nowhere_right : (right : ℕ → Bool) (i k : ℕ) → lowest right i k ≡ nowhere → (j : ℕ) → j < k → right (i + j) ≡ true
unfolding lowest
nowhere_right right i zero e j h = absurd (omega arith)
nowhere_right right i (suc k) e j h = go (passed (right i) refl e) (λ d m l. nowhere_right right (suc i) k d m l) j h
  where
    passed : (b : Bool) → right i ≡ b → step b i (lowest right (suc i) k) ≡ nowhere → (right i ≡ true) × (lowest right (suc i) k ≡ nowhere)
    passed true t d = (t, d)
    passed false t d = never_first i d

    go : (right i ≡ true) × (lowest right (suc i) k ≡ nowhere)
        → (lowest right (suc i) k ≡ nowhere → (m : ℕ) → m < k → right (suc i + m) ≡ true) → (j : ℕ) → j < suc k → right (i + j) ≡ true
    go d f zero l = ap right (add-zero i) ∙ d.0
    go d f (suc m) l = ap right (add-suc i m ∙ sym (suc-add i m)) ∙ f d.1 m (omega arith)

-- and where all are right none is found
pub lowest_none : (right : ℕ → Bool) (i k : ℕ) → ((j : ℕ) → i ≤ j → j < i + k → right j ≡ true) → lowest right i k ≡ nowhere
unfolding lowest
lowest_none right i zero h = refl
lowest_none right i (suc k) h =
    ap (λ (b : Bool). step b i (lowest right (suc i) k)) (h i (le_refl i) (omega arith))
    ∙ lowest_none right (suc i) k (λ j p q. h j (omega arith) (omega arith))

pub right_nowhere : (right : ℕ → Bool) (i k : ℕ) → ((j : ℕ) → j < k → right (i + j) ≡ true) → lowest right i k ≡ nowhere
right_nowhere right i k h =
    lowest_none right i k
    (λ j p q. let e : i + (j - i) ≡ j = omega arith in ap right (sym e) ∙ h (j - i) (omega arith))
