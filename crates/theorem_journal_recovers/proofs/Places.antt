-- What stands at a place after bytes were put, a range written, or ranges written. Assumes nothing.
use Prim.Native.Nat.{ℕ, suc, ◌+◌, ◌-◌, ◌≤◌, ◌<◌}
use native.Mathlib.Nat.{add-zero}
use native.Mathlib.Omega.{arith}
use native.Mathlib.Decide.{dec_le}
use mathlib.Core.Path.{◌≡◌, refl, sym, ap, ◌∙◌, subst}
use mathlib.Core.Logic.{◌⊎◌, inl, inr, ⊎_elim}
use mathlib.Core.List.Memᴰ
use mathlib.Core.List.{List, [], ◌∷◌, Memᴰ}
use lib.ListN.{length, get_or, drop, length-append, length-replicate, get_or-append}
use lib.Seq.{get_or-take, get_or-drop}
use Rattle.byte_strings.specs.Lists.{put, zeros}
use Rattle.byte_strings.proofs.Lists.{length_put, take_put, drop_put, part_put, get_d_part}
use Rattle.journal.specs.Ranges.{Range, replaced, fresh, blank, witness, start, bytes, stop, write, write_all, grown}
use Rattle.journal.specs.Form.{Holds, In, Rising}
use Rattle.theorem_journal_recovers.specs.Recovers.{Written}

-- ---- bytes put

put_in : (xs : List ℕ) (at : ℕ) (ys : List ℕ) (j : ℕ) → at + length ys ≤ length xs → j < length ys → get_or (put xs at ys) (at + j) 0 ≡ get_or ys j 0
put_in xs at ys j l h =
    sym (get_d_part (put xs at ys) at (length ys) j 0 h) ∙ ap (λ (r : List ℕ). get_or r j 0) (part_put xs at (length ys) ys refl (omega arith))

put_before : (xs : List ℕ) (at : ℕ) (ys : List ℕ) (i : ℕ) → at ≤ length xs → i < at → get_or (put xs at ys) i 0 ≡ get_or xs i 0
put_before xs at ys i l h =
    sym (get_or-take at (put xs at ys) i 0 h) ∙ ap (λ (r : List ℕ). get_or r i 0) (take_put at xs at ys (omega arith) l) ∙ get_or-take at xs i 0 h

at_front : (xs : List ℕ) (i : ℕ) → get_or (drop i xs) 0 0 ≡ get_or xs i 0
at_front xs i = get_or-drop i xs 0 0 ∙ ap (λ (k : ℕ). get_or xs k 0) (add-zero i)

put_behind : (xs : List ℕ) (at : ℕ) (ys : List ℕ) (i : ℕ) → at ≤ length xs → at + length ys ≤ i → get_or (put xs at ys) i 0 ≡ get_or xs i 0
put_behind xs at ys i l h =
    sym (at_front (put xs at ys) i) ∙ ap (λ (r : List ℕ). get_or r 0 0) (drop_put i xs at ys h l) ∙ at_front xs i

-- ---- a range written

-- a place lies in a range, before it or behind it
pub whether : (r : Range) (i : ℕ) → Holds r i ⊎ ((i < start r) ⊎ (stop r ≤ i))
whether r i = low (dec_le (start r) i)
  where
    high : start r ≤ i → Dec (suc i ≤ stop r) → Holds r i ⊎ ((i < start r) ⊎ (stop r ≤ i))
    high l (yes h) = inl (l, h)
    high l (no h) = inr (inr (omega arith))

    low : Dec (start r ≤ i) → Holds r i ⊎ ((i < start r) ⊎ (stop r ≤ i))
    low (yes l) = high l (dec_le (suc i) (stop r))
    low (no l) = inr (inl (omega arith))

-- what the range r has for the place i
abbrev pub here : Range → ℕ → ℕ
here r i = get_or (bytes r) (i - start r) 0

-- writing puts the range's bytes, or changes nothing
written_or_not : (r : Range) (f : List ℕ) → (Written r × (write r f ≡ put f (start r) (bytes r))) ⊎ ((Written r → ⊥) × (write r f ≡ f))
unfolding write
written_or_not (replaced at o n) f = inl (tt, refl)
written_or_not (fresh at n) f = inl (tt, refl)
written_or_not (blank at k) f = inl (tt, refl)
written_or_not (witness at w) f = inr (λ x. x, refl)

pub write_length : (r : Range) (f : List ℕ) → stop r ≤ length f → length (write r f) ≡ length f
write_length r f l =
    ⊎_elim (λ x. ap length x.1 ∙ length_put f (start r) (bytes r) l) (λ x. ap length x.1) (written_or_not r f)

pub write_in_lem : (r : Range) (f : List ℕ) (i : ℕ) → stop r ≤ length f → Written r → Holds r i → get_or (write r f) i 0 ≡ here r i
write_in_lem r f i l w h = ⊎_elim (λ x. ap (λ (g : List ℕ). get_or g i 0) x.1 ∙ inner) (λ x. absurd (x.0 w)) (written_or_not r f)
  where
    e : start r + (i - start r) ≡ i
    e = omega arith

    inner : get_or (put f (start r) (bytes r)) i 0 ≡ here r i
    inner =
        ap (λ (k : ℕ). get_or (put f (start r) (bytes r)) k 0) (sym e) ∙ put_in f (start r) (bytes r) (i - start r) l (omega arith)

pub write_out : (r : Range) (f : List ℕ) (i : ℕ) → stop r ≤ length f → ((i < start r) ⊎ (stop r ≤ i)) → get_or (write r f) i 0 ≡ get_or f i 0
write_out r f i l h = ⊎_elim (λ x. ap (λ (g : List ℕ). get_or g i 0) x.1 ∙ outer h) (λ x. ap (λ (g : List ℕ). get_or g i 0) x.1) (written_or_not r f)
  where
    outer : (i < start r) ⊎ (stop r ≤ i) → get_or (put f (start r) (bytes r)) i 0 ≡ get_or f i 0
    outer (inl a) = put_before f (start r) (bytes r) i (omega arith) a
    outer (inr a) = put_behind f (start r) (bytes r) i (omega arith) a

-- a place that is as it should be stays so, where the range has the same for it
write_keeps : (r : Range) (f : List ℕ) (i v : ℕ) → stop r ≤ length f → (Holds r i → here r i ≡ v) → get_or f i 0 ≡ v → get_or (write r f) i 0 ≡ v
write_keeps r f i v l s e =
    ⊎_elim
    (λ h. ⊎_elim (λ x. write_in_lem r f i l x.0 h ∙ s h) (λ x. ap (λ (g : List ℕ). get_or g i 0) x.1 ∙ e) (written_or_not r f))
    (λ h. write_out r f i l h ∙ e)
    (whether r i)

write_either : (r : Range) (f : List ℕ) (i v : ℕ) → stop r ≤ length f → (Holds r i → here r i ≡ v)
    → (get_or (write r f) i 0 ≡ get_or f i 0) ⊎ (get_or (write r f) i 0 ≡ v)
write_either r f i v l s =
    ⊎_elim
    (λ h. ⊎_elim (λ x. inr (write_in_lem r f i l x.0 h ∙ s h)) (λ x. inl (ap (λ (g : List ℕ). get_or g i 0) x.1)) (written_or_not r f))
    (λ h. inl (write_out r f i l h))
    (whether r i)

-- ---- ranges written

-- all of the ranges ws lie within n bytes
abbrev pub AllWithin : ℕ → List Range → Type 0
AllWithin n ws = (r : Range) → In r ws → stop r ≤ n

-- all of the ranges ws that hold the place i have v for it
abbrev pub AllSay : ℕ → ℕ → List Range → Type 0
AllSay i v ws = (r : Range) → In r ws → Holds r i → here r i ≡ v

pub all_length : (n : ℕ) (ws : List Range) (f : List ℕ) → AllWithin n ws → length f ≡ n → length (write_all ws f) ≡ n
unfolding write_all
all_length n [] f a e = e
all_length n (r ∷ ws) f a e =
    all_length n ws (write r f) (λ q m. a q (Memᴰ.tail m))
    (write_length r f (subst (λ (k : ℕ). stop r ≤ k) (sym e) (a r (Memᴰ.head refl))) ∙ e)

module _ (n i v : ℕ) where
  pub all_keep : (ws : List Range) (f : List ℕ) → AllWithin n ws → length f ≡ n → AllSay i v ws → get_or f i 0 ≡ v → get_or (write_all ws f) i 0 ≡ v
  unfolding write_all
  all_keep [] f a l s e = e
  all_keep (r ∷ ws) f a l s e =
      let h : stop r ≤ length f = subst (λ (k : ℕ). stop r ≤ k) (sym l) (a r (Memᴰ.head refl)) in
      all_keep ws (write r f) (λ q m. a q (Memᴰ.tail m)) (write_length r f h ∙ l) (λ q m. s q (Memᴰ.tail m))
      (write_keeps r f i v h (s r (Memᴰ.head refl)) e)

  pub all_make : (ws : List Range) (f : List ℕ) → AllWithin n ws → length f ≡ n → AllSay i v ws
      → (r : Range) → In r ws → Written r → Holds r i → get_or (write_all ws f) i 0 ≡ v
  unfolding write_all
  all_make [] f a l s r m w h = absurd (Memᴰ.not-nil m)
  all_make (q ∷ ws) f a l s r m w h =
      let b : stop q ≤ length f = subst (λ (k : ℕ). stop q ≤ k) (sym l) (a q (Memᴰ.head refl)) in
      let a' : AllWithin n ws = λ p k. a p (Memᴰ.tail k) in
      let s' : AllSay i v ws = λ p k. s p (Memᴰ.tail k) in
      let l' : length (write q f) ≡ n = write_length q f b ∙ l in
      ⊎_elim
      (λ e. all_keep ws (write q f) a' l' s'
      (let h' : Holds q i = subst (λ (p : Range). Holds p i) e h in
      write_in_lem q f i b (subst (λ (p : Range). Written p) e w) h' ∙ s q (Memᴰ.head refl) h'))
      (λ k. all_make ws (write q f) a' l' s' r k w h)
      (Memᴰ.cases_cons m)

  -- some of the writes: the place has what it had, or v
  pub all_either : (ws : List Range) (f : List ℕ) → AllWithin n ws → length f ≡ n → AllSay i v ws
      → (get_or (write_all ws f) i 0 ≡ get_or f i 0) ⊎ (get_or (write_all ws f) i 0 ≡ v)
  unfolding write_all
  all_either [] f a l s = inl refl
  all_either (q ∷ ws) f a l s =
      let b : stop q ≤ length f = subst (λ (k : ℕ). stop q ≤ k) (sym l) (a q (Memᴰ.head refl)) in
      let a' : AllWithin n ws = λ p k. a p (Memᴰ.tail k) in
      let s' : AllSay i v ws = λ p k. s p (Memᴰ.tail k) in
      let l' : length (write q f) ≡ n = write_length q f b ∙ l in
      ⊎_elim (λ e. ⊎_elim (λ d. inl (e ∙ d)) (λ d. inr (e ∙ d)) (write_either q f i v b (s q (Memᴰ.head refl)))) (λ e. inr e)
      (all_either ws (write q f) a' l' s')

-- ---- rising ranges

pub rising_end : (a : ℕ) (rs : List Range) (n : ℕ) → Rising a rs n → a ≤ n
rising_end a [] n p = p
rising_end a (r ∷ rs) n p = let h = rising_end (stop r) rs n p.1 in let l = p.0 in omega arith

pub rising_from : (a : ℕ) (rs : List Range) (n : ℕ) → Rising a rs n → (r : Range) → In r rs → a ≤ start r
rising_from a [] n p r m = absurd (Memᴰ.not-nil m)
rising_from a (q ∷ rs) n p r m =
    ⊎_elim (λ e. subst (λ (x : Range). a ≤ start x) (sym e) p.0)
    (λ k. let h = rising_from (stop q) rs n p.1 r k in let l = p.0 in omega arith) (Memᴰ.cases_cons m)

pub rising_within : (a : ℕ) (rs : List Range) (n : ℕ) → Rising a rs n → AllWithin n rs
rising_within a [] n p r m = absurd (Memᴰ.not-nil m)
rising_within a (q ∷ rs) n p r m =
    ⊎_elim (λ e. subst (λ (x : Range). stop x ≤ n) (sym e) (rising_end (stop q) rs n p.1))
    (λ k. rising_within (stop q) rs n p.1 r k) (Memᴰ.cases_cons m)

-- no place lies in two of them
pub rising_one : (a : ℕ) (rs : List Range) (n i : ℕ) → Rising a rs n → (r q : Range) → In r rs → In q rs → Holds r i → Holds q i → r ≡ q
rising_one a [] n i p r q m k h j = absurd (Memᴰ.not-nil m)
rising_one a (x ∷ rs) n i p r q m k h j =
    ⊎_elim
    (λ e. ⊎_elim (λ d. e ∙ sym d) (λ t. absurd (apart r q e t h j)) (Memᴰ.cases_cons k))
    (λ s. ⊎_elim (λ d. absurd (apart q r d s j h)) (λ t. rising_one (stop x) rs n i p.1 r q s t h j) (Memᴰ.cases_cons k))
    (Memᴰ.cases_cons m)
  where
    apart : (y z : Range) → y ≡ x → In z rs → Holds y i → Holds z i → ⊥
    apart y z e t g l =
        let b : stop x ≤ start z = rising_from (stop x) rs n p.1 z t in
        let g' : Holds x i = subst (λ (w : Range). Holds w i) e g in
        omega arith

-- the range that holds a place, or that there is none
pub found : (rs : List Range) (i : ℕ) → ((r : Range) × In r rs × Holds r i) ⊎ ((r : Range) → In r rs → Holds r i → ⊥)
found [] i = inr (λ r m h. Memᴰ.not-nil m)
found (q ∷ rs) i = ⊎_elim (λ h. inl (q, Memᴰ.head refl, h)) (λ o. rest o (found rs i)) (whether q i)
  where
    rest : (i < start q) ⊎ (stop q ≤ i) → ((r : Range) × In r rs × Holds r i) ⊎ ((r : Range) → In r rs → Holds r i → ⊥)
        → ((r : Range) × In r (q ∷ rs) × Holds r i) ⊎ ((r : Range) → In r (q ∷ rs) → Holds r i → ⊥)
    rest o (inl x) = inl (x.0, Memᴰ.tail x.1, x.2)
    rest o (inr x) =
        inr (λ r m h. ⊎_elim (λ e. let h' : Holds q i = subst (λ (w : Range). Holds w i) e h in ⊎_elim {C = ⊥} (λ a. omega arith) (λ a. omega arith) o) (λ t. x r t h) (Memᴰ.cases_cons m))

-- ---- a file brought to its new length

pub grown_length : (n : ℕ) (f : List ℕ) → length f ≤ n → length (grown n f) ≡ n
unfolding grown
grown_length n f h = length-append f (zeros (n - length f)) ∙ omega (arith, length-replicate {A = ℕ} (n - length f) 0)

pub grown_at : (n : ℕ) (f : List ℕ) (i : ℕ) → i < length f → get_or (grown n f) i 0 ≡ get_or f i 0
unfolding grown
grown_at n f i h = get_or-append f (zeros (n - length f)) 0 i h
