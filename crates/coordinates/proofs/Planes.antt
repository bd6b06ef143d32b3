-- A loop that stores byte after byte into n-byte planes. Assumes nothing.
use Rattle.std.proofs.Common.{◌≡◌, ℕ, ◌+◌, ◌*◌, ◌/◌, ◌%◌, ◌<◌, ◌≤◌, Bool, true, false, eqb, List, ◌++◌, length, get_or, take, drop}
use Rattle.std.proofs.Common.{set, sym, refl, ap, ◌∙◌, subst, ap₂, mul-le-mul_right, suc-mul}
use Rattle.std.proofs.Common.{mul_comm, zero-add, arith, length-set, take-append-drop, length-take-le, get_or-set_other, get_or-set_same, drop-set-lt, eqb-true}
use lib.Arith.{digits_div, digits_mod, digits_lt}
use borrow.Author.Tests.{eqb-false}
use Rattle.byte_strings.specs.Lists.{part, put, run, joined}
use Rattle.byte_strings.specs.Numbers.{be}
use Rattle.byte_strings.proofs.Lists.{length_run, run_ext, run_from, part_run, length_joined, parts_joined}
use Rattle.coordinates.specs.Grouping.{count, difference, plane, planes, remaining, grouped}

-- after t stores, four to each place of the planes, byte k of place j is `f k j` wherever it is among them; behind the planes all is as it was
pub record Filled (f : ℕ → ℕ → ℕ) (n : ℕ) (old : List ℕ) (t : ℕ) (xs : List ℕ) : Type 0 where
  pub long : length xs ≡ length old
  pub stored : (k j : ℕ) → k < 4 → j < n → 4 * j + k < t → get_or xs (k * n + j) 0 ≡ f k j
  pub behind : drop (4 * n) xs ≡ drop (4 * n) old

module _ (f : ℕ → ℕ → ℕ) (n : ℕ) (old : List ℕ) (room : 4 * n ≤ length old) where
  pub filled_none : Filled f n old 0 old
  filled_none = record { long = refl; stored = λ k j a b h. absurd (omega arith); behind = refl }

  -- two places of the planes are the same only if both numbers are
  apart : (k j m i : ℕ) → j < n → i < n → k * n + j ≡ m * n + i → (k ≡ m) × (j ≡ i)
  apart k j m i a b e = (
    sym (digits_div k a) ∙ ap (λ (x : ℕ). x / n) e ∙ digits_div m b,
    sym (digits_mod k a) ∙ ap (λ (x : ℕ). x % n) e ∙ digits_mod m b,
  )

  inside : (m i : ℕ) → m < 4 → i < n → m * n + i < 4 * n
  inside m i a b = digits_lt a b

  -- one store more: byte m of place i
  pub filled_more : (xs : List ℕ) (m i p v : ℕ) → m < 4 → i < n → p ≡ m * n + i → v ≡ f m i
      → Filled f n old (4 * i + m) xs → Filled f n old (4 * i + m + 1) (set xs p v)
  filled_more xs m i p v a b e w h =
      let q : p < 4 * n = subst (λ (x : ℕ). x < 4 * n) (sym e) (inside m i a b) in
      record {
        long = length-set xs p v ∙ h.long;
        stored = λ k j c d l. at k j c d l (eqb (k * n + j) p) refl;
        behind = drop-set-lt (4 * n) xs p v q ∙ h.behind;
      }
    where
      at : (k j : ℕ) → k < 4 → j < n → 4 * j + k < 4 * i + m + 1 → (t : Bool) → eqb (k * n + j) p ≡ t → get_or (set xs p v) (k * n + j) 0 ≡ f k j
      at k j c d l true s =
          let o : k * n + j ≡ p = eqb-true (k * n + j) p s in
          let u = apart k j m i d b (o ∙ e) in
          let q : p < 4 * n = subst (λ (x : ℕ). x < 4 * n) (sym e) (inside m i a b) in
          ap (λ (x : ℕ). get_or (set xs p v) x 0) o ∙ get_or-set_same xs p v 0 (omega (arith, h.long)) ∙ w ∙ ap₂ f (sym u.0) (sym u.1)
      at k j c d l false s =
          let o : k * n + j ≡ p → ⊥ = eqb-false (k * n + j) p s in
          get_or-set_other xs p (k * n + j) v 0 o ∙ h.stored k j c d (less (eqb k m) refl)
        where
          less : (t : Bool) → eqb k m ≡ t → 4 * j + k < 4 * i + m
          less true r =
              let y : k ≡ m = eqb-true k m r in
              let z : j ≡ i → ⊥ = λ x. eqb-false (k * n + j) p s (ap₂ (λ (g u : ℕ). g * n + u) y x ∙ sym e) in
              omega arith
          less false r = let y : k ≡ m → ⊥ = eqb-false k m r in omega arith

  moved : (t u : ℕ) (ys : List ℕ) → t ≡ u → Filled f n old t ys → Filled f n old u ys
  moved t u ys q h = subst (λ (x : ℕ). Filled f n old x ys) q h

  -- the four stores of place i
  pub filled_turn : (xs : List ℕ) (i p₀ p₁ p₂ p₃ v₀ v₁ v₂ v₃ : ℕ) → i < n → p₀ ≡ i → p₁ ≡ n + i → p₂ ≡ 2 * n + i → p₃ ≡ 3 * n + i
      → v₀ ≡ f 0 i → v₁ ≡ f 1 i → v₂ ≡ f 2 i → v₃ ≡ f 3 i
      → Filled f n old (4 * i) xs → Filled f n old (4 * (i + 1)) (set (set (set (set xs p₀ v₀) p₁ v₁) p₂ v₂) p₃ v₃)
  filled_turn xs i p₀ p₁ p₂ p₃ v₀ v₁ v₂ v₃ b e₀ e₁ e₂ e₃ w₀ w₁ w₂ w₃ h =
      let h₀ = filled_more xs 0 i p₀ v₀ (omega arith) b (omega arith) w₀ (moved (4 * i) (4 * i + 0) xs (omega arith) h) in
      let h₁ = filled_more _ 1 i p₁ v₁ (omega arith) b (omega arith) w₁ (moved (4 * i + 0 + 1) (4 * i + 1) _ (omega arith) h₀) in
      let h₂ = filled_more _ 2 i p₂ v₂ (omega arith) b (omega arith) w₂ (moved (4 * i + 1 + 1) (4 * i + 2) _ (omega arith) h₁) in
      let h₃ = filled_more _ 3 i p₃ v₃ (omega arith) b (omega arith) w₃ (moved (4 * i + 2 + 1) (4 * i + 3) _ (omega arith) h₂) in
      moved (4 * i + 3 + 1) (4 * (i + 1)) _ (omega arith) h₃

-- the bytes of n-byte planes
pub plane_part : (xs : List ℕ) (n k : ℕ) → k < 4 → 4 * n ≤ length xs → run (λ j. get_or xs (k * n + j) 0) 0 n ≡ part xs (k * n) n
plane_part xs n k a room =
    let q : k * n + n ≤ 4 * n = subst (λ (x : ℕ). x ≤ 4 * n) (suc-mul k n) (mul-le-mul_right n a) in
    sym (part_run xs (k * n) n 0 (omega (arith, q)) ∙ run_from (λ j. get_or xs j 0) (k * n) n)

pub planes_joined : (f : ℕ → ℕ → ℕ) (n : ℕ) (xs : List ℕ) → 4 * n ≤ length xs
    → ((k j : ℕ) → k < 4 → j < n → get_or xs (k * n + j) 0 ≡ f k j)
    → joined (run (λ k. run (f k) 0 n) 0 4) ≡ take (4 * n) xs
unfolding part
planes_joined f n xs room h =
    ap joined (run_ext (λ k. run (f k) 0 n) (λ k. part xs (0 + n * k) n) 0 4 (λ k _ b.
    run_ext (f k) (λ j. get_or xs (k * n + j) 0) 0 n (λ j _ c. sym (h k j (omega arith) (omega arith)))
    ∙ plane_part xs n k (omega arith) room
    ∙ ap (λ (x : ℕ). part xs x n) (mul_comm k n ∙ sym (zero-add (n * k)))))
    ∙ parts_joined xs 0 n 4 ∙ ap (λ (x : ℕ). take x xs) (mul_comm n 4)

-- all of them stored
pub filled_all : (f : ℕ → ℕ → ℕ) (n : ℕ) (old : List ℕ) → 4 * n ≤ length old → (xs : List ℕ) → Filled f n old (4 * n) xs
    → xs ≡ put old 0 (joined (run (λ k. run (f k) 0 n) 0 4))
unfolding put
filled_all f n old room xs h =
    let bound : 4 * n ≤ length xs = omega (arith, h.long) in
    let e : joined (run (λ k. run (f k) 0 n) 0 4) ≡ take (4 * n) xs = planes_joined f n xs bound (λ k j a b. h.stored k j a b (omega arith)) in
    let l : length (joined (run (λ k. run (f k) 0 n) 0 4)) ≡ 4 * n = ap length e ∙ length-take-le (4 * n) xs bound in
    sym (take-append-drop (4 * n) xs) ∙ ap₂ ◌++◌ (sym e) (h.behind ∙ ap (λ (x : ℕ). drop x old) (sym (zero-add (4 * n)) ∙ ap (λ (x : ℕ). 0 + x) (sym l)))

pub all_planes : (d : List ℕ) (n : ℕ) (old : List ℕ) → 4 * n ≤ length old → (xs : List ℕ) (i : ℕ) → i ≡ n
    → Filled (λ k j. get_or (be 4 (difference d j)) k 0) n old (4 * i) xs → xs ≡ put old 0 (planes (difference d) n)
unfolding planes plane
all_planes d n old room xs i e h =
    let f : ℕ → ℕ → ℕ = λ k j. get_or (be 4 (difference d j)) k 0 in
    filled_all f n old room xs (subst (λ (t : ℕ). Filled f n old (4 * t) xs) e h)

pub length_plane : (w : ℕ → ℕ) (n k : ℕ) → length (plane w n k) ≡ n
unfolding plane
length_plane w n k = length_run (λ i. get_or (be 4 (w i)) k 0) 0 n

pub length_planes : (w : ℕ → ℕ) (n : ℕ) → length (planes w n) ≡ 4 * n
unfolding planes
length_planes w n = length_joined (plane w n) n (length_plane w n) 0 4

pub grouped_is : (d : List ℕ) → grouped d ≡ planes (difference d) (count d) ++ remaining d
unfolding grouped
grouped_is d = refl
