-- The first station of some in a row that has a read waiting. Assumes nothing.
use Prim.Native.Nat.{ℕ, zero, suc, ◌+◌, ◌<◌}
use mathlib.Core.Path.{◌≡◌, refl, sym, ap, ◌∙◌}
use mathlib.Core.List.{List, [], ◌∷◌}
use native.Mathlib.Omega.{arith}
use native.Mathlib.Nat.{add-zero, suc-add, add-suc, not-suc-le-zero}
use lib.ListN.{get_or}
use Rattle.byte_strings.specs.Lists.{run}
use Rattle.station_queue.specs.Table.{Read, nobody, turn, turn_or, first_of}

-- station x, with its first read r, is the first of f i, f (i + 1), .., n of them, that has one
pub record Found (w : List (List Read)) (f : ℕ → ℕ) (i n x : ℕ) (r : Read) : Type 0 where
  pub k : ℕ
  pub below : k < n
  pub here : x ≡ f (i + k)
  pub rest : List Read
  pub waits : get_or w x [] ≡ r ∷ rest
  pub before : (j : ℕ) → j < k → get_or w (f (i + j)) [] ≡ []

module _ (w : List (List Read)) (f : ℕ → ℕ) where
  pub passed : (i n : ℕ) → get_or w (f i) [] ≡ [] → first_of w (run f i (suc n)) ≡ first_of w (run f (suc i) n)
  unfolding first_of run
  passed i n e = ap (λ (l : List Read). turn_or (f i) l (first_of w (run f (suc i) n))) e

  pub met : (i n : ℕ) (r : Read) (rest : List Read) → get_or w (f i) [] ≡ r ∷ rest → first_of w (run f i (suc n)) ≡ turn (f i) r
  unfolding first_of run
  met i n r rest e = ap (λ (l : List Read). turn_or (f i) l (first_of w (run f (suc i) n))) e

  pub ended : (i : ℕ) → first_of w (run f i 0) ≡ nobody
  unfolding first_of run
  ended i = refl

  -- the place j further from the next one is the place one more further from here
  on : (i j : ℕ) → get_or w (f (suc i + j)) [] ≡ get_or w (f (i + suc j)) []
  on i j = ap (λ (y : ℕ). get_or w (f y) []) (suc-add i j ∙ sym (add-suc i j))

  at_zero : (i : ℕ) → get_or w (f (i + 0)) [] ≡ get_or w (f i) []
  at_zero i = ap (λ (y : ℕ). get_or w (f y) []) (add-zero i)

  later : (i n x : ℕ) (r : Read) → get_or w (f i) [] ≡ [] → Found w f (suc i) n x r → Found w f i (suc n) x r
  later i n x r q h =
      record {
        k = suc h.k;
        below = omega arith;
        here = h.here ∙ ap f (suc-add i h.k ∙ sym (add-suc i h.k));
        rest = h.rest;
        waits = h.waits;
        before = passing;
      }
    where
      passing : (j : ℕ) → j < suc h.k → get_or w (f (i + j)) [] ≡ []
      passing zero l = at_zero i ∙ q
      passing (suc j) l = sym (on i j) ∙ h.before j (omega arith)

  -- what the turn that is given says
  pub found : (i n x : ℕ) (r : Read) → first_of w (run f i n) ≡ turn x r → Found w f i n x r
  unfolding first_of run
  found i zero x r e = let z : ◌≡◌ {A = ℕ} 0 1 = cc in absurd (omega arith)
  found i (suc n) x r e = at (get_or w (f i) []) refl e (found (suc i) n x r)
    where
      at : (l : List Read) → get_or w (f i) [] ≡ l → turn_or (f i) l (first_of w (run f (suc i) n)) ≡ turn x r
          → (first_of w (run f (suc i) n) ≡ turn x r → Found w f (suc i) n x r) → Found w f i (suc n) x r
      at [] q v go = later i n x r q (go v)
      at (a ∷ rest) q v go =
          let xi : f i ≡ x = cc in
          let ar : a ≡ r = cc in
          record {
            k = 0;
            below = omega arith;
            here = sym xi ∙ ap f (sym (add-zero i));
            rest = rest;
            waits = ap (λ (y : ℕ). get_or w y []) (sym xi) ∙ q ∙ ap (λ (y : Read). y ∷ rest) ar;
            before = λ j l. absurd (not-suc-le-zero l);
          }

  -- nobody's turn: nobody waits, and the other way round
  pub silent : (i n : ℕ) → first_of w (run f i n) ≡ nobody → (j : ℕ) → j < n → get_or w (f (i + j)) [] ≡ []
  unfolding first_of run
  silent i zero e j l = absurd (not-suc-le-zero l)
  silent i (suc n) e j l = at (get_or w (f i) []) refl e j l (silent (suc i) n)
    where
      at : (m : List Read) → get_or w (f i) [] ≡ m → turn_or (f i) m (first_of w (run f (suc i) n)) ≡ nobody → (j : ℕ) → j < suc n
          → (first_of w (run f (suc i) n) ≡ nobody → (j : ℕ) → j < n → get_or w (f (suc i + j)) [] ≡ []) → get_or w (f (i + j)) [] ≡ []
      at [] q v zero l go = at_zero i ∙ q
      at [] q v (suc j) l go = sym (on i j) ∙ go v j (omega arith)
      at (a ∷ rest) q v j l go = let z : ◌≡◌ {A = ℕ} 0 1 = cc in absurd (omega arith)

  pub all_silent : (i n : ℕ) → ((j : ℕ) → j < n → get_or w (f (i + j)) [] ≡ []) → first_of w (run f i n) ≡ nobody
  all_silent i zero h = ended i
  all_silent i (suc n) h =
      passed i n (sym (at_zero i) ∙ h 0 (omega arith)) ∙ all_silent (suc i) n (λ j l. on i j ∙ h (suc j) (omega arith))
