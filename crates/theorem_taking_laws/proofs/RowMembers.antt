-- Members of the rows of entries that a packet brings, by their places. Assumes nothing.
use Prim.Native.Nat.{ℕ, zero, suc, ◌<◌}
use mathlib.Core.Path.{◌≡◌, refl, sym, ap}
use mathlib.Core.Logic.{inl, inr}
use mathlib.Core.List.{List, [], ◌∷◌, map}
use native.Mathlib.Nat.{not-suc-le-zero, le_of_suc-le-suc}
use native.Mathlib.Omega.{arith}
use lib.ListN.{length, get_or}
use Rattle.file_format.specs.Entries.{Entry, hole}
use Rattle.packet.specs.Check.{Step}
use Rattle.packet_compare.specs.Theorems.{step_at}
use Rattle.copy_take_in.specs.TakeIn.{Given, given_at, led_to}
use Rattle.byte_strings.proofs.Members.{In}

pub in_given : (is : List ℕ) (es : List Entry) (j : ℕ) → length es ≡ length is → j < length is
    → In (record { at = get_or is j 0; entry = get_or es j hole }) (given_at is es)
unfolding In given_at
in_given [] es j e h = absurd (not-suc-le-zero h)
in_given (i ∷ is) [] j e h = absurd (omega arith)
in_given (i ∷ is) (x ∷ es) zero e h = inl refl
in_given (i ∷ is) (x ∷ es) (suc j) e h = inr (in_given is es j (omega arith) (le_of_suc-le-suc h))

pub given_in : (g : Given) (is : List ℕ) (es : List Entry) → In g (given_at is es)
    → (j : ℕ) × (j < length is) × (g.at ≡ get_or is j 0) × (g.entry ≡ get_or es j hole)
unfolding In given_at
given_in g [] es h = absurd h
given_in g (i ∷ is) [] h = absurd h
given_in g (i ∷ is) (x ∷ es) (inl e) = (0, omega arith, ap (λ (y : Given). y.at) (sym e), ap (λ (y : Given). y.entry) (sym e))
given_in g (i ∷ is) (x ∷ es) (inr h) = let q = given_in g is es h in (suc q.0, omega (arith, q.1), q.2, q.3)

pub given_indexes : (is : List ℕ) (es : List Entry) → length es ≡ length is → map (λ (g : Given). g.at) (given_at is es) ≡ is
unfolding given_at
given_indexes [] es e = refl
given_indexes (i ∷ is) [] e = absurd (omega arith)
given_indexes (i ∷ is) (x ∷ es) e = ap (λ (l : List ℕ). i ∷ l) (given_indexes is es (omega arith))

pub in_led : (ss : List Step) (j : ℕ) → j < length ss → In (led_to (step_at ss j)) (map led_to ss)
unfolding In
in_led [] j h = absurd (not-suc-le-zero h)
in_led (s ∷ ss) zero h = inl refl
in_led (s ∷ ss) (suc j) h = inr (in_led ss j (le_of_suc-le-suc h))

pub led_in : (g : Given) (ss : List Step) → In g (map led_to ss) → (j : ℕ) × (j < length ss) × (g ≡ led_to (step_at ss j))
unfolding In
led_in g [] h = absurd h
led_in g (s ∷ ss) (inl e) = (0, omega arith, sym e)
led_in g (s ∷ ss) (inr h) = let q = led_in g ss h in (suc q.0, omega (arith, q.1), q.2)

pub led_indexes : (ss : List Step) (j : ℕ) → j < length ss → get_or (map (λ (g : Given). g.at) (map led_to ss)) j 0 ≡ (step_at ss j).at
led_indexes [] j h = absurd (not-suc-le-zero h)
led_indexes (s ∷ ss) zero h = refl
led_indexes (s ∷ ss) (suc j) h = led_indexes ss j (le_of_suc-le-suc h)

pub led_many : (ss : List Step) → length (map (λ (g : Given). g.at) (map led_to ss)) ≡ length ss
led_many [] = refl
led_many (s ∷ ss) = ap suc (led_many ss)
