-- The public call by the lengths that it is given.
-- Assumes nothing.
use Rattle.std.specs.Prelude.{Ok, Result}
use mathlib.Core.Path.{◌≡◌, sym, ap, ap₂, ◌∙◌}
use mathlib.Core.Bool.{Bool, true, false}
use mathlib.Core.List.{List, ◌++◌}
use Prim.Native.Nat.{ℕ, ◌-◌, ◌≤◌, ◌<◌}
use native.Mathlib.Omega.{arith}
use lib.Dec.{leb}
use lib.ListN.{length, replicate}
use borrow.Author.Tests.{le-leb, lt-leb}
use Rattle.answer_types.specs.Verdict.{Verdict, none, done, refused, unless_refused}
use Rattle.blake2b.specs.Hash.{input, final, bytes, blake2b}
use Rattle.blake2b.specs.Digest.{length_right, key_right, verdict_if, verdict, digest}
use Rattle.blake2b.specs.Post.{Refused, HashedAs}
use Rattle.answer_types.specs.declared.Refusal.{Refusal}
use Rattle.blake2b.proofs.Output.{over}

-- what is left of `length_right` after its first test
abbrev up_to : Bool → ℕ → Bool
up_to b nn = elim b [ true ↦ leb nn 64 | false ↦ false ]

low : (nn : ℕ) → nn < 1 → length_right nn ≡ false
low nn h = ap (λ (b : Bool). up_to b nn) (lt-leb 1 nn h)

high : (nn : ℕ) → 64 < nn → length_right nn ≡ false
high nn h = ap (λ (b : Bool). up_to b nn) (le-leb 1 nn (omega arith)) ∙ lt-leb nn 64 h

right : (nn : ℕ) → 1 ≤ nn → nn ≤ 64 → length_right nn ≡ true
right nn h k = ap (λ (b : Bool). up_to b nn) (le-leb 1 nn h) ∙ le-leb nn 64 k

-- the verdict by the tests that led to it
pub too_short : (nn kk : ℕ) → nn < 1 → verdict nn kk ≡ refused 1 none
unfolding verdict
too_short nn kk h = ap (λ (b : Bool). verdict_if b (key_right kk)) (low nn h)

pub too_long : (nn kk : ℕ) → 64 < nn → verdict nn kk ≡ refused 1 none
unfolding verdict
too_long nn kk h = ap (λ (b : Bool). verdict_if b (key_right kk)) (high nn h)

pub key_too_long : (nn kk : ℕ) → 1 ≤ nn → nn ≤ 64 → 64 < kk → verdict nn kk ≡ refused 17 none
unfolding verdict
key_too_long nn kk h k l = ap₂ verdict_if (right nn h k) (lt-leb kk 64 l)

pub all_right : (nn kk : ℕ) → 1 ≤ nn → nn ≤ 64 → kk ≤ 64 → verdict nn kk ≡ done
unfolding verdict
all_right nn kk h k l = ap₂ verdict_if (right nn h k) (le-leb kk 64 l)

pub as_refused : (nn : ℕ) (key d : List ℕ) (m : ℕ) (r : Result (List ℕ) Refusal) → verdict nn (length key) ≡ refused m none → Refused m r → HashedAs nn key d r
unfolding digest
as_refused nn key d m r e f =
    record {
      answers = f.answers ∙ sym e;
      hashes = f.zeros ∙ ap (λ (v : Verdict). unless_refused v (blake2b nn key d ++ replicate (64 - nn) 0) (replicate 64 0)) (sym e);
    }

-- the first bytes of the last state over zeros are the hash and then zeros
hash_from : (nn : ℕ) (key d s t b : List ℕ) → s ≡ final nn (length key) (input key d) → t ≡ bytes s → b ≡ over 64 t nn
    → b ≡ blake2b nn key d ++ replicate (64 - nn) 0
unfolding blake2b
hash_from nn key d s t b e f g = g ∙ ap (λ (x : List ℕ). over 64 x nn) (f ∙ ap bytes e)

pub as_done : (nn : ℕ) (key d s t b : List ℕ) → verdict nn (length key) ≡ done → s ≡ final nn (length key) (input key d) → t ≡ bytes s
    → b ≡ over 64 t nn → HashedAs nn key d (Ok b)
unfolding digest
as_done nn key d s t b e f g h =
    record {
      answers = sym e;
      hashes =
          hash_from nn key d s t b f g h
          ∙ ap (λ (v : Verdict). unless_refused v (blake2b nn key d ++ replicate (64 - nn) 0) (replicate 64 0)) (sym e);
    }
