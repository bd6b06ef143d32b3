-- What follows from demand 3 as it is stated, with no look at its proof.
-- Assumes nothing: each corollary takes the demand.
use mathlib.Core.Path.{◌≡◌, refl, sym, ◌∙◌}
use mathlib.Core.Logic.{◌↔◌, inl, inr}
use mathlib.Core.List.{List}
use Prim.Native.Nat.{ℕ}
use Rattle.file_format.specs.Images.{root_message_for, message_for}
use Rattle.file_format.specs.Slots.{all_held, Within}
use Rattle.file_format.specs.Belongs.{Register, Belongs}
use Rattle.audit.specs.Audit.{Accepted}
use Rattle.compare.specs.Walk.{equal, compare}
use Rattle.theorem_comparison.specs.Demand3.{Collision, NamesCollision, Tells, Demand3}

-- an accepted register that belongs to a chunk sequence
pub record Holds (F : List ℕ → List ℕ) (r : Register) (cs : List (List ℕ)) : Type 0 where
  pub within : Within (all_held cs)
  pub accepted : Accepted F r
  pub belongs : Belongs F r (all_held cs)

module _ (F : List ℕ → List ℕ) (demand : Demand3 F) where
  -- the claim of two such registers
  tells : {a b : Register} {cs ds : List (List ℕ)} → Holds F a cs → Holds F b ds → Tells F a b cs ds
  tells {a} {b} {cs} {ds} p q = demand.tells cs ds p.within q.within a b p.accepted q.accepted p.belongs q.belongs

  -- "equal" is said of the registers of one sequence, and of no others
  pub equal_exactly_lem : {a b : Register} {cs ds : List (List ℕ)} → Holds F a cs → Holds F b ds → (compare F a b ≡ equal) ↔ (cs ≡ ds)
  equal_exactly_lem p q = (tells p q).equal_exactly

  -- a collision that is named is one: two different messages with one hash
  pub named_collides : {a b : Register} {cs ds : List (List ℕ)} → Holds F a cs → Holds F b ds → NamesCollision (compare F a b)
      → (m₁ : List ℕ) × (m₂ : List ℕ) × Collision F m₁ m₂
  named_collides {a} {b} {cs} {ds} p q = go
    where
      go : NamesCollision (compare F a b) → (m₁ : List ℕ) × (m₂ : List ℕ) × Collision F m₁ m₂
      go (inl e) = (root_message_for F (all_held cs), root_message_for F (all_held ds), (tells p q).at_roots_exactly.0 e)
      go (inr e) = (message_for F (all_held cs) e.0, message_for F (all_held ds) e.0, (((tells p q).at_index_exactly e.0).0 e.1).1.collision)

  -- a register is equal to itself, and to every other of its sequence
  pub equal_own : {a b : Register} {cs : List (List ℕ)} → Holds F a cs → Holds F b cs → compare F a b ≡ equal
  equal_own p q = (equal_exactly_lem p q).1 refl

  -- the order of the two registers doesn't matter for "equal"
  pub same_answer : {a b : Register} {cs ds : List (List ℕ)} → Holds F a cs → Holds F b ds → (compare F a b ≡ equal) ↔ (compare F b a ≡ equal)
  same_answer p q =
      ((λ e. (equal_exactly_lem q p).1 (sym ((equal_exactly_lem p q).0 e))), (λ e. (equal_exactly_lem p q).1 (sym ((equal_exactly_lem q p).0 e))))

  -- and registers equal to one register are equal
  pub equal_chain : {a b c : Register} {cs ds es : List (List ℕ)} → Holds F a cs → Holds F b ds → Holds F c es → compare F a b ≡ equal
      → compare F b c ≡ equal → compare F a c ≡ equal
  equal_chain p q r e g = (equal_exactly_lem p r).1 ((equal_exactly_lem p q).0 e ∙ (equal_exactly_lem q r).0 g)
