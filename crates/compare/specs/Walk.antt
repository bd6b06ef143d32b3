-- The comparing walk on two registers.
use Rattle.std.specs.Prelude.{ℕ, Bool, cond, not, ◌&&◌, List}
use Rattle.answer_types.specs.Verdict.{Spot, Verdict, tree, done, refused}
use Rattle.byte_strings.specs.Lists.{same_list}
use Rattle.tree_index.specs.Tree.{index, filled, entries}
use Rattle.bitfield.specs.Release.{stored_held}
use Rattle.file_format.specs.Stored.{stored_hash, stored_message, stored_root_message}
use Rattle.file_format.specs.Belongs.{Register}
use Rattle.checks.specs.Checks.{judged, register_checks}
use Rattle.audit.specs.Audit.{Lowest, nowhere, first, lowest, refused_at, images_verdict}

-- what the walk answers: a refusal that says which register, or "equal", "roots differ", or a collision "at the roots" or at a tree index
pub data Comparison : Type 0 where
  first_refused : ℕ → Spot → Comparison
  second_refused : ℕ → Spot → Comparison
  roots_differ : Comparison
  at_roots : Comparison
  at_index : ℕ → Comparison
  equal : Comparison

-- "unequal messages and equal hashes": a collision
abbrev pub collides : List ℕ → List ℕ → List ℕ → List ℕ → Bool
collides m₁ m₂ h₁ h₂ = not (same_list m₁ m₂) && same_list h₁ h₂

-- "at the lowest filled tree index with unequal messages and equal hashes; or "equal""
abbrev pub found : Lowest → Comparison
found nowhere = equal
found (first i) = at_index i

-- what the walk looks at of one register: the root message, and the message and the hash at each tree index
pub record Side : Type 0 where
  pub top : List ℕ
  pub message : ℕ → List ℕ
  pub hash : ℕ → List ℕ

-- of a register of n chunks what its tree file and its data say
abbrev pub stored_side : List ℕ → List ℕ → ℕ → Side
stored_side t content n = record { top = stored_root_message t n; message = stored_message t content; hash = stored_hash t }

-- a comparison, and what comes next where it is "equal"
abbrev pub unless_told : Comparison → Comparison → Comparison
unless_told equal next = next
unless_told (first_refused m at) next = first_refused m at
unless_told (second_refused m at) next = second_refused m at
unless_told roots_differ next = roots_differ
unless_told at_roots next = at_roots
unless_told (at_index i) next = at_index i

module _ (F : List ℕ → List ℕ) where
  -- "roots differ" if the root hashes do; or the collision, as "at the roots" if the root messages differ, else what comes next
  abbrev pub at_top : List ℕ → List ℕ → Comparison → Comparison
  at_top m₁ m₂ next = cond (same_list (F m₁) (F m₂)) (cond (same_list m₁ m₂) next at_roots) roots_differ

  -- the walk over two sides of n chunks: the roots, then the lowest of the filled tree indexes
  unfoldable pub walk : Side → Side → ℕ → Comparison
  walk a b n =
      at_top a.top b.top
      (found (lowest (λ i. not (filled n i && collides (a.message i) (b.message i) (a.hash i) (b.hash i))) 0 (entries n)))

-- a refusal of the first register, then of the second, then what comes next
abbrev pub unless_refused : Verdict → Verdict → Comparison → Comparison
unless_refused (refused m at) v next = first_refused m at
unless_refused done (refused m at) next = second_refused m at
unless_refused done done next = next

-- the lowest chunk that is not held
unfoldable pub missing : Register → Lowest
missing r = lowest (stored_held r.bitfield) 0 r.n

-- 2 to 6; "It refuses with 18 .. a comparison that needs a chunk not held; the place is its leaf's tree index, the lowest for a comparison"; then what
-- comes next
abbrev pub held_then : Register → Verdict → Verdict
held_then r next = judged (register_checks r) (refused_at 18 (λ k. tree (index 0 k)) (missing r) next)

module _ (F : List ℕ → List ℕ) where
  -- the checks of one register: these, then 10 and 11 as the audit has them
  unfoldable pub whole_verdict : Register → Verdict
  whole_verdict r = held_then r (images_verdict F r)

  -- "The comparing walk audits the first register, then the second, and a refusal says which", "which goes through all checks of the first register
  -- before the second's". Then the walk, over what the two store
  unfoldable pub compare : Register → Register → Comparison
  compare a b =
      unless_refused (whole_verdict a) (whole_verdict b)
      (walk F (stored_side a.tree a.content a.n) (stored_side b.tree b.content b.n) a.n)
