-- The parts of the comparing walk that look at both registers. Each makes the checks 2 to 6 of the first register, then of the second, and a refusal says
-- which. The checks 2 to 6 and 18 of one register are `held_then` (compare, Walk).
use Rattle.std.specs.Prelude.{ℕ, cond, not, List, eqb, take}
use Rattle.answer_types.specs.Verdict.{done}
use Rattle.tree_index.specs.Tree.{entries}
use Rattle.file_format.specs.Stored.{stored_root_message}
use Rattle.file_format.specs.Belongs.{Register}
use Rattle.checks.specs.Checks.{judged, register_checks}
use Rattle.audit.specs.Audit.{lowest}
use Rattle.compare.specs.Walk.{Comparison, equal, found, at_top, unless_refused}
use Rattle.compare.specs.Inner.{collides_at}
use Rattle.parts_audit.specs.Range.{within}

-- both registers pass the checks 2 to 6, else a refusal says which does not
abbrev pub both_checked : Register → Register → Comparison → Comparison
both_checked a b = unless_refused (judged (register_checks a) done) (judged (register_checks b) done)

-- "roots differ", or a collision "at the roots", or "equal" where neither is so
unfoldable pub roots_part : (List ℕ → List ℕ) → Register → Register → Comparison
roots_part F a b =
    both_checked a b
    (at_top F (stored_root_message a.tree a.n) (stored_root_message b.tree b.n) equal)

-- the entries that two registers have in common: registers with different numbers of chunks have different root messages, and are not walked
abbrev pub walked_entries : Register → Register → ℕ
walked_entries a b = cond (eqb a.n b.n) (entries a.n) 0

-- the data of a register: no byte behind its data size is looked at
abbrev pub data_of : Register → List ℕ
data_of r = take r.size r.content

-- the lowest collision from the tree index i on and before j, or "equal" where there is none
unfoldable pub walk_part : Register → Register → ℕ → ℕ → Comparison
walk_part a b i j =
    both_checked a b
    (found
    (lowest (λ k. not (collides_at a.tree (data_of a) b.tree (data_of b) a.n k)) i (within (walked_entries a b) i j)))
