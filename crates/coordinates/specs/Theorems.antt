-- "Each undoes the other for every length up to 65,536."
--
-- The notions in it: `grouped` and `ungrouped` (Grouping), `verdict` and `after` (Calls), `Bytes` and `put` (byte_strings, Lists).
use Rattle.std.specs.Prelude.{◌≡◌, ℕ, ◌≤◌, List, length, take}
use Rattle.answer_types.specs.Verdict.{done}
use Rattle.byte_strings.specs.Lists.{put, Bytes}
use Rattle.coordinates.specs.Grouping.{grouped, ungrouped}
use Rattle.coordinates.specs.Post.{longest, verdict, after}

-- the call for f, then the call for g on what stands at the front of its buffer: both are done, and the bytes are back
pub record CallsUndo (f g : List ℕ → List ℕ) (d out back : List ℕ) : Type 0 where
  pub first_done : verdict (length d) (length out) ≡ done
  pub then_done : verdict (length (take (length d) (after f d out))) (length back) ≡ done
  pub given_back : after g (take (length d) (after f d out)) back ≡ put back 0 d

-- what f makes of bytes is bytes of the same length, and g makes the bytes of it again; so do the calls, wherever 7 and 14 let them
pub record Undoes (f g : List ℕ → List ℕ) : Type 0 where
  pub long : (d : List ℕ) → length (f d) ≡ length d
  pub bytes : (d : List ℕ) → Bytes d → Bytes (f d)
  pub undone : (d : List ℕ) → Bytes d → g (f d) ≡ d
  pub calls : (d out back : List ℕ) → Bytes d → length d ≤ longest → length d ≤ length out → length d ≤ length back → CallsUndo f g d out back

-- both ways round
pub record EachUndoesTheOther : Type 0 where
  pub grouping : Undoes grouped ungrouped
  pub ungrouping : Undoes ungrouped grouped
