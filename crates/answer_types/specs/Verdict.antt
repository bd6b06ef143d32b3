-- What a call says, in the terms of the scope's section "Numbers of a refused call", free of any declared type.
use Rattle.std.specs.Prelude.{ℕ}

-- "a place, which is none, a tree index (10) or a byte offset in the bitfield file (11)"; of the later numbers 15, 18, 19 and 20 have a tree index
pub data Spot : Type 0 where
  none : Spot
  tree : ℕ → Spot
  bitfield : ℕ → Spot

-- "A refusal carries its number and a place"; done says that the call was not refused
pub data Verdict : Type 0 where
  done : Verdict
  refused : ℕ → Spot → Verdict

-- what is left of what held `before`, where the call writes `after`: "After a refusal each lent buffer holds what it held"
abbrev pub unless_refused : {A : Type 0} → Verdict → A → A → A
unless_refused done after before = after
unless_refused (refused m at) after before = before

-- what comes next where a verdict is done
abbrev pub and_then : Verdict → Verdict → Verdict
and_then done next = next
and_then (refused m at) next = refused m at
