-- `append_list::judging::adds_up` meets its contract: the lengths so far and what is left make up the whole. Assumes nothing.
use Prim.Native.Nat.{◌+◌}
use mathlib.Core.Path.{◌≡◌}
use lib.ListN.{take}
use Rattle.byte_strings.specs.Lists.{total}
use Rattle.append_list.proofs.judging.adds_up.Given as goal

abbrev pub invariant-loop-here : goal.invariant-loop-here
invariant-loop-here l = total (take l.here-index l.lengths) + l.left ≡ l.whole
