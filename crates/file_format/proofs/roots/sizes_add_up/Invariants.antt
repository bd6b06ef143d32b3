-- `file_format::roots::sizes_add_up` meets its contract. The lengths that were passed and what is left make up the size. Assumes nothing.
use lib.ListN.{take}
use Prim.Native.Nat.{◌+◌}
use mathlib.Core.Path.{◌≡◌}
use Rattle.byte_strings.specs.Lists.{total}
use Rattle.file_format.proofs.roots.sizes_add_up.Given as goal

abbrev pub invariant-loop-here : goal.invariant-loop-here
invariant-loop-here l = total (take l.here-index l.here-items) + l.left ≡ l.fn.size
