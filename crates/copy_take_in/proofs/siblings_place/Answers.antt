-- `copy_take_in::siblings_place` meets its contract. Assumes nothing.
use mathlib.Core.Path.{ap}
use Prim.Native.Nat.{ℕ, ◌+◌}
use native.Mathlib.Omega.{arith}
use Rattle.byte_strings.proofs.Numbers.{four_lt}
use Rattle.packet.specs.Check.{chunk_length, siblings_place}
use Rattle.copy_take_in.proofs.siblings_place.Goals as goal

pub overflow_add-result : goal.overflow_add-result
overflow_add-result c = omega (arith, c.read_be32.ensures, four_lt c.args.packet.now 0 (λ j. (c.type_inv.packet j).fits) c.requires)

pub overflow_add-result-2 : goal.overflow_add-result-2
overflow_add-result-2 c = omega (arith, c.read_be32.ensures, four_lt c.args.packet.now 0 (λ j. (c.type_inv.packet j).fits) c.requires)

pub returns : goal.returns
unfolding siblings_place chunk_length
returns c = ap (λ (l : ℕ). 4 + l + 1) c.read_be32.ensures
