-- `copy_take_in::total_right` meets its contract. Assumes nothing.
use Prim.Native.Nat.{ℕ, ◌+◌}
use mathlib.Core.Path.{ap}
use native.Mathlib.Omega.{arith}
use lib.Dec.{eqb}
use Rattle.packet.specs.Check.{chunk_length, siblings_place}
use Rattle.copy_take_in.proofs.Places.{placed, front, second_is, beside_in, roots_in}
use Rattle.copy_take_in.proofs.Totals.{total_summed}
use Rattle.copy_take_in.proofs.total_right.Goals as goal

pub read_be32-length-requires : goal.read_be32-length-requires
read_be32-length-requires c = front c.requires.shaped

pub overflow_add-first : goal.overflow_add-first
unfolding chunk_length
overflow_add-first c = omega (arith, c.read_be32-length.ensures, placed _ _ _ c.requires.shaped)

pub overflow_add-first-2 : goal.overflow_add-first-2
unfolding chunk_length
overflow_add-first-2 c = omega (arith, c.read_be32-length.ensures, placed _ _ _ c.requires.shaped)

pub overflow_add-second : goal.overflow_add-second
unfolding chunk_length
overflow_add-second c = omega (arith, c.read_be32-length.ensures, placed _ _ _ c.requires.shaped, c.sibling_count-up.ensures.few)

pub overflow_add-second-2 : goal.overflow_add-second-2
unfolding chunk_length
overflow_add-second-2 c = omega (arith, c.read_be32-length.ensures, placed _ _ _ c.requires.shaped, c.sibling_count-up.ensures.few)

pub add_lengths-sum-requires : goal.add_lengths-sum-requires
unfolding siblings_place chunk_length
add_lengths-sum-requires c = (
  beside_in c.requires.shaped (ap (λ (l : ℕ). 4 + l + 1) c.read_be32-length.ensures) c.sibling_count-up.ensures.same,
  omega (arith, c.read_be32-length.ensures, placed _ _ _ c.requires.shaped),
)

pub add_lengths-whole-requires : goal.add_lengths-whole-requires
unfolding siblings_place chunk_length
add_lengths-whole-requires c = (
  roots_in c.requires.shaped (ap (λ (l : ℕ). 4 + l + 1) c.read_be32-length.ensures) c.sibling_count-up.ensures.same c.other_count-others.ensures.same,
  c.add_lengths-sum.ensures.small,
)

pub returns : goal.returns
unfolding siblings_place chunk_length
returns c =
    let first = ap (λ (l : ℕ). 4 + l + 1) c.read_be32-length.ensures in
    ap (λ (x : ℕ). eqb x c.args.size)
    (total_summed c.args.packet.now c.args.n c.args.chunk.0 c.read_be32-length.result _ _ c.sibling_count-up.result
    c.other_count-others.result c.add_lengths-sum.result c.add_lengths-whole.result
    c.read_be32-length.ensures first (second_is c.requires.shaped first c.sibling_count-up.ensures.same) c.sibling_count-up.ensures.same
    c.other_count-others.ensures.same c.requires.small c.add_lengths-sum.ensures c.add_lengths-whole.ensures)
