-- `packet_compare::chunk_part` meets its contract. Assumes nothing.
use Prim.Native.Nat.{◌+◌, ◌-◌}
use mathlib.Core.Path.{◌≡◌, ap, ◌∙◌}
use native.Mathlib.Omega.{arith}
use Rattle.byte_strings.specs.Lists.{part}
use Rattle.packet.specs.Check.{chunk_length, packet_chunk}
use Rattle.packet_compare.proofs.chunk_part.Goals as goal

pub overflow_add-end : goal.overflow_add-end
unfolding chunk_length
overflow_add-end c = omega (arith, c.requires.chunk, c.read_be32.ensures)

pub slice_bounds-result-end : goal.slice_bounds-result-end
unfolding chunk_length
slice_bounds-result-end c = omega (arith, c.requires.inside, c.read_be32.ensures)

pub returns : goal.returns
unfolding chunk_length packet_chunk part
returns c =
    let l = c.read_be32.result in
    let q : 4 + l - 4 ≡ l = omega arith in
    ap (part c.args.lent.now 4) (q ∙ c.read_be32.ensures)
