-- `packet::checking::check` meets its contract. Assumes nothing.
use native.Mathlib.Omega.{arith}
use Rattle.answer_types.specs.Meaning.{refusal_of}
use Rattle.byte_strings.specs.Lists.{part}
use Rattle.blake2b.specs.Hash.{node_hash}
use Rattle.packet.specs.Check.{chunk_length}
use Rattle.packet.proofs.Right.{passed_shape, checked_by, checked_part}
use Rattle.packet.proofs.checking.check.Goals as goal

pub read_be32-requires : goal.read_be32-requires
read_be32-requires c = (passed_shape node_hash _ _ _ _ c.in-Ok.ensures).front

pub overflow_add-end : goal.overflow_add-end
unfolding chunk_length
overflow_add-end c = omega (arith, (passed_shape node_hash _ _ _ _ c.in-Ok.ensures).chunk, c.read_be32.ensures)

pub slice_bounds-result-end-in-Ok : goal.slice_bounds-result-end-in-Ok
unfolding chunk_length
slice_bounds-result-end-in-Ok c = omega (arith, (passed_shape node_hash _ _ _ _ c.in-Ok.ensures).whole, c.read_be32.ensures)

pub returns-in-Err : goal.returns-in-Err
returns-in-Err c = checked_by node_hash _ _ _ _ (refusal_of c.in-Err.field-0) c.in-Err.ensures

pub returns-in-Ok : goal.returns-in-Ok
unfolding chunk_length part
returns-in-Ok c = checked_part node_hash _ _ _ _ c.read_be32.result c.read_be32.ensures c.in-Ok.ensures
