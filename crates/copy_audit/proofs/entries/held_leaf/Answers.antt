-- `copy_audit::entries::held_leaf` meets its contract. Assumes nothing.
use Rattle.copy_audit.proofs.Judged.{chunk_bit, leaf_chunk, held_even, held_odd}
use Rattle.copy_audit.proofs.entries.held_leaf.Goals as goal

pub is_held-requires : goal.is_held-requires
is_held-requires c =
    chunk_bit c.chunk_of_leaf.result.0 c.requires.field
    (leaf_chunk c.args.n c.args.i.0 c.requires.entry c.if-i-eq0.true c.chunk_of_leaf.ensures)

pub returns-then-i-eq0 : goal.returns-then-i-eq0
returns-then-i-eq0 c = held_even c.args.bitfield.now c.args.i.0 c.if-i-eq0.true c.chunk_of_leaf.ensures c.is_held.ensures

pub returns : goal.returns
returns c = held_odd c.args.bitfield.now c.args.i.0 c.if-i-eq0.false
