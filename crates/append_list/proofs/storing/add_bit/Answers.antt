-- `append_list::storing::add_bit` meets its contract: the cases of the definition. Assumes nothing.
use Rattle.append_list.proofs.Once.{last_listed, last_held, not_last}
use Rattle.append_list.proofs.storing.add_bit.Goals as goal

pub returns-then-last : goal.returns-then-last
returns-then-last c =
    let a = c.args in
    last_listed a.bitfield.now _ a.n _ a.last c.chunk_behind-c.ensures c.set_bits.ensures _
    c.make_index.ensures c.if-last.true

pub returns-then-n-eq0 : goal.returns-then-n-eq0
returns-then-n-eq0 c =
    let a = c.args in
    last_held a.bitfield.now _ a.n _ a.last c.chunk_behind-c.ensures c.set_bits.ensures _
    c.make_index-then-n-eq0.ensures c.if-n-eq0.true

pub returns-else-n-eq0 : goal.returns-else-n-eq0
returns-else-n-eq0 c =
    let a = c.args in
    not_last a.bitfield.now _ a.n _ a.last c.chunk_behind-c.ensures c.set_bits.ensures c.if-last.false c.if-n-eq0.false
