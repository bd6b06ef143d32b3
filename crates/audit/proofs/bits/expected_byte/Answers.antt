-- `audit::bits::expected_byte` meets its contract.  Assumes nothing.
use Rattle.audit.proofs.Bytes.{with_data, with_tree, with_index}
use mathlib.Core.Path.{◌∙◌, ap}
use Rattle.bitfield.specs.Bits.{byte_of}
use Rattle.audit.specs.Audit.{held_bits}
use Rattle.audit.specs.BitfieldEntries.{tree_bits}
use Rattle.audit.proofs.bits.expected_byte.Goals as goal

pub returns-then-j-lt1024 : goal.returns-then-j-lt1024
returns-then-j-lt1024 c =
    let a = c.args in
    c.data_byte.ensures ∙ ap (byte_of (held_bits a.xs.now a.n)) c.first_chunk.ensures ∙ with_data (held_bits a.xs.now a.n)
    (tree_bits a.partly a.xs.now a.n) a.e a.index.now a.j c.if-j-lt1024.true

pub returns-then-j-lt3072 : goal.returns-then-j-lt3072
returns-then-j-lt3072 c =
    let a = c.args in
    c.tree_byte.ensures ∙ ap (byte_of (tree_bits a.partly a.xs.now a.n)) c.first_index.ensures ∙ with_tree
    (held_bits a.xs.now a.n) (tree_bits a.partly a.xs.now a.n) a.e a.index.now a.j c.if-j-lt1024.false c.if-j-lt3072.true

pub returns : goal.returns
returns c =
    let a = c.args in
    with_index (held_bits a.xs.now a.n) (tree_bits a.partly a.xs.now a.n) a.e a.index.now a.j c.if-j-lt3072.false
