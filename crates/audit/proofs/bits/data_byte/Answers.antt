-- `audit::bits::data_byte` meets its contract. Assumes nothing.
use native.Mathlib.Nat.{add-zero}
use mathlib.Core.Path.{◌∙◌, ap}
use Rattle.bitfield.specs.Bits.{byte_of}
use Rattle.audit.specs.Audit.{held_bits}
use Rattle.audit.specs.BitfieldEntries.{eight}
use Rattle.audit.proofs.bits.data_byte.Goals as goal

pub returns : goal.returns
unfolding byte_of
returns c =
    let a = c.args in
    c.byte_of.ensures
    ∙ (λ j. eight ((c.held_behind.ensures ∙ ap (held_bits a.xs.now a.n) (add-zero a.c.0)) j) (c.held_behind-2.ensures j)
    (c.held_behind-3.ensures j) (c.held_behind-4.ensures j) (c.held_behind-5.ensures j) (c.held_behind-6.ensures j)
    (c.held_behind-7.ensures j) (c.held_behind-8.ensures j))
