-- `audit::bits::tree_byte` meets its contract. Assumes nothing.
use native.Mathlib.Nat.{add-zero}
use mathlib.Core.Path.{◌∙◌, ap}
use Rattle.bitfield.specs.Bits.{byte_of}
use Rattle.audit.specs.BitfieldEntries.{eight, tree_bits}
use Rattle.audit.proofs.bits.tree_byte.Goals as goal

pub returns : goal.returns
unfolding byte_of
returns c =
    let a = c.args in
    c.byte_of.ensures
    ∙ (λ j. eight ((c.tree_behind.ensures ∙ ap (tree_bits a.partly a.xs.now a.n) (add-zero a.i.0)) j) (c.tree_behind-2.ensures j)
    (c.tree_behind-3.ensures j) (c.tree_behind-4.ensures j) (c.tree_behind-5.ensures j) (c.tree_behind-6.ensures j)
    (c.tree_behind-7.ensures j) (c.tree_behind-8.ensures j))
