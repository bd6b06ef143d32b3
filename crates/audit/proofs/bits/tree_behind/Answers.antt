-- `audit::bits::tree_behind` meets its contract. Assumes nothing.
use Prim.Native.Nat.{◌+◌}
use mathlib.Core.Path.{sym, ◌∙◌}
use Rattle.audit.proofs.Bytes.{tree_bit, bits_hole, bits_whole, bits_partly}
use Rattle.audit.proofs.bits.tree_behind.Goals as goal

pub returns-then-not-is_filled : goal.returns-then-not-is_filled
returns-then-not-is_filled c =
    let a = c.args in
    bits_hole a.partly a.xs.now a.n (a.i.0 + a.k) (sym c.is_filled.ensures ∙ c.if-not-is_filled.true)

pub returns-then-not-partly : goal.returns-then-not-partly
returns-then-not-partly c =
    let a = c.args in
    bits_whole a.partly a.xs.now a.n (a.i.0 + a.k) (sym c.is_filled.ensures ∙ c.if-not-is_filled.false) (c.if-not-partly.true)

pub is_known-requires : goal.is_known-requires
is_known-requires c =
    let a = c.args in
    tree_bit a.xs.now a.n (a.i.0 + a.k) c.requires.1 (sym c.is_filled.ensures ∙ c.if-not-is_filled.false)

pub returns : goal.returns
returns c =
    let a = c.args in
    bits_partly a.partly a.xs.now a.n (a.i.0 + a.k) (sym c.is_filled.ensures ∙ c.if-not-is_filled.false)
    (c.if-not-partly.false) c.is_known.result c.is_known.ensures
