use mathlib.Core.Path.{subst, sym, ap, refl, ◌∙◌}
use Rattle.file_format.specs.Stored.{stored_size}
use Rattle.file_format.specs.Inner.{EntryIn}
use Rattle.file_format.specs.RootsByValue.{sizes_at}
use Rattle.file_format.proofs.ByValue.{filling_none, filling_next, filling_all, number_at}
use Rattle.file_format.proofs.roots.sizes_at.Goals as goal

pub loop-j-init : goal.loop-j-init
loop-j-init c = filling_none _ _ _ c.requires.few

pub stored_size-requires : goal.stored_size-requires
stored_size-requires c =
    let j = c.loop-j.j in
    subst (EntryIn c.args.tree.now) (number_at c.args.indexes j) (c.requires.each j c.loop-j-test.true)

pub loop-j-preserved : goal.loop-j-preserved
loop-j-preserved c =
    let a = c.args in
    let l = c.loop-j in
    filling_next _ _ _ l.j l.sizes l.invariant _ c.stored_size.result c.loop-j-test.true
    (c.stored_size.ensures ∙ ap (stored_size a.tree.now) (sym (number_at a.indexes l.j))) refl

pub returns : goal.returns
unfolding sizes_at
returns c = filling_all _ _ _ _ _ c.loop-j.invariant c.loop-j-test.false
