-- `copy_make::write_blank` meets its contract: the zeros go right behind the header. Assumes nothing.
use borrow.Author.Rules.{rules}
use Rattle.copy_make.proofs.Calls.{blank}
use Rattle.copy_make.proofs.write_blank.Goals as goal

pub returns : goal.returns
returns c =
    blank c.args.xs.now _ _
    c.args.header.now
    c.args.count (search rules)
    c.copy_to.ensures c.clear.ensures
