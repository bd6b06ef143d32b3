-- `audit::tree::start_behind` meets its contract. A leaf moves the start by its length. Assumes nothing.
use Rattle.audit.proofs.Entries.{behind_leaf, behind_parent}
use Rattle.audit.proofs.tree.start_behind.Goals as goal

pub returns-then-i-eq0 : goal.returns-then-i-eq0
returns-then-i-eq0 c = behind_leaf c.args.tree.now c.args.i.0 c.requires.here c.if-i-eq0.true c.stored_size.ensures c.add_capped.ensures

pub returns : goal.returns
returns c = behind_parent c.args.tree.now c.args.i.0 c.requires.here c.if-i-eq0.false
