-- `compare::messages::sum_below` meets its contract. Assumes nothing.
use Rattle.std.proofs.Common.{ℕ, ◌+◌, ◌%◌, ◌^◌, ap₂}
use Rattle.audit.proofs.Entries.{entry_as, size_as}
use Rattle.compare.proofs.messages.sum_below.Goals as goal

pub stored_size-first-requires : goal.stored_size-first-requires
stored_size-first-requires c = entry_as c.left_child.ensures c.requires.left

pub stored_size-second-requires : goal.stored_size-second-requires
stored_size-second-requires c = entry_as c.right_child.ensures c.requires.right

pub returns : goal.returns
returns c =
    ap₂ (λ (x y : ℕ). (x + y) % 2 ^ 64) (size_as c.args.tree.now c.left_child.ensures c.stored_size-first.ensures) (size_as c.args.tree.now c.right_child.ensures c.stored_size-second.ensures)
