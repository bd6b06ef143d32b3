-- `file_format::roots::root_message` meets its contract. The message holds the first j items. Assumes nothing.
use Rattle.file_format.proofs.ByValue.{Items}
use Rattle.tree_index.specs.Numbers.{numbers}
use Rattle.file_format.proofs.roots.root_message.Given as goal

abbrev pub invariant-loop-j : goal.invariant-loop-j
invariant-loop-j l = Items l.hashes (numbers l.fn.roots.indexes) l.fn.roots.sizes l.j l.message
