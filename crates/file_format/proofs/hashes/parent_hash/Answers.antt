-- `file_format::hashes::parent_hash` meets its contract: the pieces of the message one behind the other. Assumes nothing.
use mathlib.Core.Path.{◌∙◌}
use borrow.Author.Rules.{rules}
use Rattle.blake2b.proofs.Laws.{node_keyless}
use Rattle.file_format.proofs.Places.{parent_pieces}
use Rattle.file_format.proofs.hashes.parent_hash.Goals as goal

pub returns : goal.returns
returns c =
    let a = c.args in
    parent_pieces a.left.now a.right.now a.sum c.be64-length.ensures (search rules) (search rules) c.copy_to.ensures
    c.copy_to-2.ensures c.copy_to-3.ensures (c.hash_parts.ensures ∙ node_keyless _)
