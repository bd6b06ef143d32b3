-- One field behind the other.
use Rattle.record_node.proofs.Five.{parts_first, parts_second, parts_third, parts_read}
use Rattle.record_node.proofs.reading.three_parts.Goals as goal

pub returns-in_err-path : goal.returns-in_err-path
returns-in_err-path c = rw c.from_residual.ensures (parts_first c.args.d.now c.in_err-path.ensures)

pub returns-in_err-value : goal.returns-in_err-value
returns-in_err-value c = rw c.from_residual-in_err-value.ensures (parts_second c.args.d.now c.in_ok-path.ensures c.in_err-value.ensures)

pub returns-in_err-trie : goal.returns-in_err-trie
returns-in_err-trie c = rw c.from_residual-in_err-trie.ensures (parts_third c.args.d.now c.in_ok-path.ensures c.in_ok-value.ensures c.in_err-trie.ensures)

pub returns : goal.returns
returns c = parts_read c.args.d.now c.in_ok-path.ensures c.in_ok-value.ensures c.in_ok-trie.ensures
