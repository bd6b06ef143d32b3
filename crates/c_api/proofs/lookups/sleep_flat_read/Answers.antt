-- `c_api::lookups::sleep_flat_read` meets its contract.
use mathlib.Core.Path.{sym, ap, ◌∙◌}
use Rattle.blake2b.specs.Hash.{node_hash}
use Rattle.checks.specs.Lent.{register_of}
use Rattle.lookup.proofs.Calls.{lying}
use Rattle.c_encoding.specs.Encoding.{as_part}
use Rattle.c_encoding.proofs.Laws.{gives_same}
use Rattle.c_api.proofs.lookups.sleep_flat_read.Goals as goal

pub give_part-requires : goal.give_part-requires
give_part-requires c from end e =
    let a = c.args in
    (lying node_hash (register_of a.tree.now a.signatures.now a.bitfield.now a.content.now a.n a.s a.size) a.chunk from end
    (sym e ∙ c.verify-found.ensures)).ordered

pub returns : goal.returns
returns c = gives_same _ _ _ _ _ (ap as_part c.verify-found.ensures) c.give_part.ensures
