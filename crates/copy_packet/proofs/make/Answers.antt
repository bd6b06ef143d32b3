-- `copy_packet::make` meets its contract. Assumes nothing.
use Rattle.blake2b.specs.Hash.{node_hash}
use Rattle.lookup.specs.Meaning.{verified_of}
use Rattle.copy_checks.specs.Copy.{Copy, copy_of}
use Rattle.copy_packet.proofs.Calls.{read_in_lem, made_as}
use Rattle.copy_packet.proofs.make.Goals as goal

pub make_behind-requires : goal.make_behind-requires
make_behind-requires c =
    let given : Copy = copy_of c.args.tree.now c.args.bitfield.now c.args.content.now c.args.n c.args.size in
    read_in_lem node_hash given c.args.chunk.0 (verified_of c.verify-read.result) c.verify-read.ensures

pub returns : goal.returns
returns c =
    let given : Copy = copy_of c.args.tree.now c.args.bitfield.now c.args.content.now c.args.n c.args.size in
    made_as node_hash given c.args.chunk.0 (verified_of c.verify-read.result) c.verify-read.ensures c.make_behind.ensures
