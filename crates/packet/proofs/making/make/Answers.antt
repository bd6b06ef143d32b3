-- `packet::making::make` meets its contract. Assumes nothing.
use Rattle.blake2b.specs.Hash.{node_hash}
use Rattle.lookup.specs.Meaning.{verified_of}
use Rattle.packet.proofs.Makes.{read_in_lem, made_as}
use Rattle.packet.proofs.making.make.Goals as goal

pub make_behind-requires : goal.make_behind-requires
make_behind-requires c =
    read_in_lem node_hash _ c.args.chunk.0 (verified_of c.verify-read.result) c.verify-read.ensures

pub returns : goal.returns
returns c =
    made_as node_hash _ c.args.chunk.0 (verified_of c.verify-read.result) c.verify-read.ensures c.make_behind.ensures
