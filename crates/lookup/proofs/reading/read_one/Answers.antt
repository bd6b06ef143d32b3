-- `lookup::reading::read_one` meets its contract: the part that was verified lies within the data. Assumes nothing.
use mathlib.Core.Path.{◌∙◌}
use Rattle.blake2b.specs.Hash.{node_hash}
use Rattle.lookup.specs.Meaning.{verified_of}
use Rattle.lookup.proofs.Calls.{read_in_lem, read_bytes}
use Rattle.lookup.proofs.reading.read_one.Goals as goal

pub bytes_of-requires : goal.bytes_of-requires
bytes_of-requires c =
    read_in_lem node_hash _ c.args.chunk.0 (verified_of c.verify-verified.result) c.verify-verified.ensures

pub returns : goal.returns
returns c =
    c.bytes_of.ensures ∙ read_bytes node_hash _ c.args.chunk.0 (verified_of c.verify-verified.result) c.verify-verified.ensures
