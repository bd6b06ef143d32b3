-- `copy_lookup::reads::read` meets its contract: the part that was verified lies within the data. Assumes nothing.
use mathlib.Core.Path.{◌∙◌}
use Rattle.blake2b.specs.Hash.{node_hash}
use Rattle.lookup.specs.Meaning.{verified_of}
use Rattle.copy_checks.specs.Copy.{Copy, copy_of}
use Rattle.copy_lookup.proofs.Calls.{read_in_lem, read_bytes}
use Rattle.copy_lookup.proofs.reads.read.Goals as goal

pub bytes_of-requires : goal.bytes_of-requires
bytes_of-requires c =
    let given : Copy = copy_of c.args.tree.now c.args.bitfield.now c.args.content.now c.args.n c.args.size in
    read_in_lem node_hash given c.args.chunk.0 (verified_of c.verify-verified.result) c.verify-verified.ensures

pub returns : goal.returns
returns c =
    let given : Copy = copy_of c.args.tree.now c.args.bitfield.now c.args.content.now c.args.n c.args.size in
    c.bytes_of.ensures ∙ read_bytes node_hash given c.args.chunk.0 (verified_of c.verify-verified.result) c.verify-verified.ensures
