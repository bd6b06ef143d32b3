-- The read, and what is told behind it.
use mathlib.Core.Path.{ap₂, ◌∙◌}
use Rattle.blake2b.specs.Hash.{node_hash}
use Rattle.record_find.specs.ChunkRecords.{header_after}
use Rattle.copy_checks.specs.Copy.{Copy, copy_of}
use Rattle.copy_lookup.proofs.Calls.{read_says_lem, read_bytes}
use Rattle.copy_records.proofs.Chunk.{copy_read_in}
use Rattle.copy_records.proofs.chunks.header_of.Goals as goal

pub header_behind-requires : goal.header_behind-requires
header_behind-requires c =
    let given : Copy = copy_of c.args.tree.now c.args.bitfield.now c.args.content.now c.args.n c.args.size in
    copy_read_in node_hash (given) c.args.chunk.0 c.verify-read.ensures

pub returns : goal.returns
returns c =
    let given : Copy = copy_of c.args.tree.now c.args.bitfield.now c.args.content.now c.args.n c.args.size in
    let i = c.args.chunk.0 in
    c.header_behind.ensures
    ∙ ap₂ (λ v d. header_after v d i) (read_says_lem node_hash (given) i _ c.verify-read.ensures) (read_bytes node_hash (given) i _ c.verify-read.ensures)
