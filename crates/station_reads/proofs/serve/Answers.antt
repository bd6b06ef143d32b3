-- `station_reads::serve` meets its contract: the read of the station whose turn it is, and the table without it. Assumes nothing.
use mathlib.Core.Path.{sym, ap, ◌∙◌}
use Rattle.blake2b.specs.Hash.{node_hash}
use Rattle.checks.specs.Lent.{register_of}
use Rattle.lookup.specs.Meaning.{name_of}
use Rattle.station_queue.specs.Table.{next}
use Rattle.station_queue.specs.Words.{table_of}
use Rattle.station_queue.specs.Post.{turn_of}
use Rattle.station_reads.proofs.Serving.{part_one, serves}
use Rattle.station_reads.proofs.serve.Goals as goal

pub returns-in-Some : goal.returns-in-Some
returns-in-Some c =
    let a = c.args in
    let m = register_of a.mtree.now a.msignatures.now a.mbitfield.now a.mdata.now a.mn a.ms a.msize in
    let d = register_of a.ctree.now a.csignatures.now a.cbitfield.now a.cdata.now a.cn a.cs a.csize in
    serves node_hash m d a.table.now c.leave.new.table c.read.result.now
    (part_one node_hash m d (next (table_of a.table.now)) c.in-Some.turn.station (record { register = c.in-Some.turn.register; chunk = c.in-Some.turn.chunk.0 })
    (name_of c.named_by-name.result) c.read.result.now (sym (ap turn_of c.in-Some.is) ∙ c.next-turn.ensures) c.named_by-name.ensures
    c.read.ensures)
    c.leave.ensures
