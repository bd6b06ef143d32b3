-- `lookup::descent::is_within` meets its contract: each arm knows which variant is sought. Assumes nothing.
use mathlib.Core.Path.{ap, ◌∙◌}
use mathlib.Core.Bool.{not}
use Rattle.lookup.specs.Descent.{byte_within}
use Rattle.lookup.proofs.Visits.{chunk_within_lem}
use Rattle.lookup.proofs.descent.is_within.Goals as goal

pub returns-in-Chunk : goal.returns-in-Chunk
returns-in-Chunk c =
    let a = c.args in
    rw c.in-Chunk.is (ap not c.ends_before.ensures ∙ chunk_within_lem c.in-Chunk.c.0 a.i.0 a.start.0 a.size)

pub returns-in-Byte : goal.returns-in-Byte
unfolding byte_within
returns-in-Byte c = rw c.in-Byte.is
