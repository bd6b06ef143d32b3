-- The read's own refusal, or what is told of the bytes read.
use Rattle.std.proofs.lemmas.Result.{err_from_is_err_and}
use mathlib.Core.Path.{refl, sym, ap, ◌∙◌}
use Rattle.answer_types.specs.Meaning.{said}
use Rattle.record_find.specs.ChunkRecords.{header_after}
use Rattle.record_find.proofs.Chunk.{header_none, header_done, behind}
use Rattle.record_find.proofs.chunks.header_behind.Goals as goal

pub no_record-requires : goal.no_record-requires
no_record-requires c = c.requires.small (sym c.answer_of.ensures ∙ ap said c.in_ok-answer_of.was)

pub returns-in_err-answer_of : goal.returns-in_err-answer_of
returns-in_err-answer_of c =
    let p = err_from_is_err_and c.from_residual.result c.from_residual.ensures.1 in
    -- what is told where the read answers so
    rw (p.1, p.2) (behind (λ v d. header_after v d c.args.chunk.0) c.in_err-answer_of.was c.answer_of.ensures c.bytes_of-bytes.ensures refl)

pub returns-in-Err : goal.returns-in-Err
returns-in-Err c =
    behind (λ v d. header_after v d c.args.chunk.0) c.in_ok-answer_of.was c.answer_of.ensures c.bytes_of-bytes.ensures
    (header_none _ _ c.no_record.result c.in-Err.is c.read_header.ensures c.no_record.ensures)

pub returns-in-Ok : goal.returns-in-Ok
returns-in-Ok c =
    behind (λ v d. header_after v d c.args.chunk.0) c.in_ok-answer_of.was c.answer_of.ensures c.bytes_of-bytes.ensures (header_done _ _ c.in-Ok.is c.read_header.ensures)
