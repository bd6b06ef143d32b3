-- `release::release_placed` meets its contract: a refusal is handed on, or the place that was found is cleared. Assumes nothing.
use Rattle.std.proofs.lemmas.Result.{err_from_is_err_and}
use mathlib.Core.Path.{sym, ap, ◌∙◌, subst}
use Rattle.lookup.specs.Read.{verdict_found}
use Rattle.lookup.specs.Meaning.{placed_of}
use Rattle.release.specs.Release.{bytes_cleared}
use Rattle.release.specs.Post.{ClearsAt, bits_cleared}
use Rattle.release.proofs.release_placed.Goals as goal

pub clear_chunk-requires : goal.clear_chunk-requires
clear_chunk-requires c = subst (ClearsAt c.args.bitfield.now c.args.content.now c.args.chunk.0) (ap placed_of c.in_ok-placed.was) c.requires

pub returns-in_err-placed : goal.returns-in_err-placed
returns-in_err-placed c =
    let e = sym (ap placed_of c.in_err-placed.was) in
    let p = err_from_is_err_and c.from_residual.result c.from_residual.ensures.1 in
    rw (p.1, p.2) (record {
      answer = ap verdict_found e;
      bitfield = ap (bits_cleared c.args.bitfield.now c.args.chunk.0) e;
      content = ap (bytes_cleared c.args.content.now) e;
    })

pub returns : goal.returns
returns c =
    let e = sym (ap placed_of c.in_ok-placed.was) in
    let w = c.clear_chunk.ensures in
    record {
      answer = ap verdict_found e;
      bitfield = w.bitfield ∙ ap (bits_cleared c.args.bitfield.now c.args.chunk.0) e;
      content = w.content ∙ ap (bytes_cleared c.args.content.now) e;
    }
