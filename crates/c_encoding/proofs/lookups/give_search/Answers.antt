-- `c_encoding::lookups::give_search` meets its contract, by the case of the answer.
use Rattle.std.specs.Prelude.{Option, Ok}
use mathlib.Core.Path.{sym, ap, ◌∙◌}
use Rattle.number_types.specs.declared.ChunkNumber.{ChunkNumber}
use Rattle.search.specs.Meaning.{searched_of}
use Rattle.c_encoding.specs.Encoding.{as_found}
use Rattle.c_encoding.proofs.Laws.{gives_refused, gives_found}
use Rattle.c_encoding.proofs.lookups.give_search.Goals as goal

pub returns-in-Err : goal.returns-in-Err
returns-in-Err c = gives_refused _ c.in-Err.refusal _ _ c.refused.ensures (ap as_found (sym (ap searched_of c.in-Err.is)))

pub returns-in-Some : goal.returns-in-Some
returns-in-Some c =
    let e = ap searched_of c.in-Ok.is ∙ ap (λ (o : Option ChunkNumber). searched_of (Ok o)) c.in-Some.is in
    gives_found _ 1 c.in-Some.chunk.0 _ _ c.encode.ensures (ap as_found (sym e))

pub returns-in-None : goal.returns-in-None
returns-in-None c =
    let e = ap searched_of c.in-Ok.is ∙ ap (λ (o : Option ChunkNumber). searched_of (Ok o)) c.in-None.is in
    gives_found _ 0 0 _ _ c.encode-in-None.ensures (ap as_found (sym e))
