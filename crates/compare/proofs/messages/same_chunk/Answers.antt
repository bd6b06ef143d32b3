-- `compare::messages::same_chunk` meets its contract. Assumes nothing.
use Rattle.std.proofs.Common.{ap, ◌∙◌, ap₂}
use Rattle.byte_strings.specs.Lists.{same_list, part}
use Rattle.compare.proofs.messages.same_chunk.Goals as goal

pub returns : goal.returns
returns c =
    let a = c.args in
    c.same.ensures
    ∙ ap₂ same_list (c.bytes_from-chunk.ensures ∙ ap (part a.content.now a.start.0) c.stored_size-size.ensures)
    (c.bytes_from-chunk2.ensures ∙ ap (part a.content2.now a.start2.0) c.stored_size-size2.ensures)
