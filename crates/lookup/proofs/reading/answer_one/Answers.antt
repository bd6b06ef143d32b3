-- `lookup::reading::answer_one` meets its contract. Assumes nothing.
use mathlib.Core.Path.{◌∙◌}
use Rattle.blake2b.specs.Hash.{node_hash}
use Rattle.lookup.specs.Meaning.{verified_of}
use Rattle.lookup.proofs.Calls.{read_says_lem}
use Rattle.lookup.proofs.reading.answer_one.Goals as goal

pub returns : goal.returns
returns c =
    c.answer_of.ensures ∙ read_says_lem node_hash _ c.args.chunk.0 (verified_of c.verify-verified.result) c.verify-verified.ensures
