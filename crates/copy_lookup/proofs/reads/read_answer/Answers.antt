-- `copy_lookup::reads::read_answer` meets its contract. Assumes nothing.
use mathlib.Core.Path.{◌∙◌}
use Rattle.blake2b.specs.Hash.{node_hash}
use Rattle.lookup.specs.Meaning.{verified_of}
use Rattle.copy_checks.specs.Copy.{Copy, copy_of}
use Rattle.copy_lookup.proofs.Calls.{read_says_lem}
use Rattle.copy_lookup.proofs.reads.read_answer.Goals as goal

pub returns : goal.returns
returns c =
    let given : Copy = copy_of c.args.tree.now c.args.bitfield.now c.args.content.now c.args.n c.args.size in
    c.answer_of.ensures ∙ read_says_lem node_hash given c.args.chunk.0 (verified_of c.verify-verified.result) c.verify-verified.ensures
