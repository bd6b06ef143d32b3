-- `journal_making::begin` meets its contract. Assumes nothing.
use native.Mathlib.Omega.{arith}
use mathlib.Core.Path.{refl, ◌∙◌}
use Rattle.journal.proofs.Answers.{done_written}
use Rattle.journal_making.specs.Making.{begun}
use Rattle.journal_making.proofs.Puts.{front_put}
use Rattle.journal_making.proofs.Answers.{begin_done}
use Rattle.journal_making.proofs.begin.Goals as goal

pub returns-clause-journal_after : goal.returns-clause-journal_after
unfolding begun
returns-clause-journal_after c =
    let a = c.args in
    front_put a.journal.now _ _ _ a.states.now (omega arith) c.copy_to.ensures c.clear.ensures c.write_words.ensures
    ∙ done_written _ _ _ _ refl (begin_done a.journal.now (omega arith))
