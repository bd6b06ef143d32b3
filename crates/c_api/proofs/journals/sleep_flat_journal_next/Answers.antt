-- `c_api::journals::sleep_flat_journal_next` meets its contract. Assumes nothing.
use mathlib.Core.Path.{refl, sym, ◌∙◌}
use Rattle.journal.proofs.Answers.{refused_kept, done_written}
use Rattle.c_journal.proofs.Laws.{coded}
use Rattle.c_api.proofs.journals.sleep_flat_journal_next.Goals as goal

pub returns-in-Ok : goal.returns-in-Ok
returns-in-Ok c = let e = c.in-Ok.ensures in record {
  answer_after = coded _ _ _ c.encode.ensures (sym e.0);
  range_after = c.numbers.ensures ∙ e.1 ∙ done_written _ _ _ _ refl (sym e.0);
}

pub returns-in-Err : goal.returns-in-Err
returns-in-Err c = let e = c.in-Err.ensures in record {
  answer_after = coded _ _ _ c.encode-in-Err.ensures (sym e);
  range_after = refused_kept _ _ _ _ refl (sym e);
}
