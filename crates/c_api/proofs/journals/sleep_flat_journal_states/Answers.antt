-- `c_api::journals::sleep_flat_journal_states` meets its contract. Assumes nothing.
use mathlib.Core.Path.{refl, sym, ap₂, ◌∙◌}
use Prim.Native.Nat.{ℕ}
use mathlib.Core.List.{[], ◌∷◌}
use Rattle.journal.proofs.Answers.{refused_kept, done_written}
use Rattle.c_journal.proofs.Laws.{coded}
use Rattle.c_api.proofs.journals.sleep_flat_journal_states.Goals as goal

pub returns-in-Ok : goal.returns-in-Ok
returns-in-Ok c = let e = c.in-Ok.ensures in record {
  answer_after = coded _ _ _ c.encode.ensures (sym e.0);
  states_after = ap₂ (λ (x y : ℕ). x ∷ y ∷ []) e.1 e.2 ∙ done_written _ _ _ _ refl (sym e.0);
}

pub returns-in-Err : goal.returns-in-Err
returns-in-Err c = let e = c.in-Err.ensures in record {
  answer_after = coded _ _ _ c.encode-in-Err.ensures (sym e);
  states_after = refused_kept _ _ _ _ refl (sym e);
}
