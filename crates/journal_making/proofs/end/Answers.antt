-- `journal_making::end` meets its contract. Assumes nothing.
use mathlib.Core.Path.{refl, ◌∙◌}
use Rattle.std.proofs.lemmas.Result.{err_from_is_err_and}
use Rattle.journal_making.specs.Making.{end_after}
use Rattle.journal.proofs.Answers.{refused_kept, done_written, hash_said}
use Rattle.journal_making.proofs.Answers.{sealed_said}
use Rattle.journal_making.proofs.end.Goals as goal

pub returns-in_err-long : goal.returns-in_err-long
unfolding end_after
returns-in_err-long c =
    let p = err_from_is_err_and c.from_residual.result c.from_residual.ensures.1 in
    let e = c.in_err-long.ensures.value in record {
      value = rw (p.1, p.2) e;
      journal_after = refused_kept _ _ _ _ refl e;
    }

pub returns : goal.returns
unfolding end_after
returns c =
    let e = c.in_ok-long.ensures.value in record {
      value = e;
      journal_after = sealed_said c.args.journal.now _ _ _ _ c.args.at c.be64-length.ensures c.copy_to.ensures
          (hash_said _ _ c.args.at c.hash_parts-hash.ensures) c.copy_to-2.ensures
          ∙ done_written _ _ _ _ refl e;
    }
