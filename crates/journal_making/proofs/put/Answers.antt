-- `journal_making::put` meets its contract. Assumes nothing.
use native.Mathlib.Omega.{arith}
use mathlib.Core.Path.{refl}
use Rattle.std.proofs.lemmas.Result.{err_from_is_err_and}
use Rattle.journal_making.specs.Making.{put_after}
use Rattle.journal.proofs.Answers.{refused_kept}
use Rattle.journal_making.proofs.Numbers.{no_kind}
use Rattle.journal_making.proofs.Answers.{put_unfit}
use Rattle.journal_making.proofs.put.Goals as goal

pub returns-in_err-kind : goal.returns-in_err-kind
unfolding put_after
returns-in_err-kind c =
    let a = c.args in
    let p = err_from_is_err_and c.from_residual.result c.from_residual.ensures.1 in
    let e = put_unfit a.journal.now a.at a.range.now.file a.range.now.kind a.range.now.size a.range.now.old.now a.range.now.new.now (omega arith) (no_kind _ _ _ _ c.in_err-kind.ensures.1) in
    let u = c.in_err-kind.ensures.0 in record {
      value = rw (p.1, p.2, u) e;
      journal_after = refused_kept _ _ _ _ refl e;
    }
