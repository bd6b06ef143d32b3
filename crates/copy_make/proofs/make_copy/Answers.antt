-- `copy_make::make_copy` meets its contract. Assumes nothing.
use Rattle.std.proofs.lemmas.Result.{err_from_is_err_and}
use mathlib.Core.Path.{sym, ap, ◌∙◌}
use Rattle.answer_types.specs.Meaning.{said, spot_of}
use Rattle.copy_checks.specs.Copy.{Copy, copy_of}
use Rattle.copy_make.proofs.Calls.{roomy, made_not, made}
use Rattle.copy_make.proofs.make_copy.Goals as goal

pub write_files-requires : goal.write_files-requires
write_files-requires c =
    let given : Copy = copy_of c.args.tree.now c.args.bitfield.now c.args.content.now c.args.n c.args.size in
    roomy given (sym (ap said c.in_ok-judge.was) ∙ c.judge.ensures)

pub returns-in_err-judge : goal.returns-in_err-judge
returns-in_err-judge c =
    let p = err_from_is_err_and c.from_residual.result c.from_residual.ensures.1 in
    rw (p.1, p.2) (let given : Copy = copy_of c.args.tree.now c.args.bitfield.now c.args.content.now c.args.n c.args.size in
    made_not given c.in_err-judge.field-0.0.number (spot_of c.in_err-judge.field-0.0.place) (sym (ap said c.in_err-judge.was) ∙ c.judge.ensures))

pub returns : goal.returns
returns c =
    let given : Copy = copy_of c.args.tree.now c.args.bitfield.now c.args.content.now c.args.n c.args.size in
    made given _ (sym (ap said c.in_ok-judge.was) ∙ c.judge.ensures) c.write_files.ensures
