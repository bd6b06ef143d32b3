-- `copy_audit::audit` meets its contract. Assumes nothing.
use Rattle.std.proofs.lemmas.Result.{err_from_is_err_and}
use mathlib.Core.Path.{sym, ap, ◌∙◌}
use Rattle.answer_types.specs.Meaning.{said, spot_of}
use Rattle.blake2b.specs.Hash.{node_hash}
use Rattle.lookup.specs.Unknown.{first_entry}
use Rattle.copy_audit.proofs.Verdicts.{audit_refused, files_in_lem, audit_entry, audit_byte}
use Rattle.copy_audit.proofs.audit.Goals as goal

pub wrong_entry-requires : goal.wrong_entry-requires
wrong_entry-requires c = files_in_lem node_hash _ (sym (ap said c.in_ok-judge_partly.was) ∙ c.judge_partly.ensures)

pub wrong_byte-requires : goal.wrong_byte-requires
wrong_byte-requires c = (files_in_lem node_hash _ (sym (ap said c.in_ok-judge_partly.was) ∙ c.judge_partly.ensures)).field

pub returns-in_err-judge_partly : goal.returns-in_err-judge_partly
returns-in_err-judge_partly c =
    let p = err_from_is_err_and c.from_residual.result c.from_residual.ensures.1 in
    rw (p.1, p.2) (audit_refused node_hash _ c.in_err-judge_partly.field-0.0.number (spot_of c.in_err-judge_partly.field-0.0.place) (sym (ap said c.in_err-judge_partly.was) ∙ c.judge_partly.ensures))

pub returns-in-Some : goal.returns-in-Some
returns-in-Some c =
    let e = sym (ap said c.in_ok-judge_partly.was) ∙ c.judge_partly.ensures in
    c.refuse_entry.ensures ∙ audit_entry node_hash _ e c.in-Some.i.0 (sym (ap first_entry c.in-Some.is) ∙ c.wrong_entry.ensures)

pub returns-in-None : goal.returns-in-None
returns-in-None c =
    let e = sym (ap said c.in_ok-judge_partly.was) ∙ c.judge_partly.ensures in
    audit_byte node_hash _ e (said c.wrong_byte.result) (sym (ap first_entry c.in-None.is) ∙ c.wrong_entry.ensures) c.wrong_byte.ensures
