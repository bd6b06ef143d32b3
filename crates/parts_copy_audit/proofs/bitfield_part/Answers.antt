-- `parts_copy_audit::bitfield_part` meets its contract. Assumes nothing.
use mathlib.Core.Path.{sym, ap, ◌∙◌}
use Rattle.answer_types.specs.Meaning.{said}
use Rattle.blake2b.specs.Hash.{node_hash}
use Rattle.copy_checks.specs.Copy.{Copy, copy_of}
use Rattle.copy_audit.proofs.Verdicts.{files_in_lem}
use Rattle.parts_audit.proofs.Laws.{end_most}
use Rattle.parts_copy_audit.proofs.Laws.{bits_refused, bits_say}
use Rattle.parts_copy_audit.proofs.bitfield_part.Goals as goal

pub returns-in_default : goal.returns-in_default
returns-in_default c =
    let given : Copy = copy_of c.args.tree.now c.args.bitfield.now c.args.content.now c.args.n c.args.size in
    let judge-partly = c.judge_partly-checked in
    bits_refused given judge-partly.result judge-partly.ensures c.args.from c.args.to _ c.in_default.is

pub row_count-requires : goal.row_count-requires
row_count-requires c =
    let given : Copy = copy_of c.args.tree.now c.args.bitfield.now c.args.content.now c.args.n c.args.size in
    (files_in_lem node_hash given (sym (ap said c.in-Ok.is) ∙ c.judge_partly-checked.ensures)).nodes.count

pub wrong_in_entries-requires : goal.wrong_in_entries-requires
wrong_in_entries-requires c =
    let given : Copy = copy_of c.args.tree.now c.args.bitfield.now c.args.content.now c.args.n c.args.size in
    let lesser = c.lesser-end in
    let row_count = c.row_count in (
      (files_in_lem node_hash given (sym (ap said c.in-Ok.is) ∙ c.judge_partly-checked.ensures)).field,
      end_most lesser.result c.args.to row_count.result _ lesser.ensures row_count.ensures,
    )

pub returns : goal.returns
returns c =
    let given : Copy = copy_of c.args.tree.now c.args.bitfield.now c.args.content.now c.args.n c.args.size in
    let judge-partly = c.judge_partly-checked in
    let wrong-in-entries = c.wrong_in_entries in
    let lesser = c.lesser-end in
    let row_count = c.row_count in
    bits_say given judge-partly.result judge-partly.ensures c.args.from c.args.to (ap said c.in-Ok.is) (said wrong-in-entries.result)
    lesser.result row_count.result row_count.ensures lesser.ensures wrong-in-entries.ensures
