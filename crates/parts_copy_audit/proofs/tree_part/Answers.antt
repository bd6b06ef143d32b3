-- `parts_copy_audit::tree_part` meets its contract. Assumes nothing.
use mathlib.Core.Path.{sym, ap, ◌∙◌}
use Rattle.answer_types.specs.Meaning.{said}
use Rattle.blake2b.specs.Hash.{node_hash}
use Rattle.copy_checks.specs.Copy.{Copy, copy_of}
use Rattle.lookup.specs.Unknown.{first_entry}
use Rattle.copy_audit.proofs.Verdicts.{files_in_lem}
use Rattle.parts_audit.proofs.Laws.{end_most}
use Rattle.parts_copy_audit.proofs.Laws.{entries_refused, entries_at, entries_none}
use Rattle.parts_copy_audit.proofs.tree_part.Goals as goal

pub returns-in_default : goal.returns-in_default
returns-in_default c =
    let given : Copy = copy_of c.args.tree.now c.args.bitfield.now c.args.content.now c.args.n c.args.size in
    let judge-partly = c.judge_partly-checked in
    entries_refused given judge-partly.result judge-partly.ensures node_hash c.args.from.0 c.args.to.0 _ c.in_default.is

pub entry_count-requires : goal.entry_count-requires
entry_count-requires c =
    let given : Copy = copy_of c.args.tree.now c.args.bitfield.now c.args.content.now c.args.n c.args.size in
    (files_in_lem node_hash given (sym (ap said c.in-Ok.is) ∙ c.judge_partly-checked.ensures)).nodes.count

pub wrong_between-requires : goal.wrong_between-requires
wrong_between-requires c =
    let given : Copy = copy_of c.args.tree.now c.args.bitfield.now c.args.content.now c.args.n c.args.size in
    let lesser = c.lesser in
    let entry-count = c.entry_count in (
      files_in_lem node_hash given (sym (ap said c.in-Ok.is) ∙ c.judge_partly-checked.ensures),
      end_most lesser.result c.args.to.0 entry-count.result _ lesser.ensures entry-count.ensures,
    )

pub returns-in-Some : goal.returns-in-Some
returns-in-Some c =
    let given : Copy = copy_of c.args.tree.now c.args.bitfield.now c.args.content.now c.args.n c.args.size in
    let judge-partly = c.judge_partly-checked in
    let wrong-between = c.wrong_between in
    let lesser = c.lesser in
    let entry-count = c.entry_count in
    c.refuse_entry.ensures
    ∙ entries_at given judge-partly.result judge-partly.ensures node_hash c.args.from.0 c.args.to.0 (ap said c.in-Ok.is)
    (first_entry wrong-between.result) lesser.result entry-count.result entry-count.ensures lesser.ensures wrong-between.ensures _ (ap first_entry c.in-Some.is)

pub returns-in-None : goal.returns-in-None
returns-in-None c =
    let given : Copy = copy_of c.args.tree.now c.args.bitfield.now c.args.content.now c.args.n c.args.size in
    let judge-partly = c.judge_partly-checked in
    let wrong-between = c.wrong_between in
    let lesser = c.lesser in
    let entry-count = c.entry_count in
    entries_none given judge-partly.result judge-partly.ensures node_hash c.args.from.0 c.args.to.0 (ap said c.in-Ok.is)
    (first_entry wrong-between.result) lesser.result entry-count.result entry-count.ensures lesser.ensures wrong-between.ensures (ap first_entry c.in-None.is)
