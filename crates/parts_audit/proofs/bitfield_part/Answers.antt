-- `parts_audit::bitfield_part` meets its contract. Assumes nothing.
use mathlib.Core.Path.{ap}
use Rattle.answer_types.specs.Verdict.{done}
use Rattle.answer_types.specs.Meaning.{said}
use Rattle.file_format.specs.Belongs.{Register}
use Rattle.checks.specs.Lent.{register_of}
use Rattle.audit.proofs.Whole.{files_in_lem}
use Rattle.parts_audit.proofs.Laws.{end_most, bitfield_refused, bitfield_says}
use Rattle.parts_audit.proofs.bitfield_part.Goals as goal

pub returns-in_default : goal.returns-in_default
returns-in_default c =
    let given : Register = register_of c.args.tree.now c.args.signatures.now c.args.bitfield.now c.args.content.now c.args.n c.args.s c.args.size in
    let judge = c.judge-checked in
    bitfield_refused given c.args.from c.args.to judge.result judge.ensures _ c.in_default.is

pub row_count-requires : goal.row_count-requires
row_count-requires c =
    let given : Register = register_of c.args.tree.now c.args.signatures.now c.args.bitfield.now c.args.content.now c.args.n c.args.s c.args.size in
    let judge = c.judge-checked in
    (files_in_lem given done judge.result judge.ensures (ap said c.in-Ok.is)).nodes.count

pub wrong_in_entries-requires : goal.wrong_in_entries-requires
wrong_in_entries-requires c =
    let given : Register = register_of c.args.tree.now c.args.signatures.now c.args.bitfield.now c.args.content.now c.args.n c.args.s c.args.size in
    let judge = c.judge-checked in
    let lesser = c.lesser-end in
    let row_count = c.row_count in (
      (files_in_lem given done judge.result judge.ensures (ap said c.in-Ok.is)).field,
      end_most lesser.result c.args.to row_count.result _ lesser.ensures row_count.ensures,
    )

pub returns : goal.returns
returns c =
    let given : Register = register_of c.args.tree.now c.args.signatures.now c.args.bitfield.now c.args.content.now c.args.n c.args.s c.args.size in
    let judge = c.judge-checked in
    let wrong-in-entries = c.wrong_in_entries in
    let lesser = c.lesser-end in
    let row_count = c.row_count in
    bitfield_says given c.args.from c.args.to judge.result judge.ensures (ap said c.in-Ok.is) (said wrong-in-entries.result)
    lesser.result row_count.result row_count.ensures lesser.ensures wrong-in-entries.ensures
