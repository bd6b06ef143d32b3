-- `parts_audit::tree_part` meets its contract. Assumes nothing.
use mathlib.Core.Path.{ap}
use Rattle.answer_types.specs.Verdict.{done}
use Rattle.answer_types.specs.Meaning.{said}
use Rattle.blake2b.specs.Hash.{node_hash}
use Rattle.file_format.specs.Belongs.{Register}
use Rattle.checks.specs.Lent.{register_of}
use Rattle.audit.proofs.Whole.{files_in_lem}
use Rattle.parts_audit.proofs.Laws.{end_most, tree_refused, tree_says}
use Rattle.parts_audit.proofs.tree_part.Goals as goal

pub returns-in_default : goal.returns-in_default
returns-in_default c =
    let given : Register = register_of c.args.tree.now c.args.signatures.now c.args.bitfield.now c.args.content.now c.args.n c.args.s c.args.size in
    let judge = c.judge-checked in
    tree_refused node_hash given c.args.from.0 c.args.to.0 judge.result judge.ensures _ c.in_default.is

pub entry_count-requires : goal.entry_count-requires
entry_count-requires c =
    let given : Register = register_of c.args.tree.now c.args.signatures.now c.args.bitfield.now c.args.content.now c.args.n c.args.s c.args.size in
    let judge = c.judge-checked in
    (files_in_lem given done judge.result judge.ensures (ap said c.in-Ok.is)).nodes.count

pub wrong_between-requires : goal.wrong_between-requires
wrong_between-requires c =
    let given : Register = register_of c.args.tree.now c.args.signatures.now c.args.bitfield.now c.args.content.now c.args.n c.args.s c.args.size in
    let judge = c.judge-checked in
    let lesser = c.lesser in
    let entry-count = c.entry_count in (
      files_in_lem given done judge.result judge.ensures (ap said c.in-Ok.is),
      end_most lesser.result c.args.to.0 entry-count.result _ lesser.ensures entry-count.ensures,
    )

pub returns : goal.returns
returns c =
    let given : Register = register_of c.args.tree.now c.args.signatures.now c.args.bitfield.now c.args.content.now c.args.n c.args.s c.args.size in
    let judge = c.judge-checked in
    let wrong-between = c.wrong_between in
    let lesser = c.lesser in
    let entry-count = c.entry_count in
    tree_says node_hash given c.args.from.0 c.args.to.0 judge.result judge.ensures (ap said c.in-Ok.is) (said wrong-between.result)
    lesser.result entry-count.result entry-count.ensures lesser.ensures wrong-between.ensures
