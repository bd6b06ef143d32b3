-- `parts_compare::roots_part` meets its contract. Assumes nothing.
use mathlib.Core.Path.{sym, ap}
use Rattle.blake2b.specs.Hash.{node_hash}
use Rattle.file_format.specs.Belongs.{Register}
use Rattle.checks.specs.Lent.{register_of}
use Rattle.compare.specs.Walk.{roots_differ, at_roots, equal}
use Rattle.compare.specs.Meaning.{roots_told}
use Rattle.parts_compare.proofs.Laws.{roots_first, roots_second, roots_room, roots_told_lem}
use Rattle.parts_compare.proofs.roots_part.Goals as goal

pub returns-in-Err : goal.returns-in-Err
returns-in-Err c =
    let fst : Register = register_of c.args.tree.now c.args.signatures.now c.args.bitfield.now c.args.content.now c.args.n c.args.s c.args.size in
    let snd : Register = register_of c.args.tree2.now c.args.signatures2.now c.args.bitfield2.now c.args.content2.now c.args.n2 c.args.s2 c.args.size2 in
    let judge = c.judge-first in
    roots_first node_hash fst snd judge.result judge.ensures _ c.in-Err.is

pub returns-in-Err-second : goal.returns-in-Err-second
returns-in-Err-second c =
    let fst : Register = register_of c.args.tree.now c.args.signatures.now c.args.bitfield.now c.args.content.now c.args.n c.args.s c.args.size in
    let snd : Register = register_of c.args.tree2.now c.args.signatures2.now c.args.bitfield2.now c.args.content2.now c.args.n2 c.args.s2 c.args.size2 in
    let judge = c.judge-first in
    let judge2 = c.judge-second in
    roots_second node_hash fst snd judge.result judge.ensures c.in_default.is judge2.result judge2.ensures _ c.in-Err-second.is

pub compare_roots-requires : goal.compare_roots-requires
compare_roots-requires c =
    let fst : Register = register_of c.args.tree.now c.args.signatures.now c.args.bitfield.now c.args.content.now c.args.n c.args.s c.args.size in
    let snd : Register = register_of c.args.tree2.now c.args.signatures2.now c.args.bitfield2.now c.args.content2.now c.args.n2 c.args.s2 c.args.size2 in
    let judge = c.judge-first in
    let judge2 = c.judge-second in
    roots_room node_hash fst snd judge.result judge.ensures c.in_default.is judge2.result judge2.ensures c.in_default-second.is

pub returns-in-Differ : goal.returns-in-Differ
returns-in-Differ c =
    let fst : Register = register_of c.args.tree.now c.args.signatures.now c.args.bitfield.now c.args.content.now c.args.n c.args.s c.args.size in
    let snd : Register = register_of c.args.tree2.now c.args.signatures2.now c.args.bitfield2.now c.args.content2.now c.args.n2 c.args.s2 c.args.size2 in
    let judge = c.judge-first in
    let judge2 = c.judge-second in
    let compare-roots = c.compare_roots in
    roots_told_lem node_hash fst snd judge.result judge.ensures c.in_default.is judge2.result judge2.ensures c.in_default-second.is roots_differ
    (roots_told compare-roots.result) (sym (ap roots_told c.in-Differ.is)) compare-roots.ensures

pub returns-in-Collide : goal.returns-in-Collide
returns-in-Collide c =
    let fst : Register = register_of c.args.tree.now c.args.signatures.now c.args.bitfield.now c.args.content.now c.args.n c.args.s c.args.size in
    let snd : Register = register_of c.args.tree2.now c.args.signatures2.now c.args.bitfield2.now c.args.content2.now c.args.n2 c.args.s2 c.args.size2 in
    let judge = c.judge-first in
    let judge2 = c.judge-second in
    let compare-roots = c.compare_roots in
    roots_told_lem node_hash fst snd judge.result judge.ensures c.in_default.is judge2.result judge2.ensures c.in_default-second.is at_roots
    (roots_told compare-roots.result) (sym (ap roots_told c.in-Collide.is)) compare-roots.ensures

pub returns-in-Same : goal.returns-in-Same
returns-in-Same c =
    let fst : Register = register_of c.args.tree.now c.args.signatures.now c.args.bitfield.now c.args.content.now c.args.n c.args.s c.args.size in
    let snd : Register = register_of c.args.tree2.now c.args.signatures2.now c.args.bitfield2.now c.args.content2.now c.args.n2 c.args.s2 c.args.size2 in
    let judge = c.judge-first in
    let judge2 = c.judge-second in
    let compare-roots = c.compare_roots in
    roots_told_lem node_hash fst snd judge.result judge.ensures c.in_default.is judge2.result judge2.ensures c.in_default-second.is equal
    (roots_told compare-roots.result) (sym (ap roots_told c.in-Same.is)) compare-roots.ensures
