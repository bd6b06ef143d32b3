-- `parts_compare::walk_part` meets its contract. Assumes nothing.
use native.Mathlib.Omega.{arith}
use Prim.Native.Nat.{◌-◌}
use Rattle.file_format.specs.Belongs.{Register}
use Rattle.checks.specs.Lent.{register_of}
use Rattle.compare.specs.Meaning.{compared}
use Rattle.parts_audit.proofs.Laws.{end_most}
use Rattle.parts_compare.proofs.Laws.{walk_first, walk_second, walk_room, walk_data, walk_none, walk_says}
use Rattle.parts_compare.proofs.walk_part.Goals as goal

pub returns-in-Err : goal.returns-in-Err
returns-in-Err c =
    let fst : Register = register_of c.args.tree.now c.args.signatures.now c.args.bitfield.now c.args.content.now c.args.n c.args.s c.args.size in
    let snd : Register = register_of c.args.tree2.now c.args.signatures2.now c.args.bitfield2.now c.args.content2.now c.args.n2 c.args.s2 c.args.size2 in
    let judge = c.judge-first in
    walk_first fst snd c.args.from.0 c.args.to.0 judge.result judge.ensures _ c.in-Err.is

pub returns-in-Err-second : goal.returns-in-Err-second
returns-in-Err-second c =
    let fst : Register = register_of c.args.tree.now c.args.signatures.now c.args.bitfield.now c.args.content.now c.args.n c.args.s c.args.size in
    let snd : Register = register_of c.args.tree2.now c.args.signatures2.now c.args.bitfield2.now c.args.content2.now c.args.n2 c.args.s2 c.args.size2 in
    let judge = c.judge-first in
    let judge2 = c.judge-second in
    walk_second fst snd c.args.from.0 c.args.to.0 judge.result judge.ensures c.in_default.is judge2.result judge2.ensures _ c.in-Err-second.is

pub returns-then-n-n2 : goal.returns-then-n-n2
returns-then-n-n2 c =
    let fst : Register = register_of c.args.tree.now c.args.signatures.now c.args.bitfield.now c.args.content.now c.args.n c.args.s c.args.size in
    let snd : Register = register_of c.args.tree2.now c.args.signatures2.now c.args.bitfield2.now c.args.content2.now c.args.n2 c.args.s2 c.args.size2 in
    let judge = c.judge-first in
    let judge2 = c.judge-second in
    walk_none fst snd c.args.from.0 c.args.to.0 judge.result judge.ensures c.in_default.is judge2.result judge2.ensures c.in_default-second.is
    c.if-n-n2.true

pub entry_count-requires : goal.entry_count-requires
entry_count-requires c =
    let fst : Register = register_of c.args.tree.now c.args.signatures.now c.args.bitfield.now c.args.content.now c.args.n c.args.s c.args.size in
    let snd : Register = register_of c.args.tree2.now c.args.signatures2.now c.args.bitfield2.now c.args.content2.now c.args.n2 c.args.s2 c.args.size2 in
    let judge = c.judge-first in
    let judge2 = c.judge-second in
    (walk_room fst snd c.args.from.0 c.args.to.0 judge.result judge.ensures c.in_default.is judge2.result judge2.ensures c.in_default-second.is
    c.if-n-n2.false).0.count

pub slice_bounds-lowest_collision-end : goal.slice_bounds-lowest_collision-end
slice_bounds-lowest_collision-end c =
    let fst : Register = register_of c.args.tree.now c.args.signatures.now c.args.bitfield.now c.args.content.now c.args.n c.args.s c.args.size in
    let snd : Register = register_of c.args.tree2.now c.args.signatures2.now c.args.bitfield2.now c.args.content2.now c.args.n2 c.args.s2 c.args.size2 in
    let judge = c.judge-first in
    let judge2 = c.judge-second in
    let d =
    walk_data fst snd c.args.from.0 c.args.to.0 judge.result judge.ensures c.in_default.is judge2.result judge2.ensures
    c.in_default-second.is in
    omega (arith, d.0)

pub slice_bounds-lowest_collision-end-2 : goal.slice_bounds-lowest_collision-end-2
slice_bounds-lowest_collision-end-2 c =
    let fst : Register = register_of c.args.tree.now c.args.signatures.now c.args.bitfield.now c.args.content.now c.args.n c.args.s c.args.size in
    let snd : Register = register_of c.args.tree2.now c.args.signatures2.now c.args.bitfield2.now c.args.content2.now c.args.n2 c.args.s2 c.args.size2 in
    let judge = c.judge-first in
    let judge2 = c.judge-second in
    let d =
    walk_data fst snd c.args.from.0 c.args.to.0 judge.result judge.ensures c.in_default.is judge2.result judge2.ensures
    c.in_default-second.is in
    omega (arith, d.1)

pub lowest_collision-requires : goal.lowest_collision-requires
lowest_collision-requires c =
    let fst : Register = register_of c.args.tree.now c.args.signatures.now c.args.bitfield.now c.args.content.now c.args.n c.args.s c.args.size in
    let snd : Register = register_of c.args.tree2.now c.args.signatures2.now c.args.bitfield2.now c.args.content2.now c.args.n2 c.args.s2 c.args.size2 in
    let judge = c.judge-first in
    let judge2 = c.judge-second in
    let lesser = c.lesser in
    let entry-count = c.entry_count in
    let room =
    walk_room fst snd c.args.from.0 c.args.to.0 judge.result judge.ensures c.in_default.is judge2.result judge2.ensures c.in_default-second.is
    c.if-n-n2.false in
    (room.0, room.1, end_most lesser.result c.args.to.0 entry-count.result _ lesser.ensures entry-count.ensures)

pub returns : goal.returns
returns c =
    let fst : Register = register_of c.args.tree.now c.args.signatures.now c.args.bitfield.now c.args.content.now c.args.n c.args.s c.args.size in
    let snd : Register = register_of c.args.tree2.now c.args.signatures2.now c.args.bitfield2.now c.args.content2.now c.args.n2 c.args.s2 c.args.size2 in
    let judge = c.judge-first in
    let judge2 = c.judge-second in
    let lowest-collision = c.lowest_collision in
    let lesser = c.lesser in
    let entry-count = c.entry_count in
    let a = c.args in
    walk_says fst snd a.from.0 a.to.0 judge.result judge.ensures c.in_default.is judge2.result judge2.ensures c.in_default-second.is
    c.if-n-n2.false (compared lowest-collision.result) lesser.result entry-count.result (a.size - 0) (a.size2 - 0) entry-count.ensures lesser.ensures (omega arith)
    (omega arith) lowest-collision.ensures
