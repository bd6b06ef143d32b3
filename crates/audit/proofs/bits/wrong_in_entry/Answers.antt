use Prim.Native.Nat.{◌+◌, ◌-◌}
use Rattle.audit.proofs.Bytes.{entry_room, entry_within, part_long, index_by, passing_start, passing_next, passing_found, passing_done}
use mathlib.Core.Path.{◌∙◌, sym}
use native.Mathlib.Omega.{arith}
use Rattle.audit.proofs.bits.wrong_in_entry.Goals as goal

pub entry_offset-at-requires : goal.entry_offset-at-requires
entry_offset-at-requires c = (entry_room c.requires).0

pub slice_bounds-index_of-end : goal.slice_bounds-index_of-end
slice_bounds-index_of-end c = let room = entry_within c.requires c.entry_offset-at.ensures in omega (arith, room.1)

pub index_of-index-requires : goal.index_of-index-requires
index_of-index-requires c =
    let room = entry_within c.requires c.entry_offset-at.ensures in
    part_long c.args.xs.now c.entry_offset-at.result.0 (c.entry_offset-at.result.0 + 1024 - c.entry_offset-at.result.0) (omega (arith, room.1)) (omega arith)

pub loop-j-init : goal.loop-j-init
loop-j-init c =
    passing_start c.entry_offset-at.ensures
    (index_by c.args.xs.now c.args.e (c.entry_offset-at.result.0 + 1024 - c.entry_offset-at.result.0) c.entry_offset-at.ensures c.index_of-index.ensures (omega arith))

pub bounds-xs-place : goal.bounds-xs-place
bounds-xs-place c = let room = entry_within c.requires c.entry_offset-at.ensures in omega (arith, room.0, room.1)

pub expected_byte-requires : goal.expected_byte-requires
expected_byte-requires c = ((entry_room c.requires).0, omega (arith, c.loop-j-test.true), c.requires.file)

pub returns-then-xs-place : goal.returns-then-xs-place
returns-then-xs-place c =
    passing_found c.loop-j.invariant c.requires (omega (arith, c.loop-j-test.true))
    (λ z. c.if-xs-place.true (z ∙ sym c.expected_byte.ensures)) c.refuse_byte.ensures

pub loop-j-preserved : goal.loop-j-preserved
loop-j-preserved c = passing_next c.loop-j.invariant (omega (arith, c.loop-j-test.true)) (c.if-xs-place.false ∙ c.expected_byte.ensures)

pub returns : goal.returns
returns c = passing_done c.loop-j.invariant c.requires (omega (arith, c.loop-j-test.false))
