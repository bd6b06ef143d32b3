use native.Mathlib.Omega.{arith}
use mathlib.Core.Path.{ap, ◌∙◌}
use Prim.Native.Nat.{ℕ}
use Rattle.journal_meeting.specs.Between.{met_range}
use Rattle.journal.specs.Places.{range_at}
use Rattle.journal.proofs.Behind.{range_room}
use Rattle.journal.proofs.Steps.{none_found, own_place}
use Rattle.journal_meeting.proofs.Steps.{mets_start, mets_past, mets_cut, mets_other, mets_byte, mets_on}
use Rattle.journal_meeting.proofs.met.Goals as goal

pub loop-place-init : goal.loop-place-init
loop-place-init c =
    let a = c.args in
    mets_start a.journal.now a.end a.file a.bytes.now a.at (omega arith)

pub returns-in_default : goal.returns-in_default
returns-in_default c =
    let a = c.args in
    mets_cut a.journal.now a.end a.file a.bytes.now a.at c.loop-place.place c.loop-place.invariant
    (none_found a.journal.now a.end c.loop-place.place _ c.in_default.not-Some c.range_at.ensures)

pub returns-then-from-file : goal.returns-then-from-file
returns-then-from-file c =
    let a = c.args in
    let w = c.in-Some.ensures in
    mets_other a.journal.now a.end a.file a.bytes.now a.at c.loop-place.place c.loop-place.invariant w.is _ (c.from.ensures ∙ w.reads.file) c.if-from-file.true

pub met_range-requires : goal.met_range-requires
met_range-requires c =
    let w = c.in-Some.ensures in
    let r = range_room w in
    record { read = (own_place _ _ _ _ w, omega arith); in_journal = (omega arith, omega arith) }

pub returns-in-Some-met_range : goal.returns-in-Some-met_range
returns-in-Some-met_range c =
    let a = c.args in
    let w = c.in-Some.ensures in
    mets_byte a.journal.now a.end a.file a.bytes.now a.at c.loop-place.place w.is _ (c.from.ensures ∙ w.reads.file) c.if-from-file.false _
    (c.met_range.ensures ∙ ap (λ (n : ℕ). met_range a.bytes.now (range_at a.journal.now n)) w.reads.at) c.loop-place.invariant (omega arith) _ c.in-Some-met_range.is

pub loop-place-smaller : goal.loop-place-smaller
loop-place-smaller c = let r = range_room c.in-Some.ensures in omega arith

pub loop-place-preserved : goal.loop-place-preserved
loop-place-preserved c =
    let a = c.args in
    let w = c.in-Some.ensures in
    mets_on a.journal.now a.end a.file a.bytes.now a.at c.loop-place.place w.is _ (c.from.ensures ∙ w.reads.file) c.if-from-file.false _
    (c.met_range.ensures ∙ ap (λ (n : ℕ). met_range a.bytes.now (range_at a.journal.now n)) w.reads.at) c.loop-place.invariant (omega arith) _ w.reads.behind c.in_default-met_range.is

pub returns : goal.returns
returns c =
    let a = c.args in
    mets_past a.journal.now a.end a.file a.bytes.now a.at c.loop-place.place c.loop-place.invariant (omega arith)
