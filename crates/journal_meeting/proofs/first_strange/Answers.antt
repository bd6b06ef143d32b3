use native.Mathlib.Omega.{arith}
use mathlib.Core.Path.{◌≡◌, ◌∙◌}
use mathlib.Core.Bool.{true}
use lib.ListN.{length}
use Rattle.byte_strings.proofs.Lowest.{lowest_on, lowest_off, lowest_end}
use Rattle.journal_meeting.specs.Between.{right_at}
use Rattle.journal_meeting.proofs.Strange.{is_old, is_new, is_strange, shifted_first, shifted_none}
use Rattle.journal_meeting.proofs.Ranges.{outside, judged}
use Rattle.journal_meeting.proofs.first_strange.Goals.{then-file-at-via-then-file-at, then-file-at-via-else-file-at+then-file-at-2}
use Rattle.journal_meeting.proofs.first_strange.Goals.{else-byte-old-via-then-byte-old+else-byte-new, else-byte-old-via-else-byte-old}
use Rattle.journal_meeting.proofs.first_strange.Goals as goal

pub returns-then-file-at : goal.returns-then-file-at
returns-then-file-at c = elim c.then-file-at.branch [
  | then-file-at-via-then-file-at w ↦ outside _ _ _ _ (omega arith)
  | then-file-at-via-else-file-at+then-file-at-2 w ↦ outside _ _ _ _ (omega arith)
]

pub returns-then-byte-new : goal.returns-then-byte-new
returns-then-byte-new c =
    let a = c.args in
    let wrong = is_strange a.file.now a.old.now a.new.now a.at c.loop-i.i c.if-byte-old.true c.if-byte-new.true in
    judged _ _ a.old.now _ (omega arith) _
    (shifted_first a.at c.loop-i.i _
    (c.loop-i.invariant ∙ lowest_off (right_at a.file.now a.old.now a.new.now a.at) c.loop-i.i (length a.new.now) (omega arith) wrong))

pub loop-i-preserved : goal.loop-i-preserved
loop-i-preserved c =
    let a = c.args in
    let on = λ (e : right_at a.file.now a.old.now a.new.now a.at c.loop-i.i ≡ true).
    c.loop-i.invariant ∙ lowest_on (right_at a.file.now a.old.now a.new.now a.at) c.loop-i.i (length a.new.now) (omega arith) e in
    elim c.else-byte-old.branch [
      | else-byte-old-via-then-byte-old+else-byte-new w ↦ on (is_new _ _ _ _ _ w.if-byte-old.true w.if-byte-new.false)
      | else-byte-old-via-else-byte-old w ↦ on (is_old _ _ _ _ _ w.if-byte-old.false)
    ]

pub returns : goal.returns
returns c =
    let a = c.args in
    judged _ _ a.old.now _ (omega arith) _
    (shifted_none a.at _ (c.loop-i.invariant ∙ lowest_end (right_at a.file.now a.old.now a.new.now a.at) c.loop-i.i (length a.new.now) (omega arith)))
