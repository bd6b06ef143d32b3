-- The first three fields that do not fit decide.
use mathlib.Core.Path.{sym, ◌∙◌, subst}
use Rattle.record_format.specs.Records.{Stat, rows_of, RowsWithin}
use Rattle.record_format.specs.Inner.{ThreeMost}
use Rattle.record_format.specs.Post.{Decides, stat_of}
use Rattle.record_format.proofs.Nine.{rows_most, nine_rows}
use Rattle.record_format.proofs.Writing.{yes, no, carried}
use Rattle.record_format.proofs.stats.rows_fit.Goals as goal
use Rattle.record_format.proofs.stats.rows_fit.Goals.{then-three_fit, else-three_fit}

abbrev First : Stat → Type 0
First s = ThreeMost 4294967295 (s.mode, (s.uid, s.gid))

abbrev Second : Stat → Type 0
Second s = ThreeMost 18446744073709551615 (s.size, (s.blocks, s.offset))

abbrev Third : Stat → Type 0
Third s = ThreeMost 18446744073709551615 (s.byte_offset, (s.mtime, s.ctime))

pub returns-then-three_fit-2 : goal.returns-then-three_fit-2
returns-then-three_fit-2 c =
    let s = stat_of c.args.stat in
    elim c.if-three_fit.branch [
      | then-three_fit w ↦
          let first = yes (First s) c.three_fit.result w.if-three_fit.true c.three_fit.ensures in
          let second = yes (Second s) w.three_fit-then-three_fit.result (sym w.value-is ∙ c.if-three_fit-2.true) w.three_fit-then-three_fit.ensures in
          carried (Third s) (RowsWithin 1 (rows_of s)) c.three_fit-then-three_fit-2.result
          (λ z. nine_rows s (first, (second, z))) (λ x. (rows_most s x).1.1) c.three_fit-then-three_fit-2.ensures
      | else-three_fit w ↦ cc (w.value-is, c.if-three_fit-2.true)
    ]

pub returns-else-three_fit-2 : goal.returns-else-three_fit-2
returns-else-three_fit-2 c =
    let s = stat_of c.args.stat in
    subst (Decides (RowsWithin 1 (rows_of s))) (sym c.if-three_fit-2.false)
    (λ x. elim c.if-three_fit.branch [
      | then-three_fit w ↦
          no (Second s) w.three_fit-then-three_fit.result (sym w.value-is ∙ c.if-three_fit-2.false) w.three_fit-then-three_fit.ensures (rows_most s x).1.0
      | else-three_fit w ↦ no (First s) c.three_fit.result w.if-three_fit.false c.three_fit.ensures (rows_most s x).0
    ])
