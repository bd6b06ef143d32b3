-- `journal_making::write_range` meets its contract. Assumes nothing.
use native.Mathlib.Omega.{arith}
use mathlib.Core.Path.{ap, ◌∙◌}
use Prim.Native.Nat.{ℕ}
use Rattle.byte_strings.specs.Lists.{put}
use Rattle.journal_making.specs.Making.{range_bytes}
use Rattle.journal_making.proofs.Puts.{five_puts}
use Rattle.journal_making.proofs.write_range.Goals as goal

pub returns : goal.returns
returns c =
    let a = c.args in
    let r = a.range.now in
    five_puts a.journal.now a.at r.file _ r.offset r.size r.old.now r.new.now (omega arith) _ _ _ _ _ _ _ c.be64.ensures c.be64-2.ensures
    c.copy_to.ensures c.copy_to-2.ensures c.copy_to-3.ensures c.copy_to-4.ensures c.copy_to-5.ensures
    ∙ ap (λ (k : ℕ). put a.journal.now a.at (range_bytes r.file k r.offset r.size r.old.now r.new.now)) c.from.ensures
