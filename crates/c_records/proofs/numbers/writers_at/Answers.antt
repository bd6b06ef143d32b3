-- One by one.
use Rattle.c_records.proofs.Flat.{eight}
use Rattle.c_records.specs.Numbers.{writer_at, writers_at}
use Prim.Native.Nat.{◌+◌, ◌*◌}
use Rattle.c_records.proofs.numbers.writers_at.Goals as goal

pub returns : goal.returns
unfolding writers_at
returns c =
    eight (λ j. writer_at c.args.d.now (25 + 5 * j))
    c.writer_at.ensures c.writer_at-2.ensures c.writer_at-3.ensures c.writer_at-4.ensures
    c.writer_at-5.ensures c.writer_at-6.ensures c.writer_at-7.ensures c.writer_at-8.ensures
