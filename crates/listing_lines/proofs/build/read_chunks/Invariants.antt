-- `listing_lines::build::read_chunks` meets its contract. The loop's invariant: n chunks are read into the register, and the rest is
-- still to be read. Assumes nothing.
use Prim.Native.Nat.{◌-◌, ◌≤◌}
use lib.ListN.{length, drop}
use Rattle.checks.specs.Lent.{register_of}
use Rattle.listing_lines.specs.Input.{chunks_in}
use Rattle.listing_lines.specs.Inner.{Reading}
use Rattle.listing_lines.proofs.build.read_chunks.Given as goal

abbrev pub invariant-loop-n : goal.invariant-loop-n
invariant-loop-n l = (l.at ≤ length l.input) × (l.size ≤ 4096)
    × Reading (chunks_in l.count (drop 4 l.input) 4096) (chunks_in (l.count - l.n) (drop l.at l.input) (4096 - l.size))
    (register_of l.tree l.signatures l.bitfield l.content l.n l.n l.size)
