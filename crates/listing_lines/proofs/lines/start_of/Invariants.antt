-- `listing_lines::lines::start_of` meets its contract. The loop's invariant: `start` is where the chunk j starts. Assumes nothing.
use mathlib.Core.Path.{◌≡◌}
use Rattle.file_format.specs.Stored.{stored_start}
use Rattle.listing_lines.proofs.lines.start_of.Given as goal

abbrev pub invariant-loop-j : goal.invariant-loop-j
invariant-loop-j l = l.start.0 ≡ stored_start l.tree l.j
