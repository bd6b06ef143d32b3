-- `lookup::descent::moved` meets its contract: each arm knows which ending it has. Assumes nothing.
use mathlib.Core.Path.{ap}
use Rattle.lookup.specs.Descent.{reached}
use Rattle.lookup.specs.Capped.{capped_ending, moved_by}
use Rattle.lookup.proofs.descent.moved.Goals as goal

pub returns-in-Stopped : goal.returns-in-Stopped
unfolding capped_ending moved_by
returns-in-Stopped c = rw c.in-Stopped.is

pub returns-in-Unknown : goal.returns-in-Unknown
unfolding capped_ending moved_by
returns-in-Unknown c = rw c.in-Unknown.is

pub returns-in-Reached : goal.returns-in-Reached
unfolding capped_ending moved_by
returns-in-Reached c = rw c.in-Reached.is (ap (reached c.in-Reached.chunk.0) c.add_capped.ensures)
