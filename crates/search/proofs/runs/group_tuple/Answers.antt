-- `search::runs::group_tuple` meets its contract. Assumes nothing.
use Prim.Native.Nat.{◌/◌}
use Rattle.search.proofs.Steps.{tuple_at}
use Rattle.search.proofs.runs.group_tuple.Goals as goal

pub returns-in-0 : goal.returns-in-0
returns-in-0 c = let a = c.args in tuple_at a.byte (a.chunk.0 / 16) 0 c.in-0.is

pub returns-in-1 : goal.returns-in-1
returns-in-1 c = let a = c.args in tuple_at a.byte (a.chunk.0 / 16) 1 c.in-1.is

pub returns-in-2 : goal.returns-in-2
returns-in-2 c = let a = c.args in tuple_at a.byte (a.chunk.0 / 16) 2 c.in-2.is
