-- `packet::path::beside` meets its contract. Assumes nothing.
use native.Mathlib.Omega.{arith}
use Rattle.packet.proofs.Rows.{beside_even, beside_odd}
use Rattle.packet.proofs.path.beside.Goals as goal

pub returns-then-k-eq0 : goal.returns-then-k-eq0
returns-then-k-eq0 c = beside_even c.args.k (omega arith)

pub returns : goal.returns
returns c = beside_odd c.args.k (omega arith)
