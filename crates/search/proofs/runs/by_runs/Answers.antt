use mathlib.Core.Path.{sym, ap, ◌∙◌}
use native.Mathlib.Omega.{arith}
use Rattle.bitfield.specs.Missing.{found_at}
use Rattle.search.specs.Search.{not_missing}
use Rattle.search.proofs.Steps.{run_in, found_here}
use Rattle.search.proofs.runs.by_runs.Goals as goal

pub in_run-requires : goal.in_run-requires
in_run-requires c =
    let a = c.args in
    let k = c.loop-k.k in
    (omega arith, run_in a.xs.now a.n k c.min-next.result c.requires.0 c.requires.1 (omega arith) (omega arith))

pub returns-in-Some : goal.returns-in-Some
returns-in-Some c =
    let a = c.args in
    sym (ap found_at c.in-Some.is)
    ∙ found_here (not_missing a.xs.now) c.in_run.result a.from c.loop-k.k c.min-next.result a.n (omega arith) (omega arith)
    c.in_run.ensures c.loop-k.invariant c.in-Some.chunk c.in-Some.is
