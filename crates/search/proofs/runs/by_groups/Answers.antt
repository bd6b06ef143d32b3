use Prim.Native.Nat.{ℕ, ◌/◌}
use mathlib.Core.Path.{sym, ap, ◌∙◌}
use native.Mathlib.Omega.{arith}
use Rattle.bitfield.specs.Missing.{found_at}
use Rattle.search.specs.Search.{tuple_in, not_missing}
use Rattle.search.proofs.Steps.{group_in, found_here}
use Rattle.search.proofs.runs.by_groups.Goals as goal

pub in_group-requires : goal.in_group-requires
in_group-requires c =
    let a = c.args in
    group_in a.xs.now a.tuples a.from a.end c.requires c.loop-k.k c.min-next.result c.group_tuple-tuple.result c.loop-k.invariant.0
    c.loop-k-test.true (omega arith) (omega arith) (c.group_tuple-tuple.ensures ∙ ap (λ (j : ℕ). tuple_in a.tuples (j / 16)) c.chunk_behind.ensures)

pub returns-in-Some : goal.returns-in-Some
returns-in-Some c =
    let a = c.args in
    sym (ap found_at c.in-Some.is)
    ∙ found_here (not_missing a.xs.now) c.in_group.result a.from c.loop-k.k c.min-next.result a.end (omega arith) (omega arith)
    c.in_group.ensures c.loop-k.invariant.1 c.in-Some.chunk c.in-Some.is
