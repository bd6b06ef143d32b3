-- `packet_compare::climb` meets its contract. Assumes nothing.
use Prim.Native.Nat.{ℕ}
use mathlib.Core.Path.{sym, ◌∙◌, subst}
use native.Mathlib.Nat.{div-one}
use Rattle.packet.specs.Inner.{entry_of}
use Rattle.packet_compare.proofs.Climbs.{Walking, walking_none, walking_end, step_first, step_second, walking_found, walking_next}
use Rattle.packet_compare.proofs.climb.Goals as goal

-- the chunk is its own block of one
pub loop-j-init : goal.loop-j-init
loop-j-init c =
    let a = c.args in
    subst
    (λ (k : ℕ). Walking a.first.now a.at (entry_of a.leaf) a.second.now a.at2 (entry_of a.leaf2) a.count a.chunk.0 (entry_of a.leaf) (entry_of a.leaf2) k 0)
    (sym (c.block_over-k.ensures ∙ div-one a.chunk.0)) (walking_none _ _ _ _ _ _ _ _ c.requires)

pub above-node-requires : goal.above-node-requires
above-node-requires c = step_first _ _ _ _ _ _ _ _ c.requires _ _ _ _ c.loop-j.invariant c.loop-j-test.true

pub above-node2-requires : goal.above-node2-requires
above-node2-requires c = step_second _ _ _ _ _ _ _ _ c.requires _ _ _ _ c.loop-j.invariant c.loop-j-test.true

pub returns-then-same : goal.returns-then-same
returns-then-same c =
    walking_found _ _ _ _ _ _ _ _ c.requires _ _ _ _ c.loop-j.invariant c.loop-j-test.true
    (entry_of c.above-node.result) (entry_of c.above-node2.result) c.above-node.ensures c.above-node2.ensures
    _ c.same.ensures c.if-same.true c.node_index.result.0 c.node_index.ensures

pub loop-j-preserved : goal.loop-j-preserved
loop-j-preserved c =
    walking_next _ _ _ _ _ _ _ _ c.requires _ _ _ _ c.loop-j.invariant c.loop-j-test.true
    (entry_of c.above-node.result) (entry_of c.above-node2.result) c.above-node.ensures c.above-node2.ensures
    _ c.same.ensures c.if-same.false

pub returns : goal.returns
returns c = walking_end _ _ _ _ _ _ _ _ c.requires _ _ _ _ c.loop-j.invariant c.loop-j-test.false
