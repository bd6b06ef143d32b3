use Prim.Native.Nat.{ℕ, ◌+◌, ◌<◌}
use mathlib.Core.Path.{◌≡◌, ap, ◌∙◌, subst}
use native.Mathlib.Omega.{arith}
use borrow.Author.Rules.{rules}
use Rattle.tree_index.specs.Tree.{completed}
use Rattle.blake2b.specs.Hash.{node_hash}
use Rattle.writing.specs.Inner.{entry_of, made}
use Rattle.writing.proofs.Climbed.{made_first, Going, going_none, going_step, going_all, above_made, above_fits}
use Rattle.writing.proofs.appending.write_filled.Goals as goal

-- how many parents the chunk completes, as the code counted them
parents : {n chunk last : ℕ} → last ≡ completed chunk → chunk ≡ n → last ≡ completed n
parents q e = q ∙ ap completed e

pub loop-d-init : goal.loop-d-init
loop-d-init c = (made_first c.args.tree.now c.args.n (entry_of c.args.leaf), going_none)

pub put_node-requires : goal.put_node-requires
put_node-requires c =
    let last = parents c.completed-last.ensures c.chunk_behind.ensures in
    record { few = c.requires.few; depth = omega (arith, c.loop-d-test.true, last); room = omega (arith, c.requires.room, c.loop-d.invariant.1.long) }

pub above-node-requires : goal.above-node-requires
above-node-requires c =
    let last = parents c.completed-last.ensures c.chunk_behind.ensures in
    let below : c.loop-d.d < completed c.args.n = omega (arith, c.loop-d-test.true, last) in
    let step : Going c.args.tree.now c.args.n (entry_of c.args.leaf) (c.loop-d.d + 1) c.put_node.new.tree =
    going_step c.loop-d.invariant.1 c.requires.few (omega (arith, below)) c.requires.room (search rules) c.loop-d.invariant.0 c.put_node.ensures in
    record {
      few = c.requires.few;
      depth = below;
      room = omega (arith, c.requires.room, step.long);
      sum = above_fits c.loop-d.d c.requires.few below c.requires.sum step c.loop-d.invariant.0;
    }

pub loop-d-preserved : goal.loop-d-preserved
loop-d-preserved c =
    let last = parents c.completed-last.ensures c.chunk_behind.ensures in
    let below : c.loop-d.d < completed c.args.n = omega (arith, c.loop-d-test.true, last) in
    let step : Going c.args.tree.now c.args.n (entry_of c.args.leaf) (c.loop-d.d + 1) c.put_node.new.tree =
    going_step c.loop-d.invariant.1 c.requires.few (omega (arith, below)) c.requires.room (search rules) c.loop-d.invariant.0 c.put_node.ensures in
    (above_made c.loop-d.d c.requires.few below step c.loop-d.invariant.0 c.above-node.ensures, step)

pub put_node-requires-2 : goal.put_node-requires-2
put_node-requires-2 c =
    let last = parents c.completed-last.ensures c.chunk_behind.ensures in
    record { few = c.requires.few; depth = omega (arith, last); room = omega (arith, c.requires.room, c.loop-d.invariant.1.long) }

pub returns : goal.returns
returns c =
    let last = parents c.completed-last.ensures c.chunk_behind.ensures in
    let end : c.loop-d.d ≡ c.completed-last.result = omega (arith, c.loop-d.auto.d-end, c.loop-d-test.false) in
    going_all c.completed-last.result last
    (going_step (subst (λ (d : ℕ). Going c.args.tree.now c.args.n (entry_of c.args.leaf) d c.loop-d.tree) end c.loop-d.invariant.1) c.requires.few (omega (arith, last)) c.requires.room (search rules)
    (c.loop-d.invariant.0 ∙ ap (made node_hash c.args.tree.now c.args.n (entry_of c.args.leaf)) end) c.put_node-2.ensures)
