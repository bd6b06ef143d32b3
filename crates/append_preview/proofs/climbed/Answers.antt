use mathlib.Core.Path.{◌≡◌, ap, ◌∙◌}
use native.Mathlib.Omega.{arith}
use Rattle.tree_index.specs.Tree.{completed}
use Rattle.blake2b.specs.Hash.{node_hash}
use Rattle.writing.specs.Inner.{entry_of, made}
use Rattle.writing.proofs.Climbed.{made_first}
use Rattle.append_preview.proofs.NewRoot.{above_fits, above_made}
use Rattle.append_preview.proofs.climbed.Goals as goal

pub completed-last-requires : goal.completed-last-requires
completed-last-requires c = omega (arith, c.chunk_behind.ensures, c.requires.few)

pub loop-d-init : goal.loop-d-init
loop-d-init c =
    let a = c.args in
    made_first a.tree.now a.n (entry_of a.leaf)

pub above-node-requires : goal.above-node-requires
above-node-requires c =
    let l = c.loop-d in
    above_fits c.args.tree.now c.args.n (entry_of c.args.leaf) l.d (entry_of l.node) c.requires
    (omega (arith, c.loop-d-test.true, c.completed-last.ensures ∙ ap completed c.chunk_behind.ensures)) l.invariant

pub loop-d-preserved : goal.loop-d-preserved
loop-d-preserved c =
    let a = c.args in
    let l = c.loop-d in
    above_made a.tree.now a.n (entry_of a.leaf) l.d (entry_of l.node) (entry_of c.above-node.result) l.invariant c.above-node.ensures

pub returns : goal.returns
returns c =
    let a = c.args in
    let l = c.loop-d in
    let last : l.d ≡ completed a.n =
    omega (arith, c.loop-d.auto.d-end, c.loop-d-test.false, c.completed-last.ensures ∙ ap completed c.chunk_behind.ensures) in
    l.invariant ∙ ap (made node_hash a.tree.now a.n (entry_of a.leaf)) last
