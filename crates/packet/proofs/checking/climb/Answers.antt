use Prim.Native.Nat.{ℕ}
use mathlib.Core.Path.{ap, ◌∙◌}
use native.Mathlib.Nat.{div-one}
use Rattle.blake2b.specs.Hash.{node_hash}
use Rattle.file_format.specs.Entries.{entry_bytes}
use Rattle.packet.specs.Check.{entries_in, steps_above}
use Rattle.packet.specs.Inner.{entry_of, climbed, path_row}
use Rattle.packet.proofs.Climb.{climbing_fits, climbing_end}
use Rattle.packet.proofs.Rising.{rising_none, rising_next, rising_end}
use Rattle.packet.proofs.checking.climb.Goals as goal

pub loop-j-init : goal.loop-j-init
loop-j-init c =
    rising_none node_hash c.args.packet.now c.args.at c.args.count c.block_over-k.result
    (entry_of c.args.leaf) c.requires

pub step_up-node-requires : goal.step_up-node-requires
step_up-node-requires c =
    climbing_fits node_hash c.args.packet.now c.args.at c.args.count c.block_over-k.result c.loop-j.k
    (entry_of c.args.leaf) (entry_of c.loop-j.node) c.loop-j.j c.loop-j.invariant.climbing
    c.loop-j-test.true (entry_of c.entry_node-beside.result) c.entry_node-beside.ensures

pub loop-j-preserved : goal.loop-j-preserved
unfolding entry_bytes
loop-j-preserved c =
    rising_next node_hash c.args.packet.now c.args.at c.args.count c.block_over-k.result (entry_of c.args.leaf) c.loop-j.k
    (entry_of c.loop-j.node) c.loop-j.j c.loop-j.row c.loop-j.invariant
    (entry_of c.entry_node-beside.result) (entry_of c.step_up-node.result) c.put_entry.new.row c.loop-j-test.true c.requires.row.few
    c.entry_node-beside.ensures c.step_up-node.ensures c.put_entry.ensures.placed
    c.put_entry.ensures.whole c.put_entry.auto.row

pub returns : goal.returns
returns c =
    let a = c.args in
    let l = c.loop-j in
    let first = c.block_over-k.ensures ∙ div-one a.chunk.0 in record {
      above = climbing_end node_hash a.packet.now a.at a.count c.block_over-k.result l.k (entry_of a.leaf) (entry_of l.node) l.j
          l.invariant.climbing c.loop-j-test.false
          ∙ ap (λ (k : ℕ). climbed node_hash k (entry_of a.leaf) (entries_in a.packet.now a.at a.count)) first;
      passed = rising_end node_hash a.packet.now a.at a.count c.block_over-k.result (entry_of a.leaf) l.k (entry_of l.node) l.j
          l.row l.invariant c.loop-j-test.false
          ∙ ap (λ (k : ℕ). path_row (steps_above node_hash 0 k (entry_of a.leaf) (entries_in a.packet.now a.at a.count))) first;
    }
