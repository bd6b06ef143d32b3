-- `writing::appending::put_node` meets its contract. Assumes nothing.
use Prim.Native.Nat.{ℕ, ◌+◌, ◌-◌, ◌/◌, ◌^◌, ◌≤◌, ◌<◌}
use mathlib.Core.Path.{sym, ap, subst, ◌∙◌}
use Rattle.tree_index.specs.Tree.{index, completed}
use Rattle.writing.proofs.Stored.{place_in_lem, node_put}
use Rattle.writing.proofs.appending.put_node.Goals as goal

-- the node of 2^d chunks that ends with a chunk
abbrev ending : ℕ → ℕ → ℕ
ending d n = index d ((n + 1) / 2 ^ d - 1)

pub node_ending-i-requires : goal.node_ending-i-requires
node_ending-i-requires c = subst (λ (m : ℕ). (m < 1048576) × (c.args.d ≤ completed m)) (sym c.chunk_behind.ensures) (c.requires.few, c.requires.depth)

pub write_entry-requires : goal.write_entry-requires
write_entry-requires c =
    let a = c.args in
    place_in_lem a.tree.now a.n a.d _ c.requires.few c.requires.depth c.requires.room
    (c.node_ending-i.ensures ∙ ap (ending a.d) c.chunk_behind.ensures)

pub returns : goal.returns
returns c =
    let a = c.args in
    node_put a.tree.now _ a.node.hash a.n a.d a.node.size _ (c.node_ending-i.ensures ∙ ap (ending a.d) c.chunk_behind.ensures)
    c.write_entry.ensures
