-- `writing::appending::store` meets its contract. Assumes nothing.
use Prim.Native.Nat.{ℕ, ◌+◌, ◌/◌, ◌≤◌, ◌<◌}
use mathlib.Core.Path.{refl, sym, ap, subst, ◌∙◌}
use lib.ListN.{length}
use Rattle.bitfield.specs.Append.{bits_place, appended}
use Rattle.writing.proofs.Stored.{bits_room, filled_fits, store_post}
use Rattle.writing.proofs.appending.store.Goals as goal

pub add_leaf-requires : goal.add_leaf-requires
add_leaf-requires c = filled_fits c.args.tree.now c.args.bitfield.now c.args.content.now c.args.chunk.now c.args.n c.args.size c.requires c.well_formed.1.1.0.0

pub append_bits-requires : goal.append_bits-requires
append_bits-requires c =
    subst (λ (m : ℕ). (m < 1048576) × (bits_place (m / 8192 + 1) ≤ length c.args.bitfield.now)) (sym c.chunk_behind.ensures)
    (c.requires.few, bits_room c.args.bitfield.now c.args.n c.requires.bitfield)

pub returns : goal.returns
returns c =
    let a = c.args in
    store_post a.tree.now a.bitfield.now a.content.now _ _ _ a.chunk.now _ _ a.n a.size _ c.requires refl
    c.copy_to.ensures c.leaf_hash-hash.ensures c.add_leaf.ensures
    (c.append_bits.ensures ∙ ap (appended a.bitfield.now) c.chunk_behind.ensures) c.stored_root_hash.ensures
