-- `packet_compare::walk` meets its contract: what the checks say of both packets, and what the tests tell. Assumes nothing.
use Prim.Native.Nat.{ℕ, ◌+◌}
use mathlib.Core.Path.{◌≡◌, ap, ap₂, ◌∙◌}
use mathlib.Core.List.{List}
use native.Mathlib.Omega.{arith}
use lib.ListN.{length}
use Rattle.byte_strings.specs.Lists.{same_list}
use Rattle.blake2b.specs.Hash.{node_hash}
use Rattle.file_format.specs.Entries.{leaf}
use Rattle.packet.specs.Check.{chunk_length, packet_chunk}
use Rattle.packet.specs.Inner.{entry_of}
use Rattle.packet_compare.specs.Meaning.{walk_of}
use Rattle.packet_compare.proofs.Tells.{Held, held}
use Rattle.packet_compare.proofs.Walks.{framed, chunk_long, said_same, said_leaf, two_climb, said_up}
use Rattle.packet_compare.proofs.walk.Goals as goal

-- where the siblings begin
place : {p x : List ℕ} {n c : ℕ} {root : List ℕ} → Held node_hash p n c root → x ≡ packet_chunk p → 4 + length x + 1 ≡ 4 + chunk_length p + 1
place {p} {n = n} {c} {root} h e = ap (λ (l : List ℕ). 4 + length l + 1) e ∙ ap (λ (x : ℕ). 4 + x + 1) (chunk_long p n c root h)

pub chunk_part-part-requires : goal.chunk_part-part-requires
chunk_part-part-requires c = framed _ _ _ _ (held node_hash _ _ _ _ c.requires.first)

pub chunk_part-part2-requires : goal.chunk_part-part2-requires
chunk_part-part2-requires c = framed _ _ _ _ (held node_hash _ _ _ _ c.requires.second)

pub returns-then-same : goal.returns-then-same
returns-then-same c =
    said_same _ _ _ _ _ (held node_hash _ _ _ _ c.requires.first) (held node_hash _ _ _ _ c.requires.second)
    (λ j. (c.type_inv.first j).fits) (λ j. (c.type_inv.second j).fits) _
    (c.same.ensures ∙ ap₂ same_list c.chunk_part-part.ensures c.chunk_part-part2.ensures) c.if-same.true

pub leaf_index-requires : goal.leaf_index-requires
leaf_index-requires c = let h = held node_hash _ _ _ _ c.requires.first in omega (arith, h.chunk.count, h.chunk.below)

pub returns-then-same-2 : goal.returns-then-same-2
returns-then-same-2 c =
    said_leaf _ _ _ _ _ (held node_hash _ _ _ _ c.requires.first) (held node_hash _ _ _ _ c.requires.second)
    (λ j. (c.type_inv.first j).fits) (λ j. (c.type_inv.second j).fits) _
    (c.same.ensures ∙ ap₂ same_list c.chunk_part-part.ensures c.chunk_part-part2.ensures) c.if-same.false
    (entry_of c.leaf_node-leaf.result) (entry_of c.leaf_node-leaf2.result) (c.leaf_node-leaf.ensures ∙ ap (leaf node_hash) c.chunk_part-part.ensures)
    (c.leaf_node-leaf2.ensures ∙ ap (leaf node_hash) c.chunk_part-part2.ensures) _ c.same-2.ensures c.if-same-2.true c.leaf_index.result.0 c.leaf_index.ensures

pub sibling_count-count-requires : goal.sibling_count-count-requires
sibling_count-count-requires c = (held node_hash _ _ _ _ c.requires.first).chunk

pub climb-requires : goal.climb-requires
climb-requires c =
    let first = held node_hash _ _ _ _ c.requires.first in
    let second = held node_hash _ _ _ _ c.requires.second in
    two_climb _ _ _ _ _ first second (λ j. (c.type_inv.first j).fits) (λ j. (c.type_inv.second j).fits) _
    (c.same.ensures ∙ ap₂ same_list c.chunk_part-part.ensures c.chunk_part-part2.ensures) c.if-same.false
    (entry_of c.leaf_node-leaf.result) (entry_of c.leaf_node-leaf2.result) (c.leaf_node-leaf.ensures ∙ ap (leaf node_hash) c.chunk_part-part.ensures)
    (c.leaf_node-leaf2.ensures ∙ ap (leaf node_hash) c.chunk_part-part2.ensures) _ c.same-2.ensures _ _ _ c.sibling_count-count.ensures.same
    (place first c.chunk_part-part.ensures) (place second c.chunk_part-part2.ensures) c.if-same-2.false

pub returns : goal.returns
returns c =
    let first = held node_hash _ _ _ _ c.requires.first in
    let second = held node_hash _ _ _ _ c.requires.second in
    said_up _ _ _ _ _ first second (λ j. (c.type_inv.first j).fits) (λ j. (c.type_inv.second j).fits) _
    (c.same.ensures ∙ ap₂ same_list c.chunk_part-part.ensures c.chunk_part-part2.ensures) c.if-same.false
    (entry_of c.leaf_node-leaf.result) (entry_of c.leaf_node-leaf2.result) (c.leaf_node-leaf.ensures ∙ ap (leaf node_hash) c.chunk_part-part.ensures)
    (c.leaf_node-leaf2.ensures ∙ ap (leaf node_hash) c.chunk_part-part2.ensures) _ c.same-2.ensures _ _ _ c.sibling_count-count.ensures.same
    (place first c.chunk_part-part.ensures) (place second c.chunk_part-part2.ensures) c.if-same-2.false (walk_of c.climb.result) c.climb.ensures
