-- `packet::path::sibling_count` meets its contract. Assumes nothing.
use Prim.Native.Nat.{ℕ, ◌≤◌, ◌<◌}
use lib.ListN.{length, get_or, replicate}
use mathlib.Core.List.{List, ◌++◌}
use Prim.Native.Nat.{◌-◌}
use Rattle.number_types.specs.declared.TreeIndex.{TreeIndex}
use Rattle.tree_index.specs.Tree.{roots}
use Rattle.tree_index.specs.Numbers.{numbers}
use Rattle.lookup.proofs.Capped.{root_of_lem}
use Rattle.packet.specs.Packet.{siblings, place_above}
use Rattle.packet.specs.Inner.{ChunkOf}
use mathlib.Core.Path.{◌≡◌, sym, ap, ◌∙◌, subst}
use native.Mathlib.Omega.{arith}
use Rattle.tree_index.proofs.Roots.{length_roots_le}
use Rattle.packet.proofs.Above.{place_below, sibling_count_lem, few_siblings, root_small}
use Rattle.packet.proofs.path.sibling_count.Goals as goal

-- the root above the chunk, where the array has it
above : (is : List TreeIndex) (n c : ℕ) {j : ℕ} → ChunkOf n c → numbers is ≡ roots n ++ replicate (20 - length (roots n)) 0 → j ≡ place_above (roots n) c
    → (j < length (roots n)) × ((get_or is j (record { 0 = 0 })).0 ≡ get_or (roots n) j 0)
above is n c {j} h e f =
    let l : j < length (roots n) = subst (λ (x : ℕ). x < length (roots n)) (sym f) (place_below n c h) in
    (l, root_of_lem is n j e l)

pub offset_bounds-indexes-place : goal.offset_bounds-indexes-place
offset_bounds-indexes-place c = omega (arith, c.root_place-place.ensures, place_below c.args.n c.args.chunk.0 c.requires, length_roots_le c.args.n c.requires.count)

pub bounds-indexes-place : goal.bounds-indexes-place
bounds-indexes-place c = omega (arith, c.root_place-place.ensures, place_below c.args.n c.args.chunk.0 c.requires, length_roots_le c.args.n c.requires.count)

pub depth-requires : goal.depth-requires
depth-requires c = root_small c.requires.count (above _ _ _ c.requires c.root_indexes-indexes.ensures c.root_place-place.ensures)

pub returns : goal.returns
returns c =
    let a = c.args in
    let q = c.root_place-place in
    let e : c.depth.result ≡ length (siblings a.n a.chunk.0) =
    c.depth.ensures ∙ sibling_count_lem a.n a.chunk.0 (get_or c.root_indexes-indexes.result q.result (record { 0 = 0 })).0
    ((above _ _ _ c.requires c.root_indexes-indexes.ensures q.ensures).1 ∙ ap (λ (j : ℕ). get_or (roots a.n) j 0) q.ensures) in record {
      same = e;
      few = subst (λ (x : ℕ). x ≤ 20) (sym e) (few_siblings a.n a.chunk.0 c.requires);
    }
