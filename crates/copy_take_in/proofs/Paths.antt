-- Laws of the way up and of its row. Assumes nothing.
use Prim.Native.Nat.{ℕ, ◌-◌}
use mathlib.Core.Path.{◌≡◌, sym, ap, ap₂, ◌∙◌}
use lib.ListN.{length}
use Rattle.tree_index.specs.Tree.{roots}
use Rattle.tree_index.specs.Numbers.{numbers}
use Rattle.file_format.specs.RootsByValue.{padded}
use Rattle.packet.specs.Packet.{siblings, other_roots, place_above}
use Rattle.packet.specs.Inner.{ChunkOf, sibling_row, other_row}
use Rattle.packet.proofs.Above.{other_count_lem}
use Rattle.packet.proofs.Rows.{siblings_row, others_row}
use Rattle.copy_take_in.specs.Inner.{above_row, WayOf}
use Rattle.copy_take_in.specs.declared.way.Way.{Way}

-- ---- lists

-- ---- the way

pub way_is : (n c : ℕ) (w : Way) (count place : ℕ) → ChunkOf n c → count ≡ length (siblings n c) → w.up ≡ count
    → numbers w.above ≡ padded 0 count (above_row c count) → numbers w.beside ≡ padded 0 count (sibling_row c count)
    → w.others ≡ length (other_roots n c) → place ≡ place_above (roots n) c
    → numbers w.roots ≡ padded 0 (length (roots n) - 1) (other_row (roots n) place (length (roots n) - 1)) → WayOf n c w
way_is n c w count place h e u a b o p r =
    record {
      up = u ∙ e;
      above = a ∙ ap (λ (k : ℕ). padded 0 k (above_row c k)) e;
      beside = b ∙ ap₂ (padded 0) e (siblings_row n c count e);
      others = o;
      roots = r ∙ ap₂ (padded 0) (sym (other_count_lem n c h)) (others_row n c place h p);
    }
