-- `copy_take_in::way::way_of` meets its contract. Assumes nothing.
use Prim.Native.Nat.{ℕ, ◌<◌}
use mathlib.Core.Path.{refl, sym, subst}
use lib.ListN.{length}
use Rattle.tree_index.specs.Tree.{roots}
use Rattle.packet.proofs.Above.{place_below}
use Rattle.copy_take_in.proofs.Paths.{way_is}
use Rattle.copy_take_in.proofs.way.way_of.Goals as goal

pub other_indexes-roots-requires : goal.other_indexes-roots-requires
other_indexes-roots-requires c = (
  c.requires.count,
  subst (λ (x : ℕ). x < length (roots c.args.n)) (sym c.root_place-place.ensures) (place_below c.args.n c.args.chunk.0 c.requires),
)

pub returns : goal.returns
returns c =
    way_is c.args.n c.args.chunk.0 _ c.sibling_count-count.result c.root_place-place.result c.requires
    c.sibling_count-count.ensures.same refl c.above_indexes-above.ensures c.sibling_indexes-beside.ensures
    c.other_count-others.ensures.same c.root_place-place.ensures c.other_indexes-roots.ensures
