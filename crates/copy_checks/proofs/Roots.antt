-- Where the tree bits of a copy's entries lie, and the roots in the code's array. Assumes nothing.
use Prim.Native.Nat.{ℕ, ◌+◌, ◌/◌, ◌≤◌, ◌<◌}
use mathlib.Core.Path.{◌≡◌, sym, subst}
use mathlib.Core.List.{List}
use lib.ListN.{length, get_or}
use Rattle.tree_index.specs.Tree.{roots}
use Rattle.tree_index.proofs.Roots.{root_filled}
use Rattle.bitfield.specs.Append.{bits_place}
use Rattle.audit.specs.BitfieldEntries.{BitsIn}
pub use Rattle.audit.proofs.Bytes.{tree_bit}

pub root_bit : (bits : List ℕ) (n j : ℕ) {i : ℕ} → BitsIn bits n → (j < length (roots n)) × (i ≡ get_or (roots n) j 0) → bits_place (i / 16384 + 1) ≤ length bits
root_bit bits n j b a =
    subst (λ (i : ℕ). bits_place (i / 16384 + 1) ≤ length bits) (sym a.1) (tree_bit bits n (get_or (roots n) j 0) b (root_filled n j a.0))
