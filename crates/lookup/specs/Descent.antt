-- "Both lookups walk from a root down .. through stored lengths."; in a copy "20 another call on such a copy that would read an unknown entry, which is the
-- place: a root, from the left, just before 6; any other in 10's turn when the call comes to it, a left child before the right".
use Rattle.std.specs.Prelude.{ℕ, zero, suc, ◌+◌, ◌*◌, ◌^◌, Bool, true, false, List, [], ◌∷◌, leb, ltb, eqb}
use Rattle.tree_index.specs.Tree.{index, depth, block, roots}
use Rattle.file_format.specs.Sizes.{longest_chunk}
use Rattle.file_format.specs.Stored.{stored_size}

-- where a descent ends: it stops at a tree index, comes to the leaf of a chunk, whose bytes begin at a start, or would read an unknown entry
pub data Ending : Type 0 where
  stopped : ℕ → Ending
  reached : ℕ → ℕ → Ending
  unknown : ℕ → Ending

-- an entry is read: a descent goes on only where it is known
abbrev pub if_known : Bool → ℕ → Ending → Ending
if_known true i next = next
if_known false i next = unknown i

-- in a register every entry is known
abbrev pub always : ℕ → Bool
always i = true

-- whether what is sought lies in the block k of 2^d chunks or before it, where the block's bytes begin at `start` and there are `size` of
-- them: for a chunk number and for a byte offset
unfoldable pub chunk_within : ℕ → ℕ → ℕ → ℕ → ℕ → Bool
chunk_within c d k start size = ltb c ((k + 1) * 2 ^ d)

unfoldable pub byte_within : ℕ → ℕ → ℕ → ℕ → ℕ → Bool
byte_within b d k start size = ltb b (start + size)

module _ (known : ℕ → Bool) (within : ℕ → ℕ → ℕ → ℕ → Bool) (t : List ℕ) where
  -- from the block k of 2^d chunks, whose bytes begin at `start`, down to a leaf: of a parent the left child is read, then the right one, and then the sum is
  -- judged. "Lookups stop at a visited parent whose length isn't the sum of its children's, or a visited leaf above 65,536."
  unfoldable pub descend : ℕ → ℕ → ℕ → Ending
  descend zero k start =
      elim (leb (stored_size t (index 0 k)) longest_chunk) [ true ↦ reached k start | false ↦ stopped (index 0 k) ]
  descend (suc d) k start =
      if_known (known (index d (2 * k))) (index d (2 * k))
      (if_known (known (index d (2 * k + 1))) (index d (2 * k + 1))
      (elim
      (eqb (stored_size t (index (suc d) k)) (stored_size t (index d (2 * k)) + stored_size t (index d (2 * k + 1)))) [
        | true ↦ elim (within d (2 * k) start (stored_size t (index d (2 * k))))
            [ true ↦ descend d (2 * k) start | false ↦ descend d (2 * k + 1) (start + stored_size t (index d (2 * k))) ]
        | false ↦ stopped (index (suc d) k)
      ]))

  -- from the first of the roots that has what is sought; each root up to it is read, and those before it are not visited. What is sought lies under some
  -- root, so the list does not run out
  unfoldable pub from_roots : List ℕ → ℕ → Ending
  from_roots [] start = stopped 0
  from_roots (i ∷ is) start =
      if_known (known i) i
      (elim (within (depth i) (block i) start (stored_size t i))
      [ true ↦ descend (depth i) (block i) start | false ↦ from_roots is (start + stored_size t i) ])

  -- among the roots of n chunks
  unfoldable pub descent : ℕ → Ending
  descent n = from_roots (roots n) 0
