-- The audit: 2 to 6, then 10 at the lowest wrong tree index, then 11 at the lowest wrong byte of the bitfield file.
use Rattle.std.specs.Prelude.{ℕ, zero, suc, ◌+◌, ◌-◌, ◌*◌, ◌≡◌, Bool, cond, ◌&&◌, List, get_or, leb, ltb, eqb}
use Rattle.answer_types.specs.Verdict.{Spot, Verdict, tree, bitfield, done, refused}
use Rattle.byte_strings.specs.Lists.{part, same_list, all_zero, zeros}
pub use Rattle.byte_strings.specs.Lowest.{Lowest, nowhere, first}
unfoldable pub use Rattle.byte_strings.specs.Lowest.{lowest}
use Rattle.tree_index.specs.Tree.{depth, block, left_child, right_child, filled, entries}
use Rattle.bitfield.specs.Release.{stored_held}
use Rattle.file_format.specs.Sizes.{longest_chunk, entry_place, used_bitfield}
use Rattle.file_format.specs.Messages.{leaf_message, parent_message}
use Rattle.file_format.specs.Stored.{stored_hash, stored_size, stored_start}
use Rattle.file_format.specs.Belongs.{Register}
use Rattle.checks.specs.Checks.{judged, register_checks}
use Rattle.file_format.specs.Images.{bitfield_of}

module _ (F : List ℕ → List ℕ) where
  -- the leaf at i, whose data begin at `start`, "is wrong if it is over 65,536, runs past the data or has another hash"; the audit "takes the leaf entry of a
  -- released chunk as right if its length is at most 65,536, it doesn't run past the data and its data bytes are zero"
  unfoldable pub leaf_from : List ℕ → List ℕ → ℕ → Bool → ℕ → ℕ → Bool
  leaf_from t content size held i start =
      leb (stored_size t i) longest_chunk
      && (leb (start + stored_size t i) size
      && cond held (same_list (stored_hash t i) (F (leaf_message (part content start (stored_size t i))))) (all_zero (part content start (stored_size t i))))

  -- "a leaf starts at the sum of the leaf lengths before it"
  abbrev pub leaf_right : List ℕ → List ℕ → ℕ → Bool → ℕ → Bool
  leaf_right t content size held k = leaf_from t content size held (2 * k) (stored_start t k)

  -- "a parent if it doesn't follow from its stored children, sums taken in whole numbers"
  unfoldable pub parent_right : List ℕ → ℕ → Bool
  parent_right t i =
      eqb (stored_size t i) (stored_size t (left_child i) + stored_size t (right_child i))
      && same_list (stored_hash t i)
      (F (parent_message (stored_size t (left_child i) + stored_size t (right_child i)) (stored_hash t (left_child i))
      (stored_hash t (right_child i))))

  -- "a hole if it isn't zero"
  unfoldable pub hole_right : List ℕ → ℕ → Bool
  hole_right t i = same_list (part t (entry_place i) 40) (zeros 40)

  -- whether the tree entry i of a register of n chunks is right. A chunk is held where its stored data bit is 1
  unfoldable pub entry_right : List ℕ → List ℕ → List ℕ → ℕ → ℕ → ℕ → Bool
  entry_right t bits content n size i =
      cond (filled n i)
      (elim (depth i) [ zero ↦ leaf_right t content size (stored_held bits (block i)) (block i) | suc d ↦ parent_right t i ])
      (hole_right t i)

  -- "10. .. the audit finds a wrong tree entry; the place is the tree index, the lowest for the audit."
  unfoldable pub wrong_entry : Register → Lowest
  wrong_entry r = lowest (entry_right r.tree r.bitfield r.content r.n r.size) 0 (entries r.n)

-- "The audit now lets data bits below n be 0": which of n chunks are held is what the stored data bits say, and none from n on is
unfoldable pub held_bits : List ℕ → ℕ → ℕ → Bool
held_bits xs n k = ltb k n && stored_held xs k

-- whether the byte b of the bitfield file of n chunks is right, where those tree entries are known that a test says: all its other bits, and the
-- Index, follow from those
unfoldable pub byte_right_by : (ℕ → Bool) → List ℕ → ℕ → ℕ → Bool
byte_right_by known xs n b = eqb (get_or xs b 0) (get_or (bitfield_of (held_bits xs n) known n) b 0)

-- of a register, which knows every entry that is no hole
abbrev pub byte_right : List ℕ → ℕ → ℕ → Bool
byte_right xs n = byte_right_by (filled n) xs n

-- "11. The audit finds a wrong bitfield byte; the place is the lowest." The header's 32 bytes are judged by 5
unfoldable pub wrong_byte : Register → Lowest
wrong_byte r = lowest (byte_right r.bitfield r.n) 32 (used_bitfield r.n - 32)

-- a refusal with the number m at the place that was found, or what comes next
unfoldable pub refused_at : ℕ → (ℕ → Spot) → Lowest → Verdict → Verdict
refused_at m at nowhere next = next
refused_at m at (first i) next = refused m (at i)

module _ (F : List ℕ → List ℕ) where
  -- 10 and then 11, of a register that passes the checks 2 to 6
  unfoldable pub images_verdict : Register → Verdict
  images_verdict r = refused_at 10 tree (wrong_entry F r) (refused_at 11 bitfield (wrong_byte r) done)

  unfoldable pub audit : Register → Verdict
  audit r = judged (register_checks r) (images_verdict r)

  -- "A register is accepted when the audit answers done."
  abbrev pub Accepted : Register → Type 0
  Accepted r = audit r ≡ done
