-- The chunks of a register as it has them: held, or released.
use Rattle.std.specs.Prelude.{ℕ, ◌≤◌, ◌≡◌, Bool, true, false, List, [], map, length, get_or}
use Rattle.byte_strings.specs.Lists.{zeros, Bytes}
use Rattle.file_format.specs.Sizes.{most_chunks, longest_chunk}
use Rattle.file_format.specs.Entries.{Entry, leaf}

-- a chunk that is held, or one that was released, of which the leaf entry is left: "the leaf entry of a released chunk counts as handed in"
pub data Slot : Type 0 where
  held : List ℕ → Slot
  released : Entry → Slot

-- its data bit
abbrev pub is_held : Slot → Bool
is_held (held c) = true
is_held (released e) = false

-- its bytes in the data file: "zeros for their data, and the held chunks"
abbrev pub slot_bytes : Slot → List ℕ
slot_bytes (held c) = c
slot_bytes (released e) = zeros e.size

-- its leaf entry: that of the chunk's rule, or the one handed in
abbrev pub slot_entry : (List ℕ → List ℕ) → Slot → Entry
slot_entry F (held c) = leaf F c
slot_entry F (released e) = e

-- a chunk sequence, all of it held
unfoldable pub all_held : List (List ℕ) → List Slot
all_held cs = map held cs

-- the bytes of each slot
unfoldable pub contents : List Slot → List (List ℕ)
contents ss = map slot_bytes ss

-- whether chunk k is held; none behind the last is
unfoldable pub held_in : List Slot → ℕ → Bool
held_in ss k = get_or (map is_held ss) k false

-- "with any hash": of 32 bytes
abbrev pub Handed : Slot → Type 0
Handed (held c) = Unit {0}
Handed (released e) = (length e.hash ≡ 32) × Bytes e.hash

-- "a chunk sequence (at most 1,048,576 chunks, each of at most 65,536 bytes)", and of a released chunk "any length that the audit takes"
pub record Within (ss : List Slot) : Type 0 where
  pub count : length ss ≤ most_chunks
  pub short : (k : ℕ) → length (get_or (contents ss) k []) ≤ longest_chunk
  pub bytes : (k : ℕ) → Bytes (get_or (contents ss) k [])
  pub handed : (k : ℕ) → Handed (get_or ss k (held []))
