-- "A released piece comes back this way too, a register's by lending it as a copy." Whatever packet an accepted register takes in, lent as a copy, it is
-- an accepted register afterwards, with that piece held as the packet's chunk, and nothing else is another.
--
-- The notions in it: `HashFunction` (file_format, Messages), `Register`, `Lent` and `Belongs` (file_format, Belongs), `Slot` and `Within` (file_format, Slots), `Accepted`
-- (audit, Audit), `Imaged` (audit, Theorems), `lent_as_copy` (copy_checks, Copy), `take_verdict` and `taken_in` (copy_take_in, TakeIn), `packet_chunk` (packet, Check),
-- `stored_held`, `stored_known` and `held_again` (bitfield, Release and Known), `to_chunk` (lookup, Lookup), `read_verdict` and `read_part` (lookup, Read).
use Rattle.std.specs.Prelude.{ℕ, ◌<◌, ◌≡◌, true, List, length, set}
use Rattle.answer_types.specs.Verdict.{done}
use Rattle.byte_strings.specs.Lists.{put, Bytes}
use Rattle.tree_index.specs.Tree.{index, entries}
use Rattle.bitfield.specs.Release.{stored_held}
use Rattle.bitfield.specs.Known.{stored_known, held_again}
use Rattle.file_format.specs.Messages.{HashFunction}
use Rattle.file_format.specs.Stored.{stored_size, stored_chunk}
use Rattle.file_format.specs.Slots.{Slot, held, Within}
use Rattle.file_format.specs.Belongs.{Register, Lent, Belongs}
use Rattle.audit.specs.Audit.{Accepted}
use Rattle.audit.specs.Theorems.{Imaged}
use Rattle.lookup.specs.Lookup.{found, place_of}
use Rattle.lookup.specs.Read.{read_verdict, read_part}
use Rattle.packet.specs.Check.{packet_chunk}
use Rattle.copy_checks.specs.Copy.{Copy, lent_as_copy}
use Rattle.copy_take_in.specs.TakeIn.{take_verdict, taken_in}

-- a register whose tree, bitfield and data are those of a copy: its signatures file, its count and its sizes stay
abbrev pub with_files : Register → Copy → Register
with_files r c =
    record { tree = c.tree; signatures = r.signatures; bitfield = c.bitfield; content = c.content; n = r.n; s = r.s; size = r.size }

module _ (F : List ℕ → List ℕ) where
  -- the register that, lent as a copy, has taken in the packet of chunk i
  unfoldable pub returned : Register → List ℕ → ℕ → Register
  returned r p i = with_files r (taken_in F (lent_as_copy r) p i)

  -- what is claimed of an accepted register that has done so
  pub record Returned (r : Register) (p : List ℕ) (i : ℕ) : Type 0 where
    -- it is accepted, in buffers that hold bytes again
    pub accepted : Accepted F (returned r p i)
    pub lent : Lent (returned r p i)
    -- the piece is held, and read as the packet's chunk
    pub holds : stored_held (returned r p i).bitfield i ≡ true
    pub read_done : read_verdict F (returned r p i) i ≡ done
    pub reads : read_part F (returned r p i) i ≡ packet_chunk p
    -- no byte of the tree is another; the bitfield is, but for this data bit and that entry's Index, what it was, and so is the data, but for the bytes of
    -- this chunk, where and as long as the register has it
    pub tree : (returned r p i).tree ≡ r.tree
    pub bitfield : (returned r p i).bitfield ≡ held_again r.bitfield i
    pub start : ℕ
    pub place : place_of r i ≡ found start (stored_size r.tree (index 0 i))
    pub content : (returned r p i).content ≡ put r.content start (packet_chunk p)
    pub size : length (packet_chunk p) ≡ stored_size r.tree (index 0 i)
    -- so every tree bit, and the data bit and the bytes of any other chunk, are as before
    pub known_stay : (j : ℕ) → j < entries r.n → stored_known (returned r p i).bitfield j ≡ stored_known r.bitfield j
    pub held_stay : (j : ℕ) → j < r.n → (j ≡ i → ⊥) → stored_held (returned r p i).bitfield j ≡ stored_held r.bitfield j
    pub chunks_stay : (j : ℕ) → j < r.n → (j ≡ i → ⊥)
        → stored_chunk (returned r p i).tree (returned r p i).content j ≡ stored_chunk r.tree r.content j
    -- in demand 2's words: where it belonged to some chunks, held or released, it belongs to the same with this one held as the packet's chunk
    pub belongs : (ss : List Slot) → Within ss → Belongs F r ss
        → Within (set ss i (held (packet_chunk p))) × Belongs F (returned r p i) (set ss i (held (packet_chunk p)))
    -- with the signatures: all used bytes are the images of these chunks and of the same signatures
    pub images : (ss : List Slot) (sigs : List (List ℕ)) → Imaged F r ss sigs → Imaged F (returned r p i) (set ss i (held (packet_chunk p))) sigs

-- for every function F from byte strings to 32 bytes, every accepted register, and every packet that it takes in, under whatever root hash
abbrev pub ReturnedForAll : Type 0
ReturnedForAll =
    (F : List ℕ → List ℕ) → HashFunction F → (r : Register) → Lent r → Accepted F r → (p : List ℕ) → Bytes p → (i : ℕ) (root : List ℕ)
    → take_verdict F (lent_as_copy r) p i root ≡ done → Returned F r p i
