-- A register, and the chunks, held or released, that it belongs to.
use Rattle.std.specs.Prelude.{ℕ, ◌≡◌, List, length, take}
use Rattle.byte_strings.specs.Lists.{Bytes}
use Rattle.file_format.specs.Sizes.{used_tree, used_bitfield}
use Rattle.file_format.specs.Slots.{Slot, contents, held_in}
use Rattle.file_format.specs.Images.{data_size, data_image, tree_image, bitfield_image}

-- "A call on a register is lent its four images and told n, the signature count s and the data size."
pub record Register : Type 0 where
  pub tree : List ℕ
  pub signatures : List ℕ
  pub bitfield : List ℕ
  pub content : List ℕ
  pub n : ℕ
  pub s : ℕ
  pub size : ℕ

-- the four buffers alone
pub record Buffers : Type 0 where
  pub tree : List ℕ
  pub signatures : List ℕ
  pub bitfield : List ℕ
  pub content : List ℕ

abbrev pub buffers_of : Register → Buffers
buffers_of r = record { tree = r.tree; signatures = r.signatures; bitfield = r.bitfield; content = r.content }

-- lent buffers hold bytes
pub record Lent (r : Register) : Type 0 where
  pub tree : Bytes r.tree
  pub signatures : Bytes r.signatures
  pub bitfield : Bytes r.bitfield
  pub content : Bytes r.content

-- "It belongs to a chunk sequence .. when n is the number of its chunks, the data size is the sum of their lengths, and the
-- used tree, bitfield and data bytes are this document's images for it." With released chunks "the image is the one that these entries, zeros for
-- their data, and the held chunks give"; it belongs to a chunk sequence cs where it belongs to `all_held cs`.
pub record Belongs (F : List ℕ → List ℕ) (r : Register) (ss : List Slot) : Type 0 where
  pub count : r.n ≡ length ss
  pub total : r.size ≡ data_size (contents ss)
  pub tree : take (used_tree r.n) r.tree ≡ tree_image F ss
  pub bitfield : take (used_bitfield r.n) r.bitfield ≡ bitfield_image (held_in ss) r.n
  pub content : take r.size r.content ≡ data_image (contents ss)
