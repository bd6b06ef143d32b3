-- What the bitfield file of a register says that belongs to chunks, held or released.
-- Assumes nothing.
use Prim.Native.Nat.{ℕ, ◌*◌, ◌≤◌, ◌<◌}
use mathlib.Core.Path.{◌≡◌, ap}
use mathlib.Core.List.{List}
use native.Mathlib.Omega.{arith}
use lib.ListN.{length, take, length-take}
use Rattle.byte_strings.specs.Lists.{part}
use Rattle.bitfield.specs.Image.{entry_count, entries_of}
use Rattle.bitfield.specs.Release.{stored_held}
use Rattle.bitfield.proofs.Release.{held_image}
use Rattle.file_format.specs.Headers.{bitfield_header}
use Rattle.file_format.specs.Sizes.{used_bitfield}
use Rattle.file_format.specs.Slots.{Slot, held_in}
use Rattle.file_format.specs.Belongs.{Register, Belongs}
use Rattle.file_format.proofs.OfImage.{bitfield_header_length, bitfield_image_length}
use Rattle.file_format.proofs.ToImage.{header_cut}
use Rattle.file_format.specs.Images.{bitfield_image, bitfield_of}

-- a list is as long as its front
pub front_long : (xs ys : List ℕ) (m : ℕ) → take m xs ≡ ys → length ys ≡ m → m ≤ length xs
front_long xs ys m e l = omega (arith, length-take m xs, ap length e)

module _ (F : List ℕ → List ℕ) (ss : List Slot) (r : Register) (b : Belongs F r ss) where
  pub bits_room : used_bitfield r.n ≤ length r.bitfield
  bits_room = front_long r.bitfield (bitfield_image (held_in ss) r.n) (used_bitfield r.n) b.bitfield (bitfield_image_length (held_in ss) r.n)

  pub bits_cut : (take 32 r.bitfield ≡ bitfield_header) × (part r.bitfield 32 (3328 * entry_count r.n) ≡ entries_of (held_in ss) r.n)
  unfolding used_bitfield bitfield_of
  bits_cut =
      header_cut r.bitfield bitfield_header (entries_of (held_in ss) r.n) 32 (3328 * entry_count r.n) bitfield_header_length (omega (arith, bits_room)) b.bitfield

  -- the stored data bits are those of the chunks that are held
  pub stored_held_lem : (k : ℕ) → k < r.n → stored_held r.bitfield k ≡ held_in ss k
  unfolding used_bitfield
  stored_held_lem = held_image r.bitfield (held_in ss) r.n bits_room bits_cut.1
