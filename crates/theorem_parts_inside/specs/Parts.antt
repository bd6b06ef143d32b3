-- The part of the data that a place lookup or a read names, on a register and on a copy, lies within the buffer that was lent, whatever the images hold and whether an
-- audit accepted them or not. So a caller may follow it. Of the short places it is not so: they add up leaf lengths that nothing compares with the data size.
--
-- The notions in it: `Register` (file_format, Belongs), `place_of` (lookup, Lookup), `read_found` (lookup, Meaning), `Copy` (copy_checks, Copy), `copy_place_of` (copy_lookup,
-- Lookups), `copy_read_found` (copy_lookup, Reading). The chunk's part of a packet: `PartStaysInside` (packet, Theorems).
use Rattle.std.specs.Prelude.{ℕ, ◌+◌, ◌≤◌, ◌≡◌, List, length}
use Rattle.file_format.specs.Belongs.{Register}
use Rattle.lookup.specs.Lookup.{Found, found, place_of}
use Rattle.lookup.specs.Read.{read_found}
use Rattle.copy_checks.specs.Copy.{Copy}
use Rattle.copy_lookup.specs.Lookups.{copy_place_of}
use Rattle.copy_lookup.specs.Reading.{copy_read_found}

-- from a start to an end, in data of this size that stand at the front of a buffer
pub record Inside (start end size : ℕ) (content : List ℕ) : Type 0 where
  pub ordered : start ≤ end
  pub used : end ≤ size
  pub lent : size ≤ length content

-- a place is a start and a length, what a read finds a start and an end
abbrev pub PlaceInside : Found → ℕ → List ℕ → Type 0
PlaceInside f size content = (start long : ℕ) → found start long ≡ f → Inside start (start + long) size content

abbrev pub ReadInside : Found → ℕ → List ℕ → Type 0
ReadInside f size content = (start end : ℕ) → found start end ≡ f → Inside start end size content

pub record PartsInside (F : List ℕ → List ℕ) : Type 0 where
  pub place : (r : Register) (i : ℕ) → PlaceInside (place_of r i) r.size r.content
  pub read : (r : Register) (i : ℕ) → ReadInside (read_found F r i) r.size r.content
  pub copy_place : (c : Copy) (i : ℕ) → PlaceInside (copy_place_of c i) c.size c.content
  pub copy_read : (c : Copy) (i : ℕ) → ReadInside (copy_read_found F c i) c.size c.content

-- whatever function stands in for BLAKE2b
abbrev pub PartsInsideForAll : Type 0
PartsInsideForAll = (F : List ℕ → List ℕ) → PartsInside F
