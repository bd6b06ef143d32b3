-- Demand 2, of the audit: it "accepts buffers exactly when their used bytes are such images", which are those "for the chunk
-- sequence and the signatures handed in"; "the leaf entry of a released chunk counts as handed in".
--
-- The notions in it: `HashFunction` (file_format, Messages), `Slot` and `Within` (file_format, Slots), `Register`, `Lent` and `Belongs` (file_format, Belongs),
-- `signatures_image` (file_format, Images), `used_signatures` (file_format, Sizes), `Accepted` (Audit).
use Rattle.std.specs.Prelude.{ℕ, ◌+◌, ◌<◌, ◌≡◌, ◌⊎◌, ◌↔◌, List, [], length, get_or, take}
use Rattle.file_format.specs.Sizes.{used_signatures}
use Rattle.file_format.specs.Messages.{HashFunction}
use Rattle.file_format.specs.Images.{signatures_image}
use Rattle.file_format.specs.Slots.{Slot, Within}
use Rattle.file_format.specs.Belongs.{Register, Lent, Belongs}
use Rattle.audit.specs.Audit.{Accepted}

-- the used bytes of a register are the images of the chunks ss, held or released, within the limits, and of the signatures sigs
pub record Imaged (F : List ℕ → List ℕ) (r : Register) (ss : List Slot) (sigs : List (List ℕ)) : Type 0 where
  pub within : Within ss
  -- the tree, the bitfield and the data, with n and the data size
  pub belongs : Belongs F r ss
  -- as many signatures as chunks, or one less
  pub signed : (r.s ≡ r.n) ⊎ (r.s + 1 ≡ r.n)
  pub count : length sigs ≡ r.s
  -- of 64 bytes each
  pub each : (k : ℕ) → k < length sigs → length (get_or sigs k []) ≡ 64
  pub signatures : take (used_signatures r.s) r.signatures ≡ signatures_image sigs

pub record AuditExact (F : List ℕ → List ℕ) : Type 0 where
  -- the audit accepts a register exactly when its used bytes are the images of some chunks, held or released, and some signatures
  pub exactly : (r : Register) → Lent r → Accepted F r ↔ ((ss : List Slot) × (sigs : List (List ℕ)) × Imaged F r ss sigs)
  -- and then these are determined
  pub determined : (r : Register) (ss ts : List Slot) (sigs tigs : List (List ℕ)) → Imaged F r ss sigs → Imaged F r ts tigs → (ss ≡ ts) × (sigs ≡ tigs)

-- for every function F from byte strings to 32 bytes
abbrev pub AuditExactForAll : Type 0
AuditExactForAll = (F : List ℕ → List ℕ) → HashFunction F → AuditExact F
