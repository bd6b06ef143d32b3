-- Reading accepts exactly the encodings: the checks 1 to 7 pass where the bytes are those of a well_formed journal.
--
-- The notions in it: `Journal`, `WellFormed`, `body` and `journal_bytes` (journal, Form), `read` (journal, Reading), `is_ok` (std, Result), `HashFunction` (file_format, Messages).
use Rattle.std.specs.Prelude.{ℕ, ◌≡◌, ◌↔◌, true, List, length, is_ok}
use Rattle.byte_strings.specs.Lists.{Bytes}
use Rattle.file_format.specs.Messages.{HashFunction}
use Rattle.journal.specs.Form.{Journal, WellFormed, hash_bytes, body, journal_bytes}
use Rattle.journal.specs.Reading.{read}

-- bytes that are the encoding of a well_formed journal
abbrev pub Encoding : (List ℕ → List ℕ) → List ℕ → Type 0
Encoding F j = (x : Journal) × WellFormed x × (j ≡ journal_bytes F x)

-- the hash of a journal has 32 bytes; of a `HashFunction` and a journal of bytes it has
abbrev pub Hashed : (List ℕ → List ℕ) → Journal → Type 0
Hashed F x = length (F (body x)) ≡ hash_bytes

pub record Accepts (F : List ℕ → List ℕ) : Type 0 where
  -- what reading accepts is an encoding
  pub encodings : (j : List ℕ) → Bytes j → is_ok (read F j) ≡ true → Encoding F j
  -- one whose hash has 32 bytes, and it accepts each of these
  pub hashed : (j : List ℕ) → Bytes j → (is_ok (read F j) ≡ true) ↔ ((x : Journal) × WellFormed x × Hashed F x × (j ≡ journal_bytes F x))

-- whatever function stands in for BLAKE2b
abbrev pub AcceptsForAll : Type 0
AcceptsForAll = (F : List ℕ → List ℕ) → Accepts F

-- reading accepts exactly the encodings
pub record Exact (F : List ℕ → List ℕ) : Type 0 where
  pub exactly : (j : List ℕ) → Bytes j → (is_ok (read F j) ≡ true) ↔ Encoding F j

-- for every function F from byte strings to 32 bytes
abbrev pub ExactForAll : Type 0
ExactForAll = (F : List ℕ → List ℕ) → HashFunction F → Exact F

-- bytes are the encoding of one journal alone
pub record Unique (F : List ℕ → List ℕ) : Type 0 where
  pub alone : (x y : Journal) → WellFormed x → WellFormed y → journal_bytes F x ≡ journal_bytes F y → x ≡ y

-- whatever function stands in for BLAKE2b, since a journal has its own length
abbrev pub UniqueForAll : Type 0
UniqueForAll = (F : List ℕ → List ℕ) → Unique F
