-- A partial copy: "The cutting room holds a few pieces of a large archive."
use Rattle.std.specs.Prelude.{ℕ, Bool, List, []}
use Rattle.bitfield.specs.Known.{stored_known}
use Rattle.file_format.specs.Belongs.{Register}

-- "it has no signatures file and no s": a call on a copy is lent its three files and told n and the data size
pub record Copy : Type 0 where
  pub tree : List ℕ
  pub bitfield : List ℕ
  pub content : List ℕ
  pub n : ℕ
  pub size : ℕ

-- the three files alone
pub record Files : Type 0 where
  pub tree : List ℕ
  pub bitfield : List ℕ
  pub content : List ℕ

abbrev pub files_of : Copy → Files
files_of c = record { tree = c.tree; bitfield = c.bitfield; content = c.content }

abbrev pub files_lent : List ℕ → List ℕ → List ℕ → Files
files_lent tree bitfield content = record { tree = tree; bitfield = bitfield; content = content }

-- what a call is lent and told
abbrev pub copy_of : List ℕ → List ℕ → List ℕ → ℕ → ℕ → Copy
copy_of tree bitfield content n size = record { tree = tree; bitfield = bitfield; content = content; n = n; size = size }

-- "tree bits, which make an entry known": an entry is known where its stored tree bit is 1
abbrev pub known : Copy → ℕ → Bool
known c = stored_known c.bitfield

-- "A released piece comes back this way too, a register's by lending it as a copy."
abbrev pub lent_as_copy : Register → Copy
lent_as_copy r = record { tree = r.tree; bitfield = r.bitfield; content = r.content; n = r.n; size = r.size }

-- a copy as a register that has no signatures: what the definitions of a register's calls say of its tree, bitfield and data, they say of a copy's.
-- Used of definitions that look at neither signatures nor s
abbrev pub unsigned : Copy → Register
unsigned c =
    record { tree = c.tree; signatures = []; bitfield = c.bitfield; content = c.content; n = c.n; s = 0; size = c.size }
