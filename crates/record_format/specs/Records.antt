-- The records: which fields they have, what the fields are bound to, and the bytes that are written of them.
--
-- The schema is that of the SLEEP paper. "Strings" are bytes here. Where a field is absent its value is none.
use Rattle.std.specs.Prelude.{ℕ, suc, ◌≤◌, ◌≡◌, cond, List, [], ◌∷◌, ◌++◌, ltb, length, get_or}
use Rattle.std.proofs.Math.Option.{Option, none, some}
use Rattle.record_fields.specs.Fields.{number_field, part_field, Most, Longest}

-- ---- "chunk 0 is a Header with type "hyperdrive" and 32 content bytes"

pub record Header : Type 0 where
  pub type : List ℕ
  pub content : List ℕ

-- message Header { required string type = 1; optional bytes content = 2; }
unfoldable pub header_bytes : Header → List ℕ
header_bytes h = part_field 1 (some h.type) ++ part_field 2 (some h.content)

-- the letters h, y, p, e, r, d, r, i, v, e
unfoldable pub hyperdrive : List ℕ
hyperdrive = 104 ∷ 121 ∷ 112 ∷ 101 ∷ 114 ∷ 100 ∷ 114 ∷ 105 ∷ 118 ∷ 101 ∷ []

pub record HeaderWithin (h : Header) : Type 0 where
  pub named : h.type ≡ hyperdrive
  pub sized : length h.content ≡ 32

-- ---- Stat: fields 1 to 9, each a number. "The ninth Stat field is ctime; the paper's field list repeats mtime."

pub record Stat : Type 0 where
  pub mode : Option ℕ
  pub uid : Option ℕ
  pub gid : Option ℕ
  pub size : Option ℕ
  pub blocks : Option ℕ
  pub offset : Option ℕ
  pub byte_offset : Option ℕ
  pub mtime : Option ℕ
  pub ctime : Option ℕ

-- the fields in rising number, from 1
abbrev pub rows_of : Stat → List (Option ℕ)
rows_of s = s.mode ∷ s.uid ∷ s.gid ∷ s.size ∷ s.blocks ∷ s.offset ∷ s.byte_offset ∷ s.mtime ∷ s.ctime ∷ []

-- fields that are numbers, one behind the other, the first with number k
unfoldable pub rows_bytes : ℕ → List (Option ℕ) → List ℕ
rows_bytes k [] = []
rows_bytes k (o ∷ os) = number_field k o ++ rows_bytes (suc k) os

unfoldable pub stat_bytes : Stat → List ℕ
stat_bytes s = rows_bytes 1 (rows_of s)

-- mode, uid and gid are of 32 bits in the schema, the others of 64
unfoldable pub most_of : ℕ → ℕ
most_of k = cond (ltb k 4) 4294967295 18446744073709551615

unfoldable pub RowsWithin : ℕ → List (Option ℕ) → Type 0
RowsWithin k [] = Unit {0}
RowsWithin k (o ∷ os) = Most (most_of k) o × RowsWithin (suc k) os

abbrev pub Given : {A : Type 0} → Option A → Type 0
Given none = ⊥
Given (some x) = Unit {0}

pub record StatWithin (s : Stat) : Type 0 where
  pub mode : Given s.mode
  pub rows : RowsWithin 1 (rows_of s)

-- ---- Writer: "each with a 32-byte key and a permission that is absent or at most 16 bytes"

pub record Writer : Type 0 where
  pub key : List ℕ
  pub permission : Option (List ℕ)

-- message Writer { required bytes publicKey = 1; optional string permission = 2; }
unfoldable pub writer_bytes : Writer → List ℕ
writer_bytes w = part_field 1 (some w.key) ++ part_field 2 w.permission

pub record WriterWithin (w : Writer) : Type 0 where
  pub key : length w.key ≡ 32
  pub permission : Longest 16 w.permission

-- ---- Node: "path, Stat, trie, writers and writers_sequence"

pub record Node : Type 0 where
  pub path : List ℕ
  pub value : Option Stat
  pub trie : Option (List ℕ)
  pub writers : List Writer
  pub writers_sequence : Option ℕ

-- a Stat that is there is written as a part
abbrev pub stat_part : Option Stat → Option (List ℕ)
stat_part none = none
stat_part (some s) = some (stat_bytes s)

-- repeated Writer writers = 4
unfoldable pub writers_bytes : List Writer → List ℕ
writers_bytes [] = []
writers_bytes (w ∷ ws) = part_field 4 (some (writer_bytes w)) ++ writers_bytes ws

-- message Node { required string path = 1; optional Stat value = 2; optional bytes trie = 3; repeated Writer writers = 4;
-- optional uint64 writers_sequence = 5; }
unfoldable pub node_bytes : Node → List ℕ
node_bytes n =
    part_field 1 (some n.path) ++ (part_field 2 (stat_part n.value) ++ (part_field 3 n.trie ++ (writers_bytes n.writers ++ number_field 5 n.writers_sequence)))

-- "A path has 1 to 255 bytes and starts with a slash"
pub record PathWithin (path : List ℕ) : Type 0 where
  pub some : 1 ≤ length path
  pub short : length path ≤ 255
  pub slash : get_or path 0 0 ≡ 47

abbrev pub ValueWithin : Option Stat → Type 0
ValueWithin none = Unit {0}
ValueWithin (some s) = StatWithin s

unfoldable pub WritersWithin : List Writer → Type 0
WritersWithin [] = Unit {0}
WritersWithin (w ∷ ws) = WriterWithin w × WritersWithin ws

-- "the trie is kept as at most 1,024 plain bytes; a Node has at most 8 writers"
pub record NodeWithin (n : Node) : Type 0 where
  pub path : PathWithin n.path
  pub value : ValueWithin n.value
  pub trie : Longest 1024 n.trie
  pub few : length n.writers ≤ 8
  pub writers : WritersWithin n.writers
  pub writers_sequence : Most 18446744073709551615 n.writers_sequence
