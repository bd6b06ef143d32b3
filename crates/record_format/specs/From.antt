-- The record that bytes are, as a function of them: "We write fields in rising number and each varint in its shortest form, and the reader
-- accepts those records only". What the bytes say is taken field by field; it is a record where it is within the bounds and its writing is
-- these very bytes (`as_written`). That no other record is meant is `EachRead` (Theorems).
use Rattle.std.specs.Prelude.{ℕ, zero, suc, Bool, true, false, cond, ◌&&◌, List, [], ◌∷◌, leb, eqb, length, get_or}
use Rattle.std.proofs.Math.Option.{Option, none, some}
use Rattle.byte_strings.specs.Lists.{same_list}
use Rattle.record_fields.specs.Fronts.{front_number, front_part, or_nothing}
use Rattle.record_format.specs.Records.{Header, header_bytes, hyperdrive, Stat, rows_of, most_of, Writer, Node, node_bytes}

-- ---- what bytes say

abbrev pub front_header : List ℕ → Header
front_header s = record { type = or_nothing (front_part 1 s).0; content = or_nothing (front_part 2 (front_part 1 s).1).0 }

-- so many fields that are numbers, the first of number k
unfoldable pub front_rows : ℕ → ℕ → List ℕ → List (Option ℕ)
front_rows k zero s = []
front_rows k (suc m) s = (front_number k s).0 ∷ front_rows (suc k) m (front_number k s).1

abbrev pub stat_of_rows : List (Option ℕ) → Stat
stat_of_rows os = record {
  mode = get_or os 0 none;
  uid = get_or os 1 none;
  gid = get_or os 2 none;
  size = get_or os 3 none;
  blocks = get_or os 4 none;
  offset = get_or os 5 none;
  byte_offset = get_or os 6 none;
  mtime = get_or os 7 none;
  ctime = get_or os 8 none;
}

abbrev pub front_stat : List ℕ → Stat
front_stat s = stat_of_rows (front_rows 1 9 s)

abbrev pub front_value : Option (List ℕ) → Option Stat
front_value none = none
front_value (some bs) = some (front_stat bs)

abbrev pub front_writer : List ℕ → Writer
front_writer s = record { key = or_nothing (front_part 1 s).0; permission = (front_part 2 (front_part 1 s).1).0 }

-- one more Writer, where its field is there, before those that follow
abbrev pub one_more : Option (List ℕ) → List ℕ → List Writer × List ℕ → List Writer × List ℕ
one_more none s rest = ([], s)
one_more (some bs) s rest = (front_writer bs ∷ rest.0, rest.1)

-- at most so many Writers, one behind the other
unfoldable pub front_writers : ℕ → List ℕ → List Writer × List ℕ
front_writers zero s = ([], s)
front_writers (suc m) s = one_more (front_part 4 s).0 s (front_writers m (front_part 4 s).1)

-- the five fields, of which each begins where the one before it ends
abbrev pub behind_path : List ℕ → List ℕ
behind_path s = (front_part 1 s).1

abbrev pub behind_value : List ℕ → List ℕ
behind_value s = (front_part 2 (behind_path s)).1

abbrev pub behind_trie : List ℕ → List ℕ
behind_trie s = (front_part 3 (behind_value s)).1

abbrev pub behind_writers : List ℕ → List ℕ
behind_writers s = (front_writers 8 (behind_trie s)).1

abbrev pub front_node : List ℕ → Node
front_node s = record {
  path = or_nothing (front_part 1 s).0;
  value = front_value (front_part 2 (behind_path s)).0;
  trie = (front_part 3 (behind_value s)).0;
  writers = (front_writers 8 (behind_trie s)).0;
  writers_sequence = (front_number 5 (behind_writers s)).0;
}

-- ---- whether fields are within the bounds: `HeaderWithin`, `NodeWithin` (Records) and what these are made of, as tests

abbrev pub number_test : ℕ → Option ℕ → Bool
number_test most none = true
number_test most (some x) = leb x most

abbrev pub part_test : ℕ → Option (List ℕ) → Bool
part_test longest none = true
part_test longest (some bs) = leb (length bs) longest

abbrev pub header_test : Header → Bool
header_test h = same_list h.type hyperdrive && eqb (length h.content) 32

abbrev pub path_test : List ℕ → Bool
path_test path = leb 1 (length path) && (leb (length path) 255 && eqb (get_or path 0 0) 47)

abbrev pub given_test : Option ℕ → Bool
given_test none = false
given_test (some x) = true

unfoldable pub rows_test : ℕ → List (Option ℕ) → Bool
rows_test k [] = true
rows_test k (o ∷ os) = number_test (most_of k) o && rows_test (suc k) os

abbrev pub value_test : Option Stat → Bool
value_test none = true
value_test (some s) = given_test s.mode && rows_test 1 (rows_of s)

unfoldable pub writers_test : List Writer → Bool
writers_test [] = true
writers_test (w ∷ ws) = (eqb (length w.key) 32 && part_test 16 w.permission) && writers_test ws

abbrev pub node_test : Node → Bool
node_test n =
    path_test n.path && (value_test n.value && (part_test 1024 n.trie && (leb (length n.writers) 8 && (writers_test n.writers && number_test 18446744073709551615 n.writers_sequence))))

-- ---- the record that bytes are

-- what bytes say, where it is within the bounds and its writing is these very bytes
abbrev pub as_written : {A : Type 0} → (A → List ℕ) → (A → Bool) → List ℕ → A → Option A
as_written write test d a = cond (test a && same_list (write a) d) (some a) none

unfoldable pub header_from : List ℕ → Option Header
header_from d = as_written header_bytes header_test d (front_header d)

unfoldable pub node_from : List ℕ → Option Node
node_from d = as_written node_bytes node_test d (front_node d)
