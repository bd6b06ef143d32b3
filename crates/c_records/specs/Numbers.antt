-- The 67 numbers in which the fields of a Node are lent: those of a FlatNode, one behind the other, and back.
use Rattle.std.specs.Prelude.{ℕ, ◌+◌, ◌*◌, ◌≡◌, List, [], ◌∷◌, ◌++◌, length, get_or}
use Rattle.byte_strings.specs.Lists.{run, joined}
use Rattle.record_node.specs.declared.reading.Node.{Node}
use Rattle.c_records.specs.Flat.{no_flat, flat_node, node_in}
use Rattle.c_records.specs.declared.FlatNumber.{FlatNumber}
use Rattle.c_records.specs.declared.FlatPart.{FlatPart}
use Rattle.c_records.specs.declared.FlatBytes.{FlatBytes}
use Rattle.c_records.specs.declared.FlatWriter.{FlatWriter}
use Rattle.c_records.specs.declared.FlatStat.{FlatStat}
use Rattle.c_records.specs.declared.FlatNode.{FlatNode}

-- ---- one behind the other

abbrev pub of_number : FlatNumber → List ℕ
of_number f = f.given ∷ f.value ∷ []

abbrev pub of_part : FlatPart → List ℕ
of_part f = f.at ∷ f.length ∷ []

abbrev pub of_bytes : FlatBytes → List ℕ
of_bytes f = f.given ∷ of_part f.part

abbrev pub of_writer : FlatWriter → List ℕ
of_writer f = of_part f.key ++ of_bytes f.permission

unfoldable pub of_stat : FlatStat → List ℕ
of_stat f =
    f.given ∷ joined (of_number f.mode ∷ of_number f.uid ∷ of_number f.gid ∷ of_number f.size ∷ of_number f.blocks
    ∷ of_number f.offset ∷ of_number f.byte_offset ∷ of_number f.mtime ∷ of_number f.ctime ∷ [])

unfoldable pub of_writers : List FlatWriter → List ℕ
of_writers list = joined (run (λ j. of_writer (get_or list j no_flat)) 0 8)

unfoldable pub node_numbers : FlatNode → List ℕ
node_numbers f =
    joined (of_part f.path ∷ of_stat f.value ∷ of_bytes f.trie ∷ (f.count ∷ []) ∷ of_writers f.writers ∷ of_number f.sequence ∷ [])

-- ---- and back, from place i on

abbrev pub number_at : List ℕ → ℕ → FlatNumber
number_at d i = record { given = get_or d i 0; value = get_or d (i + 1) 0 }

abbrev pub part_at : List ℕ → ℕ → FlatPart
part_at d i = record { at = get_or d i 0; length = get_or d (i + 1) 0 }

abbrev pub bytes_at : List ℕ → ℕ → FlatBytes
bytes_at d i = record { given = get_or d i 0; part = part_at d (i + 1) }

abbrev pub writer_at : List ℕ → ℕ → FlatWriter
writer_at d i = record { key = part_at d i; permission = bytes_at d (i + 2) }

-- the Stat begins with number 2
abbrev pub stat_at : List ℕ → FlatStat
stat_at d = record {
  given = get_or d 2 0;
  mode = number_at d 3;
  uid = number_at d 5;
  gid = number_at d 7;
  size = number_at d 9;
  blocks = number_at d 11;
  offset = number_at d 13;
  byte_offset = number_at d 15;
  mtime = number_at d 17;
  ctime = number_at d 19;
}

-- the Writers begin with number 25, and each has five
unfoldable pub writers_at : List ℕ → List FlatWriter
writers_at d = run (λ j. writer_at d (25 + 5 * j)) 0 8

abbrev pub flat_at : List ℕ → FlatNode
flat_at d = record {
  path = part_at d 0;
  value = stat_at d;
  trie = bytes_at d 21;
  count = get_or d 24 0;
  writers = writers_at d;
  sequence = number_at d 65;
}

-- the Node whose fields are lent as these numbers
abbrev pub node_lent : List ℕ → Node
node_lent d = node_in (flat_at d)

-- ---- nothing is lost, and the numbers are 67

abbrev pub NumbersRestored : Type 0
NumbersRestored = (n : Node) → length n.writers.list ≡ 8 → node_lent (node_numbers (flat_node n)) ≡ n

abbrev pub NumbersCounted : Type 0
NumbersCounted = (f : FlatNode) → length (node_numbers f) ≡ 67
