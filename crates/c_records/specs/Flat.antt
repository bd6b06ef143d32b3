-- The numbers that stand for the fields of a Node: a field that may be absent is 0 and no value, or 1 and its value.
use Rattle.std.specs.Prelude.{Option, None, Some, ℕ, ◌≡◌, cond, List, eqb, length, get_or}
use Rattle.byte_strings.specs.Lists.{run}
use Rattle.record_fields.specs.declared.rows.Part.{Part}
use Rattle.record_format.specs.declared.stats.Stat.{Stat}
use Rattle.record_node.specs.Post.{no_writer}
use Rattle.record_node.specs.declared.writers.Writer.{Writer}
use Rattle.record_node.specs.declared.reading.Node.{Node}
use Rattle.c_records.specs.declared.FlatNumber.{FlatNumber}
use Rattle.c_records.specs.declared.FlatPart.{FlatPart}
use Rattle.c_records.specs.declared.FlatBytes.{FlatBytes}
use Rattle.c_records.specs.declared.FlatWriter.{FlatWriter}
use Rattle.c_records.specs.declared.FlatStat.{FlatStat}
use Rattle.c_records.specs.declared.FlatNode.{FlatNode}

-- ---- from fields to numbers

abbrev pub flat_number : Option ℕ → FlatNumber
flat_number None = record { given = 0; value = 0 }
flat_number (Some x) = record { given = 1; value = x }

abbrev pub flat_part : Part → FlatPart
flat_part p = record { at = p.at; length = p.len }

abbrev pub flat_bytes : Option Part → FlatBytes
flat_bytes None = record { given = 0; part = record { at = 0; length = 0 } }
flat_bytes (Some p) = record { given = 1; part = flat_part p }

abbrev pub flat_writer : Writer → FlatWriter
flat_writer w = record { key = flat_part w.key; permission = flat_bytes w.permission }

unfoldable pub flat_writers : List Writer → List FlatWriter
flat_writers list = run (λ j. flat_writer (get_or list j no_writer)) 0 8

abbrev pub no_stat : FlatStat
no_stat = record {
  given = 0;
  mode = record { given = 0; value = 0 };
  uid = record { given = 0; value = 0 };
  gid = record { given = 0; value = 0 };
  size = record { given = 0; value = 0 };
  blocks = record { given = 0; value = 0 };
  offset = record { given = 0; value = 0 };
  byte_offset = record { given = 0; value = 0 };
  mtime = record { given = 0; value = 0 };
  ctime = record { given = 0; value = 0 };
}

abbrev pub flat_stat : Stat → FlatStat
flat_stat s = record {
  given = 1;
  mode = flat_number s.mode;
  uid = flat_number s.uid;
  gid = flat_number s.gid;
  size = flat_number s.size;
  blocks = flat_number s.blocks;
  offset = flat_number s.offset;
  byte_offset = flat_number s.byte_offset;
  mtime = flat_number s.mtime;
  ctime = flat_number s.ctime;
}

abbrev pub flat_value : Option Stat → FlatStat
flat_value None = no_stat
flat_value (Some s) = flat_stat s

abbrev pub flat_node : Node → FlatNode
flat_node n = record {
  path = flat_part n.path;
  value = flat_value n.value;
  trie = flat_bytes n.trie;
  count = n.writers.count;
  writers = flat_writers n.writers.list;
  sequence = flat_number n.sequence;
}

-- ---- and back: any number but 0 says that a field is there

abbrev pub number_in : FlatNumber → Option ℕ
number_in f = cond (eqb f.given 0) None (Some f.value)

abbrev pub part_in : FlatPart → Part
part_in f = record { at = f.at; len = f.length }

abbrev pub bytes_in : FlatBytes → Option Part
bytes_in f = cond (eqb f.given 0) None (Some (part_in f.part))

abbrev pub writer_in : FlatWriter → Writer
writer_in f = record { key = part_in f.key; permission = bytes_in f.permission }

-- what stands behind the last
abbrev pub no_flat : FlatWriter
no_flat = flat_writer no_writer

unfoldable pub writers_in : List FlatWriter → List Writer
writers_in list = run (λ j. writer_in (get_or list j no_flat)) 0 8

abbrev pub stat_in : FlatStat → Stat
stat_in f = record {
  mode = number_in f.mode;
  uid = number_in f.uid;
  gid = number_in f.gid;
  size = number_in f.size;
  blocks = number_in f.blocks;
  offset = number_in f.offset;
  byte_offset = number_in f.byte_offset;
  mtime = number_in f.mtime;
  ctime = number_in f.ctime;
}

abbrev pub value_in : FlatStat → Option Stat
value_in f = cond (eqb f.given 0) None (Some (stat_in f))

abbrev pub node_in : FlatNode → Node
node_in f = record {
  path = part_in f.path;
  value = value_in f.value;
  trie = bytes_in f.trie;
  writers = record { count = f.count; list = writers_in f.writers };
  sequence = number_in f.sequence;
}

-- ---- nothing is lost: what was read can be handed to the writer as it is

abbrev pub FlatRestored : Type 0
FlatRestored = (n : Node) → length n.writers.list ≡ 8 → node_in (flat_node n) ≡ n
