-- What the inner functions find in the bytes lent, and what they put into a buffer.
use Rattle.std.specs.Prelude.{Option as Maybe, None, Some, ℕ, ◌+◌, ◌≤◌, ◌≡◌, List, ◌++◌, length, get_or, drop}
use Rattle.std.proofs.Math.Option.{Option, some}
use Rattle.record_fields.specs.Reading.{BeginsNot, both, Both}
use Rattle.record_fields.specs.Fields.{number_field, part_field, given_field, Most, Longest, Later}
use Rattle.record_fields.specs.Inner.{Upto, number_of, part_of, bytes_of, Inside, BytesInside, head_of, bytes_placed}
use Rattle.record_fields.specs.declared.rows.Part.{Part}
use Rattle.record_format.specs.Records.{Stat, Writer, WriterWithin, writer_bytes, writers_bytes, WritersWithin, PathWithin, ValueWithin, stat_part, NodeWithin, node_bytes}
use Rattle.record_format.specs.Theorems.{Accepted, Rejected}
use Rattle.record_node.specs.Post.{writer_of, writers_of, value_of, node_of, WriterInside, WritersInside, NodeInside, NodeFits, writer_placed, all_placed, node_placed}
use Rattle.record_fields.specs.declared.varints.Read.{Read}
use Rattle.record_format.specs.declared.stats.Stat.{Stat as CodeStat}
use Rattle.record_node.specs.declared.writers.Writer.{Writer as CodeWriter}
use Rattle.record_node.specs.declared.writers.Writers.{Writers}
use Rattle.record_node.specs.declared.reading.Node.{Node as CodeNode}
use Rattle.record_node.specs.declared.reading.Parts.{Parts}
use Rattle.record_node.specs.declared.reading.Tail.{Tail}
use Rattle.record_node.specs.declared.reading.Raw.{Raw}

-- ---- Writers

-- the key must be there, with its 32 bytes
abbrev pub WithKeyAs : Maybe Part → Maybe Part → Maybe CodeWriter → Type 0
WithKeyAs key permission None = (p : Part) → key ≡ Some p → p.len ≡ 32 → ⊥
WithKeyAs key permission (Some w) = (key ≡ Some w.key) × ((w.key.len ≡ 32) × (permission ≡ w.permission))

pub record WriterAt (d : List ℕ) (at : ℕ) (w : CodeWriter) : Type 0 where
  pub inside : WriterInside d w
  pub accepted : Accepted writer_bytes WriterWithin (drop at d) (writer_of d w)
  pub placed : w ≡ writer_placed at (writer_of d w)

abbrev pub WriterReadAs : List ℕ → ℕ → Maybe CodeWriter → Type 0
WriterReadAs d at None = Rejected writer_bytes WriterWithin (drop at d)
WriterReadAs d at (Some w) = WriterAt d at w

-- one more Writer, and what follows its field begins at `next`
pub record OneAt (d : List ℕ) (at : ℕ) (w : CodeWriter) (next : ℕ) : Type 0 where
  pub inside : WriterInside d w
  pub within : WriterWithin (writer_of d w)
  pub made : drop at d ≡ given_field 4 (writer_bytes (writer_of d w)) ++ drop next d
  pub ends : next ≤ length d
  pub placed : w ≡ writer_placed (at + length (head_of 4 (writer_bytes (writer_of d w)))) (writer_of d w)

-- no such field, or one more Writer
abbrev pub OneOrNone : List ℕ → ℕ → Maybe CodeWriter → ℕ → Type 0
OneOrNone d at None next = get_or (drop at d) 0 256 ≡ 34 → ⊥
OneOrNone d at (Some w) next = OneAt d at w next

abbrev pub OneRead : List ℕ → ℕ → Maybe (Read (Maybe CodeWriter)) → Type 0
OneRead d at None = BeginsNot writers_bytes WritersWithin (Later 4) (drop at d)
OneRead d at (Some r) = OneOrNone d at r.value r.next

-- at most 8
abbrev pub WritersFew : List Writer → Type 0
WritersFew ws = WritersWithin ws × length ws ≤ 8

pub record WritersUpto (d : List ℕ) (at : ℕ) (ws : Writers) (next : ℕ) : Type 0 where
  pub inside : WritersInside d ws
  pub read : Upto writers_bytes WritersFew (Later 4) d at (writers_of d ws) next
  pub placed : ws ≡ all_placed at (writers_of d ws)

abbrev pub WritersRead : List ℕ → ℕ → Maybe (Read Writers) → Type 0
WritersRead d at None = BeginsNot writers_bytes WritersFew (Later 4) (drop at d)
WritersRead d at (Some r) = WritersUpto d at r.value r.next

-- ---- the first three fields, and the last two

abbrev pub three_parts : Option (List ℕ) × (Option (List ℕ) × Option (List ℕ)) → List ℕ
three_parts = both (part_field 1) (both (part_field 2) (part_field 3))

abbrev pub PartsLongest : Option (List ℕ) × (Option (List ℕ) × Option (List ℕ)) → Type 0
PartsLongest = Both (Longest 255) (Both (Longest 99) (Longest 1024))

pub record PartsUpto (d : List ℕ) (path value trie : Maybe Part) (next : ℕ) : Type 0 where
  pub inside : BytesInside d path × (BytesInside d value × BytesInside d trie)
  pub read : Upto three_parts PartsLongest (Later 3) d 0 (bytes_of d path, (bytes_of d value, bytes_of d trie)) next
  pub first : path ≡ bytes_placed 0 1 (bytes_of d path)
  pub third : trie ≡ bytes_placed (length (part_field 1 (bytes_of d path) ++ part_field 2 (bytes_of d value))) 3 (bytes_of d trie)

abbrev pub PartsRead : List ℕ → Maybe (Read Parts) → Type 0
PartsRead d None = BeginsNot three_parts PartsLongest (Later 3) (drop 0 d)
PartsRead d (Some r) = PartsUpto d r.value.path r.value.value r.value.trie r.next

abbrev pub tail_bytes : List Writer × Option ℕ → List ℕ
tail_bytes = both writers_bytes (number_field 5)

abbrev pub TailWithin : List Writer × Option ℕ → Type 0
TailWithin = Both WritersFew (Most 18446744073709551615)

pub record TailAt (d : List ℕ) (at : ℕ) (ws : Writers) (o : Option ℕ) : Type 0 where
  pub inside : WritersInside d ws
  pub read : Upto tail_bytes TailWithin (Later 5) d at (writers_of d ws, o) (length d)
  pub placed : ws ≡ all_placed at (writers_of d ws)

-- nothing may be left
abbrev pub TailRead : List ℕ → ℕ → Maybe Tail → Type 0
TailRead d at None = (t : List Writer × Option ℕ) → TailWithin t → drop at d ≡ tail_bytes t → ⊥
TailRead d at (Some t) = TailAt d at t.writers (number_of t.sequence)

-- ---- all five fields, the path and the Stat not yet judged

abbrev pub RawFields : Type 0
RawFields = (Option (List ℕ) × (Option (List ℕ) × Option (List ℕ))) × (List Writer × Option ℕ)

abbrev pub raw_bytes : RawFields → List ℕ
raw_bytes = both three_parts tail_bytes

abbrev pub RawWithin : RawFields → Type 0
RawWithin = Both PartsLongest TailWithin

pub record RawAt (d : List ℕ) (path value trie : Maybe Part) (ws : Writers) (o : Option ℕ) : Type 0 where
  pub parts : BytesInside d path × (BytesInside d value × BytesInside d trie)
  pub writers : WritersInside d ws
  pub accepted : Accepted raw_bytes RawWithin d ((bytes_of d path, (bytes_of d value, bytes_of d trie)), (writers_of d ws, o))
  pub only : (r : RawFields) → RawWithin r → raw_bytes r ≡ d → r ≡ ((bytes_of d path, (bytes_of d value, bytes_of d trie)), (writers_of d ws, o))
  pub first : path ≡ bytes_placed 0 1 (bytes_of d path)
  pub third : trie ≡ bytes_placed (length (part_field 1 (bytes_of d path) ++ part_field 2 (bytes_of d value))) 3 (bytes_of d trie)
  pub fourth : ws ≡ all_placed (length (three_parts (bytes_of d path, (bytes_of d value, bytes_of d trie)))) (writers_of d ws)

abbrev pub RawJudged : List ℕ → Raw → Type 0
RawJudged d r = RawAt d r.parts.path r.parts.value r.parts.trie r.tail.writers (number_of r.tail.sequence)

abbrev pub RawRead : List ℕ → Maybe Raw → Type 0
RawRead d None = Rejected raw_bytes RawWithin d
RawRead d (Some r) = RawJudged d r

-- ---- bounds

abbrev pub Lies : List ℕ → Part → Type 0
Lies d p = Inside d p

pub record PathLies (d : List ℕ) (p : Part) : Type 0 where
  pub inside : Inside d p
  pub within : PathWithin (part_of d p)

pub record BytesLie (d : List ℕ) (o : Maybe Part) (longest : ℕ) : Type 0 where
  pub inside : BytesInside d o
  pub within : Longest longest (bytes_of d o)

pub record WriterLies (d : List ℕ) (w : CodeWriter) : Type 0 where
  pub inside : WriterInside d w
  pub within : WriterWithin (writer_of d w)

pub record WritersLie (d : List ℕ) (ws : Writers) : Type 0 where
  pub inside : WritersInside d ws
  pub within : WritersWithin (writers_of d ws)

abbrev pub ValueFits : Maybe CodeStat → Type 0
ValueFits v = ValueWithin (value_of v)

-- the path must be there
abbrev pub WithPathAs : List ℕ → Maybe Part → Maybe Part → Type 0
WithPathAs d field None = (p : List ℕ) → PathWithin p → bytes_of d field ≡ some p → ⊥
WithPathAs d field (Some q) = PathLies d q × (field ≡ Some q)

-- a part that is there must be a Stat
abbrev pub ValueReadAs : List ℕ → Maybe Part → Maybe (Maybe CodeStat) → Type 0
ValueReadAs d field None = (o : Option Stat) → ValueWithin o → stat_part o ≡ bytes_of d field → ⊥
ValueReadAs d field (Some v) = ValueWithin (value_of v) × (stat_part (value_of v) ≡ bytes_of d field)

-- ---- a Node that was read

pub record NodeAt (d : List ℕ) (n : CodeNode) : Type 0 where
  pub inside : NodeInside d n
  pub accepted : Accepted node_bytes NodeWithin d (node_of d n)
  pub placed : n ≡ node_placed (node_of d n)

abbrev pub NodeFound : List ℕ → Maybe CodeNode → Type 0
NodeFound d None = Rejected node_bytes NodeWithin d
NodeFound d (Some n) = NodeAt d n

-- ---- putting

pub record WriterRoomy (d : List ℕ) (w : CodeWriter) (out : List ℕ) : Type 0 where
  pub fits : WriterLies d w
  pub room : 70 ≤ length out

pub record WritersRoomy (d : List ℕ) (ws : Writers) (out : List ℕ) (at : ℕ) : Type 0 where
  pub fits : WritersLie d ws
  pub room : at + 648 ≤ length out

pub record NodeRoomy (d : List ℕ) (n : CodeNode) (out : List ℕ) : Type 0 where
  pub fits : NodeFits d n
  pub room : 2070 ≤ length out
