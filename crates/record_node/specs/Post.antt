-- The calls on Nodes: the fields that their parts stand for, what they answer, and what stands in the lent buffer afterwards.
use Rattle.std.specs.Prelude.{Result, Ok, Err, Option as Maybe, None, Some, ℕ, ◌+◌, ◌-◌, ◌<◌, ◌≤◌, List, [], ◌∷◌, ◌++◌, length, get_or, replicate}
use Rattle.std.proofs.Math.Option.{Option, none as absent, some}
use Rattle.byte_strings.specs.Lists.{run}
use Rattle.answer_types.specs.Verdict.{Spot, Verdict, done}
use Rattle.answer_types.specs.Meaning.{refusal_of}
use Rattle.answer_types.specs.declared.Refusal.{Refusal}
use Rattle.record_fields.specs.Fields.{part_field, given_field}
use Rattle.record_fields.specs.Inner.{number_of, number_told, part_of, bytes_of, Inside, BytesInside, head_of, part_placed, bytes_placed}
use Rattle.record_format.specs.Records.{Stat, Writer, writer_bytes, Node, NodeWithin, node_bytes, stat_part}
use Rattle.record_format.specs.From.{node_from}
use Rattle.record_format.specs.Post.{stat_of, stat_told, no_part, told_of, WrittenAs}
use Rattle.record_format.specs.declared.stats.Stat.{Stat as CodeStat}
use Rattle.record_node.specs.declared.writers.Writer.{Writer as CodeWriter}
use Rattle.record_node.specs.declared.writers.Writers.{Writers}
use Rattle.record_node.specs.declared.reading.Node.{Node as CodeNode}

-- ---- the fields that parts of the bytes lent stand for

abbrev pub writer_of : List ℕ → CodeWriter → Writer
writer_of d w = record { key = part_of d w.key; permission = bytes_of d w.permission }

-- nobody: what stands behind the count
abbrev pub no_writer : CodeWriter
no_writer = record { key = record { at = 0; len = 0 }; permission = None }

abbrev pub writer_at : Writers → ℕ → CodeWriter
writer_at ws j = get_or ws.list j no_writer

-- as many as are counted
abbrev pub writers_of : List ℕ → Writers → List Writer
writers_of d ws = run (λ j. writer_of d (writer_at ws j)) 0 ws.count

abbrev pub value_of : Maybe CodeStat → Option Stat
value_of None = absent
value_of (Some s) = some (stat_of s)

abbrev pub node_of : List ℕ → CodeNode → Node
node_of d n = record {
  path = part_of d n.path;
  value = value_of n.value;
  trie = bytes_of d n.trie;
  writers = writers_of d n.writers;
  writers_sequence = number_of n.sequence;
}

-- ---- every part lies in the bytes lent, and no more Writers are counted than have a place

pub record WriterInside (d : List ℕ) (w : CodeWriter) : Type 0 where
  pub key : Inside d w.key
  pub permission : BytesInside d w.permission

pub record WritersInside (d : List ℕ) (ws : Writers) : Type 0 where
  pub count : ws.count ≤ 8
  pub each : (j : ℕ) → j < ws.count → WriterInside d (writer_at ws j)

pub record NodeInside (d : List ℕ) (n : CodeNode) : Type 0 where
  pub path : Inside d n.path
  pub trie : BytesInside d n.trie
  pub writers : WritersInside d n.writers

-- ---- where the parts of a Node lie in its bytes: where its fields do

-- the parts of a Writer whose bytes begin at a place
abbrev pub writer_placed : ℕ → Writer → CodeWriter
writer_placed at w = record { key = part_placed at 1 w.key; permission = bytes_placed (at + length (given_field 1 w.key)) 2 w.permission }

-- of Writers whose fields begin at a place
unfoldable pub writers_placed : ℕ → List Writer → List CodeWriter
writers_placed at [] = []
writers_placed at (w ∷ ws) = writer_placed (at + length (head_of 4 (writer_bytes w))) w ∷ writers_placed (at + length (given_field 4 (writer_bytes w))) ws

-- nobody stands behind the count
abbrev pub all_placed : ℕ → List Writer → Writers
all_placed at ws = record { count = length ws; list = writers_placed at ws ++ replicate (8 - length ws) no_writer }

-- where the trie's field begins, and where the Writers' do
abbrev pub trie_at : Node → ℕ
trie_at n = length (part_field 1 (some n.path) ++ part_field 2 (stat_part n.value))

abbrev pub writers_at : Node → ℕ
writers_at n = length (part_field 1 (some n.path) ++ (part_field 2 (stat_part n.value) ++ part_field 3 n.trie))

abbrev pub value_told : Option Stat → Maybe CodeStat
value_told absent = None
value_told (some s) = Some (stat_told s)

abbrev pub node_placed : Node → CodeNode
node_placed n = record {
  path = part_placed 0 1 n.path;
  value = value_told n.value;
  trie = bytes_placed (trie_at n) 3 n.trie;
  writers = all_placed (writers_at n) n.writers;
  sequence = number_told n.writers_sequence;
}

-- ---- reading

-- a Node that says nothing, which stands beside a refusal
abbrev pub no_writers : Writers
no_writers = record { count = 0; list = replicate 8 no_writer }

abbrev pub no_node : CodeNode
no_node = record { path = no_part; value = None; trie = None; writers = no_writers; sequence = None }

abbrev pub read_node : Spot → List ℕ → Verdict × CodeNode
read_node spot d = told_of spot no_node node_placed (node_from d)

-- what each case of the answer tells
abbrev pub node_told : Result CodeNode Refusal → Verdict × CodeNode
node_told (Err r) = (refusal_of r, no_node)
node_told (Ok n) = (done, n)

-- ---- writing

-- fields within the bounds; a part that does not lie in the bytes lent is none
pub record NodeFits (d : List ℕ) (n : CodeNode) : Type 0 where
  pub inside : NodeInside d n
  pub within : NodeWithin (node_of d n)

abbrev pub NodeWrittenAs : List ℕ → CodeNode → List ℕ → Result ℕ Refusal → List ℕ → Type 0
NodeWrittenAs d n out answer after = WrittenAs (NodeFits d n) (node_bytes (node_of d n)) out answer after
