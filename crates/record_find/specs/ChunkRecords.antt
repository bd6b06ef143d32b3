-- The record of a chunk: "It refuses with 15, after that chunk's own read, a chunk that is no such record, the place being its leaf's tree index".
use Rattle.std.specs.Prelude.{Result, Ok, Err, ℕ, Bool, false, List}
use Rattle.answer_types.specs.Verdict.{Spot, Verdict, tree, done, refused}
use Rattle.answer_types.specs.Meaning.{refusal_of}
use Rattle.byte_strings.specs.Lists.{same_list}
use Rattle.tree_index.specs.Tree.{index}
use Rattle.file_format.specs.Belongs.{Register}
use Rattle.lookup.specs.Read.{read_verdict, read_part}
use Rattle.record_fields.specs.declared.rows.Part.{Part}
use Rattle.record_format.specs.Records.{Node}
use Rattle.record_format.specs.From.{node_from}
use Rattle.record_format.specs.Post.{told_of, no_part, read_header}
use Rattle.record_node.specs.Post.{no_node, read_node}
use Rattle.record_node.specs.declared.reading.Node.{Node as CodeNode}
use Rattle.answer_types.specs.declared.Refusal.{Refusal}

-- whether the path of the Node that bytes are has the same bytes as the one sought; no beside a refusal
abbrev pub read_path : List ℕ → Spot → List ℕ → Verdict × Bool
read_path path spot d = told_of spot false (λ (n : Node). same_list n.path path) (node_from d)

-- what each case of the answer tells
abbrev pub compared_told : Result Bool Refusal → Verdict × Bool
compared_told (Err x) = (refusal_of x, false)
compared_told (Ok same) = (done, same)

-- the read comes first: its own refusal, or what is told of the bytes read
abbrev pub after_read : {P : Type 0} → P → Verdict → Verdict × P → Verdict × P
after_read beside (refused m spot) told = (refused m spot, beside)
after_read beside done told = told

-- of chunk c, whose read answers v and gives the bytes d: a register's chunk, or a copy's
module _ (v : Verdict) (d : List ℕ) (c : ℕ) where
  abbrev pub header_after : Verdict × Part
  header_after = after_read no_part v (read_header (tree (index 0 c)) d)

  abbrev pub node_after : Verdict × CodeNode
  node_after = after_read no_node v (read_node (tree (index 0 c)) d)

  abbrev pub path_after : List ℕ → Verdict × Bool
  path_after path = after_read false v (read_path path (tree (index 0 c)) d)

module _ (F : List ℕ → List ℕ) (r : Register) (c : ℕ) where
  abbrev pub header_in : Verdict × Part
  header_in = header_after (read_verdict F r c) (read_part F r c) c

  abbrev pub node_in : Verdict × CodeNode
  node_in = node_after (read_verdict F r c) (read_part F r c) c

  abbrev pub path_in : List ℕ → Verdict × Bool
  path_in path = path_after (read_verdict F r c) (read_part F r c) c path
