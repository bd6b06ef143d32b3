-- What holds of the definitions and of the calls on Nodes.
use Rattle.std.specs.Prelude.{Result, Ok, ℕ, ◌≤◌, ◌≡◌, List, length}
use Rattle.std.proofs.Math.Option.{some}
use Rattle.answer_types.specs.Verdict.{none}
use Rattle.answer_types.specs.declared.Refusal.{Refusal}
use Rattle.byte_strings.specs.Lists.{put}
use Rattle.record_format.specs.Records.{Node, NodeWithin, node_bytes}
use Rattle.record_format.specs.From.{node_from}
use Rattle.record_node.specs.Post.{node_of, NodeFits, node_placed, node_told, read_node, NodeWrittenAs}
use Rattle.record_node.specs.declared.reading.Node.{Node as CodeNode}

-- the parts of the Node that bytes are lie in these bytes, and are its fields
pub record Placed (d : List ℕ) (n : Node) : Type 0 where
  pub fits : NodeFits d (node_placed n)
  pub fields : node_of d (node_placed n) ≡ n

abbrev pub NodesPlaced : Type 0
NodesPlaced = (d : List ℕ) (n : Node) → node_from d ≡ some n → Placed d n

-- "writing what was read restores the bytes": the fields of a Node that was read, written of the same bytes into room for them, give these bytes
-- and their number
abbrev pub NodesWrittenBack : Type 0
NodesWrittenBack =
    (d : List ℕ) (n : CodeNode) → node_told (Ok n) ≡ read_node none d
    → (out : List ℕ) (answer : Result ℕ Refusal) (after : List ℕ) → NodeWrittenAs d n out answer after → length d ≤ length out
    → (answer ≡ Ok (length d)) × (after ≡ put out 0 d)

-- room for any Node
abbrev pub node_room : ℕ
node_room = 2070

abbrev pub RoomForAny : Type 0
RoomForAny = (n : Node) → NodeWithin n → length (node_bytes n) ≤ node_room
