-- The parts of a record are parts of its chunk: "returned part .. with its lifetime; empty after a refusal, whose number a call beside it gives".
--
-- Of a chunk the bytes are those that its read hands back (lookup, Read `read_part`), which are none after a refusal; and no bytes are no record
-- (`NothingIsNone`).
use Rattle.std.specs.Prelude.{ℕ, ◌≡◌, List, [], get_or}
use Rattle.std.proofs.Math.Option.{Option, none, some}
use Rattle.record_fields.specs.Fronts.{or_nothing}
use Rattle.record_format.specs.Records.{Header, Writer, Node}
use Rattle.record_format.specs.From.{header_from, node_from}
use Rattle.record_parts.specs.declared.Field.{Field}
use Rattle.record_parts.specs.declared.Field.TheVariants.{Path, Trie, Key, Permission}

-- a Writer behind the last
abbrev pub nobody : Writer
nobody = record { key = []; permission = none }

abbrev pub field_of : Field → Node → List ℕ
field_of Path n = n.path
field_of Trie n = or_nothing n.trie
field_of (Key j) n = (get_or n.writers j nobody).key
field_of (Permission j) n = or_nothing (get_or n.writers j nobody).permission

abbrev pub content_of : Header → List ℕ
content_of h = h.content

-- a part of the record that bytes are; nothing where they are none
abbrev pub handed : {A : Type 0} → (A → List ℕ) → Option A → List ℕ
handed field none = []
handed field (some a) = field a

abbrev pub header_handed : List ℕ → List ℕ
header_handed d = handed content_of (header_from d)

abbrev pub node_handed : Field → List ℕ → List ℕ
node_handed f d = handed (field_of f) (node_from d)

-- so nothing is handed back after a refused read
pub record NothingIsNone : Type 0 where
  pub header : header_from [] ≡ none
  pub node : node_from [] ≡ none
