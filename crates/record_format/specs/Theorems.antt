-- What the definitions of writing and reading have to do with each other.
use Rattle.std.specs.Prelude.{◌≡◌, List, ℕ}
use Rattle.std.proofs.Math.Option.{Option, none, some}
use Rattle.record_format.specs.Records.{HeaderWithin, header_bytes, StatWithin, stat_bytes, WriterWithin, writer_bytes, NodeWithin, node_bytes}
use Rattle.record_format.specs.From.{header_from, node_from}

-- "the reader accepts those records only": bytes are read as fields that are within the bounds and whose writing is these very bytes
pub record Accepted {A : Type 0} (write : A → List ℕ) (Within : A → Type 0) (d : List ℕ) (a : A) : Type 0 where
  pub within : Within a
  pub bytes : write a ≡ d

-- bytes that are no such record
abbrev pub Rejected : {A : Type 0} → (A → List ℕ) → (A → Type 0) → List ℕ → Type 0
Rejected {A} write Within d = (a : A) → Within a → write a ≡ d → ⊥

-- of one kind of record
pub record Restored {A : Type 0} (write : A → List ℕ) (Within : A → Type 0) : Type 0 where
  -- reading what was written restores the fields
  pub read : (a b : A) → Within a → Accepted write Within (write a) b → b ≡ a
  -- no two different records within the bounds have the same bytes
  pub one : (a b : A) → Within a → Within b → write a ≡ write b → a ≡ b

pub record EachRestored : Type 0 where
  pub headers : Restored header_bytes HeaderWithin
  pub stats : Restored stat_bytes StatWithin
  pub writers : Restored writer_bytes WriterWithin
  pub nodes : Restored node_bytes NodeWithin

-- what a function of the bytes gives is the record that they are, and it gives each such record. (That writing what was read restores the
-- bytes is stated of the calls: Calls, `HeadersWrittenBack`, and `NodesWrittenBack` of nodes.)
pub record Reads {A : Type 0} (write : A → List ℕ) (Within : A → Type 0) (from : List ℕ → Option A) : Type 0 where
  pub accepts : (d : List ℕ) (a : A) → Accepted write Within d a → from d ≡ some a
  pub gives : (d : List ℕ) (a : A) → from d ≡ some a → Accepted write Within d a
  pub rejects : (d : List ℕ) → Rejected write Within d → from d ≡ none

pub record EachRead : Type 0 where
  pub headers : Reads header_bytes HeaderWithin header_from
  pub nodes : Reads node_bytes NodeWithin node_from
