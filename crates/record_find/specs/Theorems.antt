-- What finding gives where the chunks are such records.
use Rattle.std.specs.Prelude.{ℕ, suc, ◌<◌, ◌≡◌, List, [], ◌∷◌, map, length, get_or}
use Rattle.std.proofs.Math.Option.{none}
use Rattle.answer_types.specs.Verdict.{Verdict, done}
use Rattle.file_format.specs.Messages.{HashFunction}
use Rattle.file_format.specs.Slots.{all_held, Within}
use Rattle.file_format.specs.Belongs.{Register, Belongs}
use Rattle.checks.specs.Checks.{judged, register_checks}
use Rattle.record_format.specs.Records.{Header, header_bytes, HeaderWithin, Node, node_bytes, NodeWithin}
use Rattle.record_find.specs.ChunkRecords.{header_after, path_after}
use Rattle.record_find.specs.Finding.{Outcome, failed, at, nowhere, find_by, find_in}

-- a Node beyond the last
abbrev pub beyond : Node
beyond = record { path = []; value = none; trie = none; writers = []; writers_sequence = none }

abbrev pub path_at : List Node → ℕ → List ℕ
path_at ns j = (get_or ns j beyond).path

-- the highest number with that path: chunk c is the Node c - 1, since chunk 0 is the Header
abbrev pub Highest : List ℕ → List Node → Outcome → Type 0
Highest path ns (failed m spot) = ⊥
Highest path ns (at c) = (i : ℕ) × ((c ≡ suc i) × ((i < length ns) × ((path_at ns i ≡ path) × ((j : ℕ) → i < j → j < length ns → path_at ns j ≡ path → ⊥))))
Highest path ns nowhere = (j : ℕ) → j < length ns → path_at ns j ≡ path → ⊥

-- a Header and Nodes within their bounds, and reads of chunks that give them
pub record Reading (verdict : ℕ → Verdict) (bytes : ℕ → List ℕ) (h : Header) (ns : List Node) : Type 0 where
  pub header : HeaderWithin h
  pub nodes : (j : ℕ) → j < length ns → NodeWithin (get_or ns j beyond)
  pub reads : (i : ℕ) → i < suc (length ns) → (verdict i ≡ done) × (bytes i ≡ get_or (header_bytes h ∷ map node_bytes ns) i [])

-- whatever reads so, a register or a copy: what is found is the highest number with that path
abbrev pub FindsHighest : Type 0
FindsHighest =
    (verdict : ℕ → Verdict) (bytes : ℕ → List ℕ) (h : Header) (ns : List Node) → Reading verdict bytes h ns → (path : List ℕ)
    → Highest path ns (find_by (λ c. path_after (verdict c) (bytes c) c path) done (header_after (verdict 0) (bytes 0) 0).0 (suc (length ns)))

-- so on a register that belongs to such records, all held, for every function F from byte strings to 32 bytes
abbrev pub RegisterFindsHighest : Type 0
RegisterFindsHighest =
    (F : List ℕ → List ℕ) → HashFunction F → (h : Header) → HeaderWithin h → (ns : List Node) → ((j : ℕ) → j < length ns → NodeWithin (get_or ns j beyond))
    → Within (all_held (header_bytes h ∷ map node_bytes ns)) → (r : Register) → Belongs F r (all_held (header_bytes h ∷ map node_bytes ns)) → judged (register_checks r) done ≡ done
    → (path : List ℕ) → Highest path ns (find_in F r path)
