-- What is told behind a read, and found behind the checks of a call; and what the inner functions require. `partly` says that the files are a copy's.
use Rattle.std.specs.Prelude.{ℕ, ◌<◌, ◌≡◌, Bool, List}
use Rattle.answer_types.specs.Verdict.{Verdict, done}
use Rattle.lookup.specs.Lookup.{Found, found_behind, held_place_in}
use Rattle.lookup.specs.Inner.{known_if, SearchedHeld}
use Rattle.lookup.specs.Read.{verdict_found, bytes_found, hash_judged}
use Rattle.lookup.specs.Meaning.{PartIn, PlacedIn}
use Rattle.record_fields.specs.declared.rows.Part.{Part}
use Rattle.record_node.specs.declared.reading.Node.{Node as CodeNode}
use Rattle.record_find.specs.ChunkRecords.{header_after, node_after, path_after}
use Rattle.record_find.specs.Finding.{Outcome, find_by}

-- of chunk c, whose read found f in the data
module _ (content : List ℕ) (c : ℕ) (f : Found) where
  -- a part that is found lies within the data, and the chunk's leaf has a tree index
  pub record ReadIn : Type 0 where
    pub part : PartIn content f
    pub small : verdict_found f ≡ done → c < 2097152

  abbrev pub header_behind : Verdict × Part
  header_behind = header_after (verdict_found f) (bytes_found content f) c

  abbrev pub node_behind : Verdict × CodeNode
  node_behind = node_after (verdict_found f) (bytes_found content f) c

  abbrev pub path_behind : List ℕ → Verdict × Bool
  path_behind path = path_after (verdict_found f) (bytes_found content f) c path

-- of the files of n chunks
module _ (partly : Bool) (tree bits content : List ℕ) (n : ℕ) where
  -- they may be searched, and a chunk that has a place has it within them
  pub record Readable : Type 0 where
    pub searched : SearchedHeld partly tree bits n
    pub placed : (c : ℕ) → PlacedIn tree content c (held_place_in (known_if partly bits) tree n bits c)

  -- behind the verdict v of the checks
  module _ (F : List ℕ → List ℕ) (v : Verdict) where
    -- what the read of chunk c finds
    abbrev pub read_behind : ℕ → Found
    read_behind c = hash_judged F tree content c (found_behind v (held_place_in (known_if partly bits) tree n bits c))

    -- whether it has the path
    abbrev pub judge_behind : List ℕ → ℕ → Verdict × Bool
    judge_behind path c = path_behind content c (read_behind c) path

    -- what finding the path gives
    abbrev pub find_behind : List ℕ → Outcome
    find_behind path = find_by (judge_behind path) v (header_behind content 0 (read_behind 0)).0 n
