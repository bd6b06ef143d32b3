-- The verified read: "names the metadata or the content register, checks only the one named, and hands back that register's own bytes, after
-- comparing the leaf hash".
use Rattle.std.specs.Prelude.{ℕ, ◌+◌, ◌-◌, cond, List, []}
use Rattle.answer_types.specs.Verdict.{Verdict, tree as at_tree, done, refused}
use Rattle.byte_strings.specs.Lists.{part, same_list}
use Rattle.tree_index.specs.Tree.{index}
use Rattle.file_format.specs.Messages.{leaf_message}
use Rattle.file_format.specs.Stored.{stored_hash}
use Rattle.file_format.specs.Belongs.{Register}
use Rattle.lookup.specs.Descent.{always}
use Rattle.lookup.specs.Lookup.{Found, refusal, found, place_in, held_place_of}

-- what is found as a verdict
abbrev pub verdict_found : Found → Verdict
verdict_found (refusal m at) = refused m at
verdict_found (found a b) = done

-- the bytes of a part that is found, from a start to an end; nothing after a refusal
abbrev pub bytes_found : List ℕ → Found → List ℕ
bytes_found content (refusal m at) = []
bytes_found content (found start end) = part content start (end - start)

-- the bytes at a place, which has a start and a length
abbrev pub bytes_at : List ℕ → Found → List ℕ
bytes_at content (refusal m at) = []
bytes_at content (found start size) = part content start size

-- the bytes of chunk c, by its place
unfoldable pub chunk_bytes : Register → ℕ → List ℕ
chunk_bytes r c = bytes_at r.content (place_in always r.tree r.n c)

-- a place, judged by the leaf hash of the bytes there: its refusal, or where they begin and end. "10. .. a read finds another leaf hash"
abbrev pub hash_judged : (List ℕ → List ℕ) → List ℕ → List ℕ → ℕ → Found → Found
hash_judged F tree content c (refusal m at) = refusal m at
hash_judged F tree content c (found start size) =
    cond (same_list (stored_hash tree (index 0 c)) (F (leaf_message (part content start size)))) (found start (start + size)) (refusal 10 (at_tree (index 0 c)))

module _ (F : List ℕ → List ℕ) where
  -- what the checks of a read find: the refusals of a place lookup, with 18 for a chunk that is not held, and then the leaf hash
  unfoldable pub read_found : Register → ℕ → Found
  read_found r c = hash_judged F r.tree r.content c (held_place_of r c)

  unfoldable pub read_verdict : Register → ℕ → Verdict
  read_verdict r c = verdict_found (read_found r c)

  -- the chunk; nothing after a refusal
  unfoldable pub read_part : Register → ℕ → List ℕ
  read_part r c = bytes_found r.content (read_found r c)

-- which of the two registers a read names
pub data Name : Type 0 where
  metadata : Name
  contents : Name

abbrev pub named : Name → Register → Register → Register
named metadata m c = m
named contents m c = c
