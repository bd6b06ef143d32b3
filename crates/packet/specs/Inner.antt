-- Making and checking in the steps that the code takes, and what its inner functions require.
use Rattle.std.specs.Prelude.{ℕ, ◌+◌, ◌-◌, ◌*◌, ◌/◌, ◌^◌, ◌≤◌, ◌<◌, ◌≡◌, true, cond, List, [], ◌∷◌, map, length, get_or, ltb, eqb}
use Rattle.answer_types.specs.Verdict.{done}
use Rattle.byte_strings.specs.Lists.{part, put, run, joined, total, zeros}
use Rattle.tree_index.specs.Tree.{index, roots}
use Rattle.file_format.specs.Sizes.{most_chunks, longest_chunk, entry_place, used_tree}
use Rattle.file_format.specs.Messages.{root_message}
use Rattle.file_format.specs.Entries.{Entry, hole, entry_bytes, leaf, parent_of}
use Rattle.lookup.specs.Lookup.{Found}
use Rattle.lookup.specs.Read.{verdict_found, bytes_found}
use Rattle.lookup.specs.Meaning.{PartIn}
use Rattle.packet.specs.Packet.{beside, other_roots, packet_with, place_above}
use Rattle.packet.specs.Check.{shape_right, packet_chunk, entry_in, entries_in, sibling_entries, ordered, in_turn, items, Step, steps_above}
use Rattle.packet.specs.declared.checking.Node.{Node}

-- a chunk of a register that passes check 2
pub record ChunkOf (n c : ℕ) : Type 0 where
  pub count : n ≤ most_chunks
  pub below : c < n

-- the place of the j-th of the others, where the place k is left out
abbrev pub skipped : ℕ → ℕ → ℕ
skipped k j = cond (ltb j k) j (j + 1)

-- what stands at place j where x was put in at the place k of a row
unfoldable pub turned : {A : Type 0} → (ℕ → A) → ℕ → A → ℕ → A
turned f k x j = cond (ltb j k) (f j) (cond (eqb j k) x (f (j - 1)))

-- the entry of the root j, where e stands for the root at place k and the others lie from a place on
unfoldable pub turn_entry : List ℕ → ℕ → ℕ → Entry → ℕ → Entry
turn_entry p at k e j = turned (λ i. entry_in p (at + 40 * i)) k e j

-- the hashes and the lengths of all roots, of which there are count
unfoldable pub hash_row : List ℕ → ℕ → ℕ → Entry → ℕ → List (List ℕ)
hash_row p at k e count = run (λ j. (turn_entry p at k e j).hash) 0 count

unfoldable pub size_row : List ℕ → ℕ → ℕ → Entry → ℕ → List ℕ
size_row p at k e count = run (λ j. (turn_entry p at k e j).size) 0 count

-- the root message that e gives for the root above chunk c, with the others from a place on
unfoldable pub message_with : List ℕ → ℕ → ℕ → ℕ → Entry → List ℕ
message_with p at n c e =
    root_message (items (roots n) (in_turn (place_above (roots n) c) e (entries_in p at (length (other_roots n c)))))

-- the lengths of k entries from a place on
unfoldable pub sizes_in : List ℕ → ℕ → ℕ → List ℕ
sizes_in p at k = run (λ j. (entry_in p (at + 40 * j)).size) 0 k

-- a sum that is held exactly up to 68,719,476,736, and beyond it only as beyond
pub record Summed (whole sum : ℕ) : Type 0 where
  pub within : whole ≤ 68719476736 → sum ≡ whole
  pub over : 68719476736 < whole → 68719476736 < sum
  pub small : sum ≤ 68719476737

-- an entry as the code holds it
abbrev pub entry_of : Node → Entry
entry_of e = record { hash = e.hash; size = e.size }

-- k entries lie from a place on
pub record RowIn (p : List ℕ) (at k : ℕ) : Type 0 where
  pub few : k ≤ 20
  pub inside : at + 40 * k ≤ length p

-- the entry of the root j lies from a place on, where that of the root at place k is left out
pub record TurnIn (p : List ℕ) (at k j : ℕ) : Type 0 where
  pub before : j < k → at + 40 * j + 40 ≤ length p
  pub behind : k < j → at + 40 * j ≤ length p
  pub few : j < 20

-- the same of all roots, of which there are count
pub record TurnsIn (p : List ℕ) (at k count : ℕ) : Type 0 where
  pub few : count ≤ 20
  pub place : k < count
  pub inside : at + 40 * (count - 1) ≤ length p

-- the other roots lie from a place on
pub record OthersIn (p : List ℕ) (at n c : ℕ) : Type 0 where
  pub chunk : ChunkOf n c
  pub inside : at + 40 * length (other_roots n c) ≤ length p

-- the entries of a row may be added to a size
pub record Climbable (p : List ℕ) (at k size : ℕ) : Type 0 where
  pub row : RowIn p at k
  pub sum : size + total (sizes_in p at k) ≤ 68719476736

-- the siblings of chunk c in the first k depths
unfoldable pub sibling_row : ℕ → ℕ → List ℕ
sibling_row c k = run (λ h. index h (beside (c / 2 ^ h))) 0 k

-- the first m numbers of a list without the one at place k
unfoldable pub other_row : List ℕ → ℕ → ℕ → List ℕ
other_row is k m = run (λ j. get_or is (skipped k j) 0) 0 m

-- the stored entries at the first k of the indexes is, one behind the other
unfoldable pub entries_at : List ℕ → List ℕ → ℕ → List ℕ
entries_at t is k = joined (run (λ j. part t (entry_place (get_or is j 0)) 40) 0 k)

-- a register has the entries of its chunks, chunk c among them, and the chunk is no longer than it may be
pub record Readable (t : List ℕ) (n c : ℕ) (bytes : List ℕ) : Type 0 where
  pub chunk : ChunkOf n c
  pub inside : used_tree n ≤ length t
  pub short : length bytes ≤ longest_chunk

-- what a read found may go into a packet: it lies within the data, and is such a chunk
pub record ReadIn (t content : List ℕ) (n c : ℕ) (p : Found) : Type 0 where
  pub part : PartIn content p
  pub readable : verdict_found p ≡ done → Readable t n c (bytes_found content p)

-- the buffer has room for the packet
pub record Roomy (t : List ℕ) (n c : ℕ) (bytes out : List ℕ) : Type 0 where
  pub readable : Readable t n c bytes
  pub room : length (packet_with t n c bytes) ≤ length out

module _ (F : List ℕ → List ℕ) where
  -- the entry that the siblings ss lead up to, from the block k with the entry e
  unfoldable pub climbed : ℕ → Entry → List Entry → Entry
  climbed k e [] = e
  climbed k e (s ∷ ss) = climbed (k / 2) (ordered k (parent_of F) e s) ss

-- a packet that passes the checks 2, 9 and 12
pub record Shaped (p : List ℕ) (n c : ℕ) : Type 0 where
  pub chunk : ChunkOf n c
  pub shape : shape_right p n c ≡ true

-- the entries that steps give, one behind the other
unfoldable pub step_bytes : List Step → List ℕ
step_bytes ss = joined (map (λ (s : Step). entry_bytes s.entry) ss)

-- these at the front of a row that has room for 20, and zeros behind them
unfoldable pub path_row : List Step → List ℕ
path_row ss = put (zeros 800) 0 (step_bytes ss)

-- what a check hands on: a leaf, and a row of the parents on the way
pub record Handed : Type 0 where
  pub own : Entry
  pub row : List ℕ

-- the same as the code holds it
abbrev pub handed : Node → List ℕ → Handed
handed e row = record { own = entry_of e; row = row }

-- nothing: zeros
unfoldable pub unhanded : Handed
unhanded = record { own = hole; row = zeros 800 }

module _ (F : List ℕ → List ℕ) where
  -- the leaf of the packet's chunk c, and the parents that it leads to by its siblings
  unfoldable pub handed_on : List ℕ → ℕ → ℕ → Handed
  handed_on p n c =
      record {
        own = leaf F (packet_chunk p);
        row = path_row (steps_above F 0 c (leaf F (packet_chunk p)) (sibling_entries p n c));
      }
