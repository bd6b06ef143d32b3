-- What is claimed of the walk along two packets, for every function F in the check of both.
--
-- The notions in it: `HashFunction` (file_format, Messages), `message_for` and `root_message_for` (file_format, Images), `Register` and `Belongs` (file_format, Belongs),
-- `Within` (file_format, Slots), `judged` and `register_checks` (checks, Checks), `index`, `left_child`, `right_child`, `filled` (tree_index, Tree), `siblings` and `packet_of`
-- (packet, Packet), `steps`, `sibling_entries`, `packet_root_message` and `packet_verdict` (packet, Check), `compare_packets` (Walk).
use Rattle.std.specs.Prelude.{ℕ, suc, ◌/◌, ◌%◌, ◌^◌, ◌<◌, ◌≡◌, ◌≢◌, true, List, [], length, get_or}
use Rattle.answer_types.specs.Verdict.{Spot, done, refused}
use Rattle.byte_strings.specs.Lists.{Bytes}
use Rattle.tree_index.specs.Tree.{index, left_child, right_child, filled}
use Rattle.file_format.specs.Messages.{HashFunction, leaf_message}
use Rattle.file_format.specs.Entries.{hole}
use Rattle.file_format.specs.Images.{message_for, root_message_for}
use Rattle.file_format.specs.Slots.{Slot, held_in, Within}
use Rattle.file_format.specs.Belongs.{Register, Belongs}
use Rattle.checks.specs.Checks.{judged, register_checks}
use Rattle.packet.specs.Packet.{siblings, packet_of}
use Rattle.packet.specs.Inner.{ChunkOf}
use Rattle.packet.specs.Check.{Step, parent_message_of, packet_chunk, sibling_entries, steps, packet_root_message, packet_verdict}
use Rattle.packet_compare.specs.Walk.{Walk, first_refused, second_refused, same_chunk, at_index, at_roots, compare_packets}

-- two different messages with the same hash
pub record Pair (F : List ℕ → List ℕ) (m₁ m₂ : List ℕ) : Type 0 where
  pub differ : m₁ ≢ m₂
  pub one_hash : F m₁ ≡ F m₂

-- the step d of a way up, counted from the leaf
abbrev pub step_at : List Step → ℕ → Step
step_at ss d = get_or ss d (record { at = 0; message = []; entry = hole })

-- such a pair at the step d of two ways up
pub record PairAt (F : List ℕ → List ℕ) (ss ts : List Step) (d : ℕ) : Type 0 where
  pub below : d < length ss
  pub pair : Pair F (step_at ss d).message (step_at ts d).message

-- the answer names the first pair: at the tree index of a step with none below it, or at the roots, with none at any step
pub data Names (F : List ℕ → List ℕ) (p q : List ℕ) (n c : ℕ) (w : Walk) : Type 0 where
  by_index : (d : ℕ) → w ≡ at_index (step_at (steps F p n c) d).at → PairAt F (steps F p n c) (steps F q n c) d
      → ((e : ℕ) → e < d → PairAt F (steps F p n c) (steps F q n c) e → ⊥) → Names F p q n c w
  by_roots : w ≡ at_roots → Pair F (packet_root_message F p n c) (packet_root_message F q n c)
      → ((e : ℕ) → PairAt F (steps F p n c) (steps F q n c) e → ⊥) → Names F p q n c w

-- of two packets that the check accepts under one root hash, n and i
pub record Tells (F : List ℕ → List ℕ) (p q : List ℕ) (n c : ℕ) (root : List ℕ) : Type 0 where
  -- "equal chunks answer "same chunk""
  pub same : packet_chunk p ≡ packet_chunk q → compare_packets F p q n c root ≡ same_chunk
  -- where their chunks differ, the walk names a pair, and it is the first
  pub other : packet_chunk p ≢ packet_chunk q → Names F p q n c (compare_packets F p q n c root)

-- "The walk first checks each packet, and a refusal says which"
pub record Refuses (F : List ℕ → List ℕ) (p q : List ℕ) (n c : ℕ) (root : List ℕ) : Type 0 where
  pub first : (m : ℕ) (at : Spot) → packet_verdict F p n c root ≡ refused m at → compare_packets F p q n c root ≡ first_refused m at
  pub second : (m : ℕ) (at : Spot) → packet_verdict F p n c root ≡ done → packet_verdict F q n c root ≡ refused m at
      → compare_packets F p q n c root ≡ second_refused m at

-- where the steps of a packet stand, and what they hash
pub record Stands (F : List ℕ → List ℕ) (p : List ℕ) (n c : ℕ) : Type 0 where
  pub count : length (steps F p n c) ≡ suc (length (siblings n c))
  -- the step d stands at the ancestor of the leaf 2i at depth d, which is filled for n
  pub at : (d : ℕ) → d < length (steps F p n c) → (step_at (steps F p n c) d).at ≡ index d (c / 2 ^ d)
  pub there : ChunkOf n c → (d : ℕ) → d < length (steps F p n c) → filled n (index d (c / 2 ^ d)) ≡ true
  -- at the leaf its message is the chunk's
  pub leaf : (step_at (steps F p n c) 0).message ≡ leaf_message (packet_chunk p)
  -- above, that of the entries at the left and right child: the step below and its sibling, in the order of their tree indexes
  pub left : (d : ℕ) → d < length (siblings n c) → c / 2 ^ d % 2 ≡ 0
      → (left_child (index (suc d) (c / 2 ^ suc d)) ≡ index d (c / 2 ^ d)) × (right_child (index (suc d) (c / 2 ^ suc d)) ≡ get_or (siblings n c) d 0)
      × ((step_at (steps F p n c) (suc d)).message ≡ parent_message_of (step_at (steps F p n c) d).entry (get_or (sibling_entries p n c) d hole))
  pub right : (d : ℕ) → d < length (siblings n c) → c / 2 ^ d % 2 ≡ 1
      → (left_child (index (suc d) (c / 2 ^ suc d)) ≡ get_or (siblings n c) d 0) × (right_child (index (suc d) (c / 2 ^ suc d)) ≡ index d (c / 2 ^ d))
      × ((step_at (steps F p n c) (suc d)).message ≡ parent_message_of (get_or (sibling_entries p n c) d hole) (step_at (steps F p n c) d).entry)
  -- and the entry that it gives has the message's hash
  pub hash : (d : ℕ) → d < length (steps F p n c) → (step_at (steps F p n c) d).entry.hash ≡ F (step_at (steps F p n c) d).message

-- and of a packet that is made from a register of chunks, of which this one is held: each message is that of the chunks at the tree index of its step
pub record StandsMade (F : List ℕ → List ℕ) (r : Register) (ss : List Slot) (c : ℕ) : Type 0 where
  pub message : (d : ℕ) → d < length (steps F (packet_of r c) r.n c)
      → (step_at (steps F (packet_of r c) r.n c) d).message ≡ message_for F ss (step_at (steps F (packet_of r c) r.n c) d).at
  pub roots : packet_root_message F (packet_of r c) r.n c ≡ root_message_for F ss

-- for every function F from byte strings to 32 bytes, and every two packets of bytes
abbrev pub TellsForAll : Type 0
TellsForAll =
    (F : List ℕ → List ℕ) → HashFunction F → (p q : List ℕ) → Bytes p → Bytes q → (n c : ℕ) (root : List ℕ)
    → packet_verdict F p n c root ≡ done → packet_verdict F q n c root ≡ done → Tells F p q n c root

abbrev pub RefusesForAll : Type 0
RefusesForAll = (F : List ℕ → List ℕ) (p q : List ℕ) (n c : ℕ) (root : List ℕ) → Refuses F p q n c root

abbrev pub StandsForAll : Type 0
StandsForAll = (F : List ℕ → List ℕ) (p : List ℕ) (n c : ℕ) → Stands F p n c

-- for every register that belongs to chunks, held or released, and passes the checks 2 to 6, and each chunk that is held
abbrev pub StandsMadeForAll : Type 0
StandsMadeForAll =
    (F : List ℕ → List ℕ) → HashFunction F → (ss : List Slot) → Within ss → (r : Register) → Belongs F r ss → judged (register_checks r) done ≡ done
    → (c : ℕ) → held_in ss c ≡ true → StandsMade F r ss c
