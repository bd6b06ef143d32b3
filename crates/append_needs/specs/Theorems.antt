-- "Sizes and counts equal those that the definitions have when the chunks are appended singly and the root hash is made once at the end."
--
-- The notions in it: `HashFunction` and `leaf_message` (file_format, Messages), `Slot` and `Within` (file_format, Slots), `Register` and `Belongs` (file_format, Belongs), the used sizes
-- (file_format, Sizes), `stored_root_message` (file_format, Stored), `Accepted` (audit, Audit), what an append, a stored signature and the root hash answer and leave (writing, Append, Sign
-- and RootHash), `made`, the entries that an append makes (writing, Inner), `runs` (blake2b, Runs), `need_of` and `need_verdict` (Needs).
use Rattle.std.specs.Prelude.{ℕ, ◌+◌, ◌*◌, ◌≤◌, ◌≡◌, List, [], ◌∷◌, ◌++◌, map, length}
use Rattle.answer_types.specs.Verdict.{done}
use Rattle.byte_strings.specs.Lists.{run, total, Bytes}
use Rattle.tree_index.specs.Tree.{completed}
use Rattle.blake2b.specs.Runs.{runs}
use Rattle.file_format.specs.Sizes.{longest_chunk, used_tree, used_signatures, used_bitfield}
use Rattle.file_format.specs.Messages.{HashFunction, leaf_message, parent_message}
use Rattle.file_format.specs.Entries.{Entry, leaf}
use Rattle.file_format.specs.Stored.{stored_root_message}
use Rattle.file_format.specs.Slots.{Slot, all_held, Within}
use Rattle.file_format.specs.Belongs.{Register, Lent, Belongs}
use Rattle.checks.specs.Checks.{judged, register_checks}
use Rattle.audit.specs.Audit.{Accepted}
use Rattle.writing.specs.Append.{append_verdict, stored_entry, sibling, new_entries, appended_register}
use Rattle.writing.specs.Sign.{sign_verdict, signed_register}
use Rattle.writing.specs.RootHash.{root_answer}
use Rattle.writing.specs.Inner.{made}
use Rattle.append_needs.specs.Needs.{Need, need_of, need_verdict}

-- a new chunk, and the 64 bytes that are stored as its signature
pub record Added : Type 0 where
  pub chunk : List ℕ
  pub signature : List ℕ

pub record Right (x : Added) : Type 0 where
  pub bytes : Bytes x.chunk
  pub long : length x.signature ≡ 64

abbrev pub EachRight : List Added → Type 0
EachRight [] = Unit {0}
EachRight (x ∷ xs) = Right x × EachRight xs

abbrev pub chunks_of : List Added → List (List ℕ)
chunks_of = map (λ (x : Added). x.chunk)

abbrev pub lengths_of : List Added → List ℕ
lengths_of = map (λ (x : Added). length x.chunk)

-- the message of the parent of two nodes
abbrev pub message_over : Entry → Entry → List ℕ
message_over l r = parent_message (l.size + r.size) l.hash r.hash

module _ (F : List ℕ → List ℕ) where
  -- one chunk appended, and its signature stored
  unfoldable pub with_one : Register → Added → Register
  with_one r x = signed_register (appended_register F r x.chunk) x.signature

  -- "the chunks are appended singly"
  unfoldable pub with_all : Register → List Added → Register
  with_all r [] = r
  with_all r (x ∷ xs) = with_all (with_one r x) xs

  -- none of these calls is refused
  unfoldable pub AllDone : Register → List Added → Type 0
  AllDone r [] = Unit {0}
  AllDone r (x ∷ xs) =
      (append_verdict r x.chunk ≡ done) × (sign_verdict (appended_register F r x.chunk) ≡ done) × AllDone (with_one r x) xs

  -- the messages that an append of the chunk n hashes behind its leaf message: of the parents that it completes, upward, each over the stored
  -- sibling and the node made before it
  unfoldable pub parent_messages : List ℕ → ℕ → List ℕ → List (List ℕ)
  parent_messages tree n chunk = run (λ d. message_over (stored_entry tree (sibling n d)) (made F tree n (leaf F chunk) d)) 0 (completed n)

  -- those of all the appends
  unfoldable pub parents_hashed : Register → List Added → List (List ℕ)
  parents_hashed r [] = []
  parents_hashed r (x ∷ xs) = parent_messages r.tree r.n x.chunk ++ parents_hashed (with_one r x) xs

-- a register's buffers have room for what is needed
pub record RoomFor (r : Register) (need : Need) : Type 0 where
  pub tree : need.tree ≤ length r.tree
  pub signatures : need.signatures ≤ length r.signatures
  pub bitfield : need.bitfield ≤ length r.bitfield
  pub content : need.content ≤ length r.content

-- a job: chunks to add to a register that belongs to the chunks ss, held or released
pub record Job (F : List ℕ → List ℕ) (r : Register) (ss : List Slot) (xs : List Added) : Type 0 where
  pub within : Within ss
  pub belongs : Belongs F r ss
  -- the audit accepts the register, and it owes no signature: one that it owed is stored first
  pub accepted : Accepted F r
  pub paid : r.s ≡ r.n
  pub each : EachRight xs
  -- the call is told the register's n and data size and the lengths of the chunks, and is not refused
  pub taken : need_verdict r.n r.size (lengths_of xs) ≡ done
  -- and there is room for what it answers
  pub room : RoomFor r (need_of r.n r.size (lengths_of xs))

-- the call knows n and the data size alone, so its sizes and counts hold of a job on any register that passes the checks 2 to 6, whatever its entries
-- are (a register of one chunk whose root says 70,000 passes them, and the call gives 9)
pub record Work (r : Register) (xs : List Added) : Type 0 where
  pub lent : Lent r
  pub checked : judged (register_checks r) done ≡ done
  pub paid : r.s ≡ r.n
  pub each : EachRight xs
  pub taken : need_verdict r.n r.size (lengths_of xs) ≡ done
  pub room : RoomFor r (need_of r.n r.size (lengths_of xs))

-- what the needs are, where `end` is the register afterwards
pub record Counted (F : List ℕ → List ℕ) (r : Register) (xs : List Added) (end : Register) (need : Need) : Type 0 where
  -- "the four file sizes afterwards, each signature counted"
  pub tree : need.tree ≡ used_tree end.n
  pub signatures : need.signatures ≡ used_signatures end.s
  pub bitfield : need.bitfield ≡ used_bitfield end.n
  pub content : need.content ≡ end.size
  -- "the number of compression runs of BLAKE2b for new leaves, completed parents and the final root hash"
  pub leaves : need.leaves ≡ total (map (λ (x : Added). runs [] (leaf_message x.chunk)) xs)
  pub parents : need.parents ≡ total (map (runs []) (parents_hashed F r xs))
  pub root : need.root ≡ runs [] (stored_root_message end.tree end.n)

pub record NeedsOfAppends (F : List ℕ → List ℕ) : Type 0 where
  -- 9 is for numbers that no register of chunks has
  pub size_fits : (r : Register) (ss : List Slot) → Within ss → Belongs F r ss → r.size ≤ longest_chunk * r.n
  -- no call is refused, and the last leaves an accepted register that owes no signature
  pub all_done : (r : Register) (ss : List Slot) (xs : List Added) → Job F r ss xs → AllDone F r xs
  pub accepted : (r : Register) (ss : List Slot) (xs : List Added) → Job F r ss xs → Accepted F (with_all F r xs)
  pub paid : (r : Register) (ss : List Slot) (xs : List Added) → Job F r ss xs → (with_all F r xs).s ≡ (with_all F r xs).n
  -- which belongs to the old chunks and the new ones
  pub belongs : (r : Register) (ss : List Slot) (xs : List Added) → Job F r ss xs → Belongs F (with_all F r xs) (ss ++ all_held (chunks_of xs))
  -- the needs are its sizes, and the runs of what was hashed
  pub counted : (r : Register) (ss : List Slot) (xs : List Added) → Job F r ss xs
      → Counted F r xs (with_all F r xs) (need_of r.n r.size (lengths_of xs))
  -- and this is what was hashed: an append makes an entry for its leaf message and one for each parent message, each with the message's
  -- hash, and no others
  pub hashed : (tree : List ℕ) (n : ℕ) (chunk : List ℕ)
      → map (λ (e : Entry). e.hash) (new_entries F tree n chunk) ≡ F (leaf_message chunk) ∷ map F (parent_messages F tree n chunk)
  -- and the root hash at the end is that of the root message
  pub rooted : (r : Register) (ss : List Slot) (xs : List Added) → Job F r ss xs
      → root_answer F (with_all F r xs) ≡ F (stored_root_message (with_all F r xs).tree (with_all F r xs).n)

-- for every function F from byte strings to 32 bytes; of BLAKE2b itself it says what the calls do
abbrev pub NeedsOfAppendsForAll : Type 0
NeedsOfAppendsForAll = (F : List ℕ → List ℕ) → HashFunction F → NeedsOfAppends F

-- of a job on any such register: no call is refused, nothing is owed at the end, and the needs are its sizes and the runs of what was hashed
pub record CountsOfWork (F : List ℕ → List ℕ) : Type 0 where
  pub all_done : (r : Register) (xs : List Added) → Work r xs → AllDone F r xs
  pub paid : (r : Register) (xs : List Added) → Work r xs → (with_all F r xs).s ≡ (with_all F r xs).n
  pub counted : (r : Register) (xs : List Added) → Work r xs → Counted F r xs (with_all F r xs) (need_of r.n r.size (lengths_of xs))
  pub rooted : (r : Register) (xs : List Added) → Work r xs
      → root_answer F (with_all F r xs) ≡ F (stored_root_message (with_all F r xs).tree (with_all F r xs).n)

abbrev pub CountsOfWorkForAll : Type 0
CountsOfWorkForAll = (F : List ℕ → List ℕ) → HashFunction F → CountsOfWork F
