-- What the inner functions require and ensure: the tree and the bitfield of a list, each by itself.
use Rattle.std.specs.Prelude.{ℕ, zero, suc, ◌+◌, ◌-◌, ◌*◌, ◌/◌, ◌%◌, ◌≤◌, ◌≡◌, Bool, cond, ◌||◌, List, [], ◌∷◌, length, eqb}
use Rattle.answer_types.specs.Verdict.{Verdict, done}
use Rattle.byte_strings.specs.Lists.{put, total, zeros}
use Rattle.bitfield.specs.Append.{with_bits, regenerated, appended}
use Rattle.blake2b.specs.Hash.{node_hash}
use Rattle.file_format.specs.Sizes.{most_chunks, used_tree, used_signatures, used_bitfield}
use Rattle.file_format.specs.Stored.{stored_root_sizes, stored_root_message}
use Rattle.file_format.specs.Belongs.{Register}
use Rattle.checks.specs.Checks.{judged}
use Rattle.writing.specs.Append.{appended_tree}
use Rattle.writing.specs.Inner.{FilledFits}
use Rattle.append_list.specs.Chunks.{chunks_of}
use Rattle.append_list.specs.Append.{list_checks, room_checks}

-- what the numbers behind 6 say
unfoldable pub own_verdict : Register → List ℕ → List ℕ → Verdict
own_verdict r lengths bytes = judged (list_checks lengths bytes) (judged (room_checks r (length lengths) (length bytes)) done)

-- the tree file with chunks appended from the chunk n on
unfoldable pub tree_with : (List ℕ → List ℕ) → List ℕ → ℕ → List (List ℕ) → List ℕ
tree_with F tree n [] = tree
tree_with F tree n (c ∷ cs) = tree_with F (appended_tree F tree n c) (n + 1) cs

-- the bitfield file after k appends from the chunk n on
unfoldable pub bits_with : List ℕ → ℕ → ℕ → List ℕ
bits_with xs n zero = xs
bits_with xs n (suc k) = bits_with (appended xs n) (n + 1) k

-- the bits of the chunk n, and the Index of its entry where no chunk behind it goes there: it is the last of the list, or of its entry
unfoldable pub bits_next : List ℕ → ℕ → Bool → List ℕ
bits_next xs n last = cond (last || eqb ((n + 1) % 8192) 0) (regenerated (with_bits xs n) (n / 8192)) (with_bits xs n)

-- the bitfield file of a list as the code makes it, each Index once. The law that it is `bits_with` is `once` in proofs/Once
unfoldable pub bits_once : List ℕ → ℕ → ℕ → List ℕ
bits_once xs n zero = xs
bits_once xs n (suc k) = bits_once (bits_next xs n (eqb k 0)) (n + 1) k

-- a chunk n lies in the data c from the place `at` to the place `end`, the tree t has room for it, and the lengths of the stored roots and of
-- the chunk fit together
pub record LeafFits (t c : List ℕ) (n at end : ℕ) : Type 0 where
  pub fills : FilledFits t n (end - at)
  pub order : at ≤ end
  pub content : end ≤ length c

-- room for the bits of k chunks behind n
pub record BitsFit (b : List ℕ) (n k : ℕ) : Type 0 where
  pub few : n + k ≤ most_chunks
  pub room : used_bitfield (n + k) ≤ length b

-- the chunks lie in the data c from the place `start` on, and the tree t has room for them
pub record LeavesFit (t c : List ℕ) (n start : ℕ) (lengths : List ℕ) : Type 0 where
  pub few : n + length lengths ≤ most_chunks
  pub tree : used_tree (n + length lengths) ≤ length t
  pub content : start + total lengths ≤ length c
  pub sum : total (stored_root_sizes t n) ≡ start

-- what the checks of a list found of the tree t, the signatures g, the bitfield b and the data c
pub record StoreFits (t g b c : List ℕ) (n size : ℕ) (lengths bytes : List ℕ) : Type 0 where
  pub few : n + length lengths ≤ most_chunks
  pub some : 1 ≤ length lengths
  pub adds : total lengths ≡ length bytes
  pub tree : used_tree (n + length lengths) ≤ length t
  pub signatures : used_signatures (n + length lengths - 1) ≤ length g
  pub bitfield : used_bitfield (n + length lengths) ≤ length b
  pub content : size + length bytes ≤ length c
  pub sum : total (stored_root_sizes t n) ≡ size

-- what it leaves of the four then, and the root hash h that it answers
pub record StorePost (t g b c : List ℕ) (n size : ℕ) (lengths bytes h t' g' b' c' : List ℕ) : Type 0 where
  pub tree : t' ≡ tree_with node_hash t n (chunks_of lengths bytes)
  pub signatures : g' ≡ put g (used_signatures n) (zeros (64 * (length lengths - 1)))
  pub bitfield : b' ≡ bits_with b n (length lengths)
  pub content : c' ≡ put c size bytes
  pub root : h ≡ node_hash (stored_root_message t' (n + length lengths))
