-- "On each accepted register that holds all its pieces it equals document 01's root hash of its first m chunks; 9 is given for m above n."
--
-- The notions in it: `stored_held` (bitfield, Release), `HashFunction` (file_format, Messages), `Slot`, `all_held` and `Within` (file_format, Slots), `Register`, `Lent` and
-- `Belongs` (file_format, Belongs), `root_hash_for` (file_format, Images), `Accepted` (audit, Audit), `root_verdict` and `root_answer` (writing, RootHash), `prefix_verdict` and
-- `prefix_root` (PrefixRoot).
use Rattle.std.specs.Prelude.{ℕ, ◌≤◌, ◌<◌, ◌≡◌, true, List, [], ◌∷◌, take}
use Rattle.answer_types.specs.Verdict.{Spot, none, done, refused}
use Rattle.byte_strings.specs.Lists.{zeros}
use Rattle.bitfield.specs.Release.{stored_held}
use Rattle.file_format.specs.Messages.{HashFunction}
use Rattle.file_format.specs.Images.{root_hash_for}
use Rattle.file_format.specs.Slots.{Slot, all_held, Within}
use Rattle.file_format.specs.Belongs.{Register, Lent, Belongs}
use Rattle.audit.specs.Audit.{Accepted}
use Rattle.writing.specs.RootHash.{root_verdict, root_answer}
use Rattle.prefix_root.specs.PrefixRoot.{prefix_verdict, prefix_root}

pub record PrefixRoots (F : List ℕ → List ℕ) : Type 0 where
  -- an accepted register is refused for no m up to n
  pub takes : (r : Register) → Accepted F r → (m : ℕ) → m ≤ r.n → prefix_verdict r m ≡ done
  -- and with 9 for each m above n
  pub above : (r : Register) → Accepted F r → (m : ℕ) → r.n < m → prefix_verdict r m ≡ refused 9 none
  -- "On each accepted register that holds all its pieces it equals document 01's root hash of its first m chunks": where each stored data bit below n is
  -- 1 it belongs to a chunk sequence, its own, all of it held
  pub held : (r : Register) → Lent r → Accepted F r → ((k : ℕ) → k < r.n → stored_held r.bitfield k ≡ true)
      → (cs : List (List ℕ)) × ((Within (all_held cs) × Belongs F r (all_held cs)) × ((m : ℕ) → m ≤ r.n → prefix_root F r m ≡ root_hash_for F (all_held (take m cs))))
  -- "also where pieces are released": an accepted register belongs to its own chunks, held or released, and it is the root hash of the first m of them
  pub accepted : (r : Register) → Lent r → Accepted F r
      → (ss : List Slot) × ((Within ss × Belongs F r ss) × ((m : ℕ) → m ≤ r.n → prefix_root F r m ≡ root_hash_for F (take m ss)))
  -- the same of a register of which it is only known that it belongs to chunks and is not refused
  pub answers : (r : Register) (ss : List Slot) → Within ss → Belongs F r ss → (m : ℕ) → prefix_verdict r m ≡ done
      → prefix_root F r m ≡ root_hash_for F (take m ss)
  -- of every register that is not refused, whatever its bytes: of no chunks it is the hash of "02 alone"
  pub empty : (r : Register) → prefix_verdict r 0 ≡ done → prefix_root F r 0 ≡ F (2 ∷ [])
  -- and of all chunks what the call for the root hash says, refusals too
  pub all : (r : Register) → (prefix_verdict r r.n ≡ root_verdict r) × (prefix_root F r r.n ≡ root_answer F r)
  -- beside a refusal stand zeros
  pub zero : (r : Register) (m k : ℕ) (at : Spot) → prefix_verdict r m ≡ refused k at → prefix_root F r m ≡ zeros 32

-- for every function F from byte strings to 32 bytes
abbrev pub PrefixRootsForAll : Type 0
PrefixRootsForAll = (F : List ℕ → List ℕ) → HashFunction F → PrefixRoots F
