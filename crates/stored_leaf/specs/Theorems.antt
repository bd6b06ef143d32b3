-- What the entry is on a register that belongs to chunks, and that a release leaves it.
--
-- The notions in it: `HashFunction` (file_format, Messages), `Slot`, `slot_entry` and `Within` (file_format, Slots), `Register` and `Belongs` (file_format, Belongs), `judged` and
-- `register_checks` (checks, Checks), `release_verdict` and `released_register` (release, Release), `leaf_verdict`, `leaf_hash` and `leaf_length` (StoredLeaf).
use Rattle.std.specs.Prelude.{ℕ, ◌≤◌, ◌<◌, ◌≡◌, List, [], length, get_or}
use Rattle.answer_types.specs.Verdict.{Verdict, none, done, refused}
use Rattle.file_format.specs.Messages.{HashFunction}
use Rattle.file_format.specs.Entries.{Entry}
use Rattle.file_format.specs.Slots.{Slot, held, slot_entry, Within}
use Rattle.file_format.specs.Belongs.{Register, Belongs}
use Rattle.checks.specs.Checks.{judged, register_checks}
use Rattle.release.specs.Release.{release_verdict, released_register}
use Rattle.stored_leaf.specs.StoredLeaf.{leaf_verdict, leaf_hash, leaf_length}

-- a call with this verdict is done, and gives this entry: its hash in what is lent, whatever that held, and its length
pub record Gives (v : Verdict) (t : List ℕ) (k : ℕ) (e : Entry) : Type 0 where
  pub says : v ≡ done
  pub hash : (out : List ℕ) → leaf_hash v t k out ≡ e.hash
  pub length : leaf_length v t k ≡ e.size

-- what is claimed of a register that passes the checks 2 to 6 and belongs to the chunks ss, held or released
pub record StoredLeaves (F : List ℕ → List ℕ) (r : Register) (ss : List Slot) : Type 0 where
  -- of a held chunk its leaf hash and its length, of a released one the leaf entry that is left of it
  pub entry : (k : ℕ) → k < length ss → Gives (leaf_verdict r k) r.tree k (slot_entry F (get_or ss k (held [])))
  -- "9. The chunk number is not below n"
  pub no_chunk : (k : ℕ) → length ss ≤ k → leaf_verdict r k ≡ refused 9 none

-- for every function F from byte strings to 32 bytes
abbrev pub StoredLeavesForAll : Type 0
StoredLeavesForAll =
    (F : List ℕ → List ℕ) → HashFunction F → (ss : List Slot) → Within ss → (r : Register) → Belongs F r ss
    → judged (register_checks r) done ≡ done → StoredLeaves F r ss

-- what is claimed of every register on which the release of chunk c is done, whatever its files hold: every leaf's entry is told as before
pub record LeavesStay (r : Register) (c : ℕ) : Type 0 where
  pub says : (k : ℕ) → leaf_verdict (released_register r c) k ≡ leaf_verdict r k
  pub hash : (k : ℕ) (out : List ℕ) → leaf_hash (leaf_verdict (released_register r c) k) (released_register r c).tree k out ≡ leaf_hash (leaf_verdict r k) r.tree k out
  pub length : (k : ℕ) → leaf_length (leaf_verdict (released_register r c) k) (released_register r c).tree k ≡ leaf_length (leaf_verdict r k) r.tree k

abbrev pub LeavesStayForAll : Type 0
LeavesStayForAll = (r : Register) (c : ℕ) → release_verdict r c ≡ done → LeavesStay r c
