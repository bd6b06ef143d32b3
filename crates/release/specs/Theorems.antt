-- What a release leaves behind: on a register that belongs to chunks, held or released, and on every one on which it is done.
--
-- The notions in it: `HashFunction` (file_format, Messages), `Entry` (file_format, Entries), `Slot` and `Within` (file_format, Slots), `Register`, `Lent` and `Belongs` (file_format,
-- Belongs), the used sizes (file_format, Sizes), `judged` and `register_checks` (checks, Checks), `release_verdict` and `released_register` (Release).
use Rattle.std.specs.Prelude.{ℕ, ◌≤◌, ◌<◌, ◌≡◌, true, false, List, length, drop, set}
use Rattle.answer_types.specs.Verdict.{none, tree, done, refused}
use Rattle.tree_index.specs.Tree.{index}
use Rattle.file_format.specs.Sizes.{used_bitfield}
use Rattle.file_format.specs.Messages.{HashFunction}
use Rattle.file_format.specs.Entries.{Entry}
use Rattle.file_format.specs.Stored.{stored_hash, stored_size}
use Rattle.file_format.specs.Slots.{Slot, released, held_in, Within}
use Rattle.file_format.specs.Belongs.{Register, Lent, Belongs}
use Rattle.checks.specs.Checks.{judged, register_checks}
use Rattle.release.specs.Release.{release_verdict, released_register}

-- the leaf entry of chunk c, as it stands in the tree file
unfoldable pub leaf_entry : Register → ℕ → Entry
leaf_entry r c = record { hash = stored_hash r.tree (index 0 c); size = stored_size r.tree (index 0 c) }

-- the chunks with chunk c released: "the leaf entry of a released chunk counts as handed in"
unfoldable pub released_in : Register → List Slot → ℕ → List Slot
released_in r ss c = set ss c (released (leaf_entry r c))

-- of a chunk that is held: the release is done, and the register then belongs to the same chunks with this one released, its entry as it stood
pub record Releases (F : List ℕ → List ℕ) (r : Register) (ss : List Slot) (c : ℕ) : Type 0 where
  pub says : release_verdict r c ≡ done
  pub within : Within (released_in r ss c)
  pub belongs : Belongs F (released_register r c) (released_in r ss c)

-- what is claimed of a register that passes the checks 2 to 6 and belongs to the chunks ss
pub record ReleaseAnswers (F : List ℕ → List ℕ) (r : Register) (ss : List Slot) : Type 0 where
  pub held : (c : ℕ) → held_in ss c ≡ true → Releases F r ss c
  -- "It refuses with 18, just after 9, .. a release .. that needs a chunk not held; the place is its leaf's tree index"
  pub not_held : (c : ℕ) → c < length ss → held_in ss c ≡ false → release_verdict r c ≡ refused 18 (tree (index 0 c))
  pub no_chunk : (c : ℕ) → length ss ≤ c → release_verdict r c ≡ refused 9 none

-- for every function F from byte strings to 32 bytes
abbrev pub ReleaseAnswersForAll : Type 0
ReleaseAnswersForAll =
    (F : List ℕ → List ℕ) → HashFunction F → (ss : List Slot) → Within ss → (r : Register) → Belongs F r ss
    → judged (register_checks r) done ≡ done → ReleaseAnswers F r ss

-- what is claimed of every register on which the release of chunk c is done, whatever else its files hold
pub record ReleaseStays (r : Register) (c : ℕ) : Type 0 where
  -- it still passes the checks 2 to 6
  pub passes : judged (register_checks (released_register r c)) done ≡ done
  -- every byte beyond the used sizes stays; of the tree and the signatures every byte does
  pub bitfield : drop (used_bitfield r.n) (released_register r c).bitfield ≡ drop (used_bitfield r.n) r.bitfield
  pub content : drop r.size (released_register r c).content ≡ drop r.size r.content
  -- buffers that hold bytes still do
  pub lent : Lent r → Lent (released_register r c)

abbrev pub ReleaseStaysForAll : Type 0
ReleaseStaysForAll = (r : Register) (c : ℕ) → release_verdict r c ≡ done → ReleaseStays r c
