-- What calls leave of what a copy knows, and of an accepted copy. All of it is said of every copy, however it came about: a known entry never changes, so a copy
-- that knows a leaf above 65,536 is not accepted and never will be; a release keeps an accepted copy accepted, and every leaf's entry as it was told.
--
-- The notions in it: `HashFunction` (file_format, Messages), `Copy` and `known` (copy_checks, Copy), `take_verdict` and `taken_in` (copy_take_in, TakeIn),
-- `copy_release_verdict` and `released_copy` (copy_release, Release), `AcceptedCopy` (copy_audit, Audit), `leaf_hash` and `leaf_length` (stored_leaf, StoredLeaf),
-- `copy_leaf_verdict` (copy_stored_leaf, StoredLeaf).
use Rattle.std.specs.Prelude.{ℕ, ◌<◌, ◌≡◌, true, List}
use Rattle.answer_types.specs.Verdict.{done}
use Rattle.byte_strings.specs.Lists.{part, Bytes}
use Rattle.tree_index.specs.Tree.{index}
use Rattle.file_format.specs.Sizes.{longest_chunk, entry_place}
use Rattle.file_format.specs.Messages.{HashFunction}
use Rattle.file_format.specs.Stored.{stored_size}
use Rattle.stored_leaf.specs.StoredLeaf.{leaf_hash, leaf_length}
use Rattle.copy_checks.specs.Copy.{Copy, known}
use Rattle.copy_take_in.specs.TakeIn.{take_verdict, taken_in}
use Rattle.copy_release.specs.Release.{copy_release_verdict, released_copy}
use Rattle.copy_stored_leaf.specs.StoredLeaf.{copy_leaf_verdict}
use Rattle.copy_audit.specs.Audit.{AcceptedCopy}

-- what calls make of a copy, one after the other: packets of bytes that are taken in, and releases. A call that is refused changes nothing
pub data Later (F : List ℕ → List ℕ) (c : Copy) : Copy → Type 0 where
  still : Later F c c
  took : (d : Copy) (p : List ℕ) (i : ℕ) (root : List ℕ) → Later F c d → Bytes p → take_verdict F d p i root ≡ done → Later F c (taken_in F d p i)
  released : (d : Copy) (i : ℕ) → Later F c d → copy_release_verdict d i ≡ done → Later F c (released_copy d i)

-- of an entry that c knows: d knows it too, with the same 40 bytes
pub record Stays (c d : Copy) (j : ℕ) : Type 0 where
  pub knows : known d j ≡ true
  pub entry : part d.tree (entry_place j) 40 ≡ part c.tree (entry_place j) 40

-- a known leaf is longer than a chunk may be
pub record KnowsLong (c : Copy) : Type 0 where
  pub chunk : ℕ
  pub below : chunk < c.n
  pub knows : known c (index 0 chunk) ≡ true
  pub long : longest_chunk < stored_size c.tree (index 0 chunk)

-- of every leaf the same stored entry is told, or the same refusal
pub record LeavesStay (c d : Copy) : Type 0 where
  pub says : (k : ℕ) → copy_leaf_verdict d k ≡ copy_leaf_verdict c k
  pub hash : (k : ℕ) (out : List ℕ) → leaf_hash (copy_leaf_verdict d k) d.tree k out ≡ leaf_hash (copy_leaf_verdict c k) c.tree k out
  pub length : (k : ℕ) → leaf_length (copy_leaf_verdict d k) d.tree k ≡ leaf_length (copy_leaf_verdict c k) c.tree k

pub record CopiesKept (F : List ℕ → List ℕ) : Type 0 where
  -- a known entry never changes
  pub stays : (c d : Copy) → Later F c d → (j : ℕ) → known c j ≡ true → Stays c d j
  -- a copy that knows a leaf above 65,536 is not accepted, and never will be
  pub never : (c d : Copy) → Later F c d → KnowsLong c → AcceptedCopy F d → ⊥
  -- a release keeps an accepted copy accepted
  pub release : (c : Copy) → AcceptedCopy F c → (i : ℕ) → copy_release_verdict c i ≡ done → AcceptedCopy F (released_copy c i)
  -- and of any copy what is told of the leaves
  pub leaves : (c : Copy) (i : ℕ) → copy_release_verdict c i ≡ done → LeavesStay c (released_copy c i)

-- for every function F from byte strings to 32 bytes
abbrev pub CopiesKeptForAll : Type 0
CopiesKeptForAll = (F : List ℕ → List ℕ) → HashFunction F → CopiesKept F
