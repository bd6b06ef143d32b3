-- What is claimed of a copy that is made for a count and a data size, grown by taking in packets, and of which chunks are released: the audit of copies
-- accepts it.
--
-- A count of 0 goes with a data size of 0: a copy of no chunks has no roots, so 6 is not passed over, and any other size is refused with 6. A packet gives
-- siblings and other roots by their entries alone. One of them that is a leaf over 65,536 can be right under the root hash; it becomes known, and the audit
-- finds it wrong. So this is claimed of packets whose given leaves are no longer than a chunk may be. That both are needed is stated in Needed.
--
-- The notions in it: `HashFunction` (file_format, Messages), `Copy` (copy_checks, Copy), `make_verdict` and `made_copy` (copy_make, Make), `lying`, `take_verdict` and
-- `taken_in` (copy_take_in, TakeIn), `copy_release_verdict` and `released_copy` (copy_release, Release), `AcceptedCopy` (copy_audit, Audit).
use Rattle.std.specs.Prelude.{ℕ, zero, suc, ◌≡◌, Bool, true, ◌&&◌, List, [], ◌∷◌, leb}
use Rattle.answer_types.specs.Verdict.{done}
use Rattle.byte_strings.specs.Lists.{Bytes}
use Rattle.tree_index.specs.Tree.{depth}
use Rattle.file_format.specs.Sizes.{longest_chunk}
use Rattle.file_format.specs.Messages.{HashFunction}
use Rattle.copy_checks.specs.Copy.{Copy}
use Rattle.copy_make.specs.Make.{make_verdict, made_copy}
use Rattle.copy_take_in.specs.TakeIn.{Given, lying, take_verdict, taken_in}
use Rattle.copy_release.specs.Release.{copy_release_verdict, released_copy}
use Rattle.copy_audit.specs.Audit.{AcceptedCopy}

-- a given entry that is a leaf's is no longer than a chunk may be
unfoldable pub leaf_short : Given → Bool
leaf_short g = elim (depth g.at) [ zero ↦ leb g.entry.size longest_chunk | suc d ↦ true ]

unfoldable pub leaves_short : List Given → Bool
leaves_short [] = true
leaves_short (g ∷ gs) = leaf_short g && leaves_short gs

module _ (F : List ℕ → List ℕ) where
  -- how a copy comes about
  pub data Grown : Copy → Type 0 where
    -- "Make a copy for a count and a data size", on any lent buffers
    made : (c : Copy) → make_verdict c ≡ done → (c.n ≡ 0 → c.size ≡ 0) → Grown (made_copy c)
    -- "Taking in a packet", of bytes, whose given leaves are no longer than a chunk may be
    grew : (c : Copy) → Grown c → (p : List ℕ) (i : ℕ) (root : List ℕ) → Bytes p → take_verdict F c p i root ≡ done
        → leaves_short (lying p c.n i) ≡ true → Grown (taken_in F c p i)
    -- a chunk that is released
    shrank : (c : Copy) → Grown c → (i : ℕ) → copy_release_verdict c i ≡ done → Grown (released_copy c i)

-- for every function F from byte strings to 32 bytes
abbrev pub GrownAccepted : Type 0
GrownAccepted = (F : List ℕ → List ℕ) → HashFunction F → (c : Copy) → Grown F c → AcceptedCopy F c
