-- "Two packets both taken in, one right after the other, are both taken in the other way round too, with the same images."
--
-- The notions in it: `HashFunction` (file_format, Messages), `Copy` (copy_checks, Copy), `take_verdict` and `taken_in` (copy_take_in, TakeIn).
use Rattle.std.specs.Prelude.{ℕ, ◌≡◌, List}
use Rattle.answer_types.specs.Verdict.{done}
use Rattle.byte_strings.specs.Lists.{Bytes}
use Rattle.file_format.specs.Messages.{HashFunction}
use Rattle.copy_checks.specs.Copy.{Copy}
use Rattle.copy_take_in.specs.TakeIn.{take_verdict, taken_in}

module _ (F : List ℕ → List ℕ) (c : Copy) where
  -- "both taken in, one right after the other": the packet p of chunk i under the root hash a, and then the packet q of chunk j under the root hash b
  pub record BothTaken (p : List ℕ) (i : ℕ) (a q : List ℕ) (j : ℕ) (b : List ℕ) : Type 0 where
    pub earlier : take_verdict F c p i a ≡ done
    pub later : take_verdict F (taken_in F c p i) q j b ≡ done

  -- "are both taken in the other way round too, with the same images"
  pub record Commute (p : List ℕ) (i : ℕ) (a q : List ℕ) (j : ℕ) (b : List ℕ) : Type 0 where
    pub round : BothTaken q j b p i a
    pub images : taken_in F (taken_in F c p i) q j ≡ taken_in F (taken_in F c q j) p i

-- whatever the copy held, whichever chunks and root hashes they are, the same or others, and whichever function to 32 bytes stands in for BLAKE2b
abbrev pub CommuteForAll : Type 0
CommuteForAll =
    (F : List ℕ → List ℕ) → HashFunction F → (c : Copy) (p : List ℕ) (i : ℕ) (a q : List ℕ) (j : ℕ) (b : List ℕ) → Bytes p → Bytes q
    → BothTaken F c p i a q j b → Commute F c p i a q j b
