-- What an entry put into a tree file does to what is stored there. Assumes nothing.
use mathlib.Core.Path.{◌≡◌, refl, ap, subst}
use mathlib.Core.Bool.{Bool, true, false}
use lib.Dec.{ltb}
use borrow.Author.Tests.{ltb-true, ltb-false}
use Prim.Native.Nat.{ℕ, ◌+◌, ◌≤◌, ◌<◌}
use native.Mathlib.Nat.{add-zero}
use native.Mathlib.Omega.{arith}
use mathlib.Core.List.{List}
use lib.ListN.{length, take}
use Rattle.byte_strings.specs.Lists.{part, put}
use Rattle.byte_strings.specs.Numbers.{number}
use Rattle.byte_strings.proofs.Lists.{length_put, part_put, part_put_before, part_put_behind, take_put}
use Rattle.file_format.specs.Sizes.{entry_place}
use Rattle.file_format.specs.Stored.{stored_hash, stored_size}

-- an entry's place grows with its index
apart : (i j : ℕ) → i < j → entry_place i + 40 ≤ entry_place j
unfolding entry_place
apart i j h = omega arith

module _ (tree : List ℕ) (j : ℕ) (ys : List ℕ) (whole : length ys ≡ 40) (inside : entry_place j + 40 ≤ length tree) where
  pub entry_length : length (put tree (entry_place j) ys) ≡ length tree
  entry_length = length_put tree (entry_place j) ys (omega arith)

  -- the header stays
  pub entry_header : take 32 (put tree (entry_place j) ys) ≡ take 32 tree
  unfolding entry_place
  entry_header = take_put 32 tree (entry_place j) ys (omega arith) (omega arith)

  -- every other entry stays
  pub other_part : (i a k : ℕ) → (i ≡ j → ⊥) → a + k ≤ 40 → part (put tree (entry_place j) ys) (entry_place i + a) k ≡ part tree (entry_place i + a) k
  other_part i a k d h = pick (ltb i j) refl (ltb j i) refl
    where
      pick : (s : Bool) → ltb i j ≡ s → (t : Bool) → ltb j i ≡ t
          → part (put tree (entry_place j) ys) (entry_place i + a) k ≡ part tree (entry_place i + a) k
      pick true e t f = part_put_before tree (entry_place j) ys (entry_place i + a) k (omega (arith, apart i j (ltb-true i j e))) (omega arith)
      pick false e true f = part_put_behind tree (entry_place j) ys (entry_place i + a) k (omega (arith, apart j i (ltb-true j i f))) (omega arith)
      pick false e false f = let same : i ≡ j = omega (arith, ltb-false i j e, ltb-false j i f) in absurd (d same)

  pub other_entry : (i : ℕ) → (i ≡ j → ⊥) → part (put tree (entry_place j) ys) (entry_place i) 40 ≡ part tree (entry_place i) 40
  other_entry i d =
      subst (λ (p : ℕ). part (put tree (entry_place j) ys) p 40 ≡ part tree p 40) (add-zero (entry_place i)) (other_part i 0 40 d (omega arith))

  pub other_hash : (i : ℕ) → (i ≡ j → ⊥) → stored_hash (put tree (entry_place j) ys) i ≡ stored_hash tree i
  unfolding stored_hash
  other_hash i d =
      subst (λ (p : ℕ). part (put tree (entry_place j) ys) p 32 ≡ part tree p 32) (add-zero (entry_place i)) (other_part i 0 32 d (omega arith))

  pub other_size : (i : ℕ) → (i ≡ j → ⊥) → stored_size (put tree (entry_place j) ys) i ≡ stored_size tree i
  unfolding stored_size
  other_size i d = ap number (other_part i 32 8 d (omega arith))

  -- the entry that was put is there
  pub same_entry : part (put tree (entry_place j) ys) (entry_place j) 40 ≡ ys
  same_entry = part_put tree (entry_place j) 40 ys whole (omega arith)
