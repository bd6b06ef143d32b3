-- The chunks of a list, cut out of its bytes. Assumes nothing.
use Prim.Native.Nat.{ℕ, suc, ◌≤◌}
use mathlib.Core.Path.{◌≡◌, refl, ap, ap₂, ◌∙◌}
use mathlib.Core.Bool.{true}
use mathlib.Core.List.{List, [], ◌∷◌, ◌++◌, map}
use native.Mathlib.Omega.{arith}
use borrow.Author.Tests.{le-leb}
use lib.Dec.{leb}
use lib.ListN.{length, get_or, take, drop, length-drop, take-append-drop}
use lib.Seq.{length-take-le, take-append-le, drop-append-le}
use Rattle.byte_strings.specs.Lists.{joined, total, Bytes}
use Rattle.byte_strings.proofs.Lists.{bytes_take, bytes_drop}
use Rattle.byte_strings.proofs.Bools.{true_both}
use Rattle.file_format.specs.Sizes.{longest_chunk}
use Rattle.file_format.specs.Images.{data_size}
use Rattle.checks.specs.Lengths.{all_short}
use Rattle.append_list.specs.Chunks.{chunks_of}

pub chunks_count : (ls bs : List ℕ) → length (chunks_of ls bs) ≡ length ls
unfolding chunks_of
chunks_count [] bs = refl
chunks_count (l ∷ ls) bs = ap suc (chunks_count ls (drop l bs))

-- bytes behind them don't matter
pub chunks_front : (ls bs rest : List ℕ) → total ls ≤ length bs → chunks_of ls (bs ++ rest) ≡ chunks_of ls bs
unfolding chunks_of total
chunks_front [] bs rest h = refl
chunks_front (l ∷ ls) bs rest h =
    ap₂ (λ (c : List ℕ) (cs : List (List ℕ)). c ∷ cs) (take-append-le l bs rest (omega arith))
    (ap (chunks_of ls) (drop-append-le l bs rest (omega arith)) ∙ chunks_front ls (drop l bs) rest (omega (arith, length-drop l bs)))

-- where the lengths add up to the bytes, the chunks are all of them
pub chunks_joined : (ls bs : List ℕ) → total ls ≡ length bs → joined (chunks_of ls bs) ≡ bs
unfolding chunks_of total joined
chunks_joined [] [] h = refl
chunks_joined [] (b ∷ bs) h = absurd (omega arith)
chunks_joined (l ∷ ls) bs h =
    ap (λ (r : List ℕ). take l bs ++ r) (chunks_joined ls (drop l bs) (omega (arith, length-drop l bs))) ∙ take-append-drop l bs

chunks_lengths : (ls bs : List ℕ) → total ls ≤ length bs → map length (chunks_of ls bs) ≡ ls
unfolding chunks_of total
chunks_lengths [] bs h = refl
chunks_lengths (l ∷ ls) bs h =
    ap₂ (λ (x : ℕ) (xs : List ℕ). x ∷ xs) (length-take-le l bs (omega arith)) (chunks_lengths ls (drop l bs) (omega (arith, length-drop l bs)))

pub chunks_size : (ls bs : List ℕ) → total ls ≡ length bs → data_size (chunks_of ls bs) ≡ length bs
unfolding data_size
chunks_size ls bs h = ap total (chunks_lengths ls bs (omega arith)) ∙ h

-- ---- what holds of each chunk

-- bytes, and at most 65,536 of them
pub record Chunk (c : List ℕ) : Type 0 where
  pub bytes : Bytes c
  pub short : length c ≤ longest_chunk

abbrev pub Chunks : List (List ℕ) → Type 0
Chunks [] = Unit {0}
Chunks (c ∷ cs) = Chunk c × Chunks cs

pub chunks_each : (ls bs : List ℕ) → Bytes bs → total ls ≤ length bs → ((k : ℕ) → get_or ls k 0 ≤ longest_chunk) → Chunks (chunks_of ls bs)
unfolding chunks_of total
chunks_each [] bs p h s = tt
chunks_each (l ∷ ls) bs p h s = (
  record { bytes = bytes_take l bs p; short = omega (arith, length-take-le l bs (omega arith), s 0) },
  chunks_each ls (drop l bs) (bytes_drop l bs p) (omega (arith, length-drop l bs)) (λ k. s (suc k)),
)

-- lengths that are short pass the test
pub each_short : (ls : List ℕ) → ((k : ℕ) → get_or ls k 0 ≤ longest_chunk) → all_short ls ≡ true
unfolding all_short
each_short [] h = refl
each_short (l ∷ ls) h = true_both (leb l longest_chunk) (all_short ls) (le-leb l longest_chunk (h 0)) (each_short ls (λ k. h (suc k)))
