-- What a release does to the image of a bitfield file is the image in which that chunk is not held; and the stored data bits of an image are its test.
-- Assumes nothing.
use mathlib.Core.Path.{◌≡◌, refl, sym, ap, ◌∙◌}
use mathlib.Core.Bool.{Bool}
use mathlib.Core.List.{List, ◌++◌}
use Prim.Native.Nat.{ℕ, ◌+◌, ◌*◌, ◌/◌, ◌%◌, ◌<◌, ◌≤◌}
use native.Mathlib.Omega.{arith}
use lib.ListN.{length, take, drop}
use lib.Seq.{length-take-le}
use Rattle.byte_strings.specs.Lists.{part, put, run, joined}
use Rattle.byte_strings.proofs.Lists.{around, run_ext}
use Rattle.tree_index.specs.Tree.{filled}
use Rattle.bitfield.specs.Bits.{bit_at, without_digit, clear_bit}
use Rattle.bitfield.specs.Index.{index_bytes}
use Rattle.bitfield.specs.Image.{data_bytes, entry, entry_count, entries_for, entries_of}
use Rattle.bitfield.specs.Append.{bits_place, regenerated}
use Rattle.bitfield.specs.Release.{stored_held, clear_data_bit, released_bits}
use Rattle.bitfield.proofs.Bits.{without_one, clears, bit_bytes_of, bit_part}
use Rattle.bitfield.proofs.Levels.{length_index}
use Rattle.bitfield.proofs.Image.{entry_with, entry_is, length_entries, data_other, data_file, data_part, index_file}
use Rattle.bitfield.proofs.Append.{ix_ext}

-- the data bits of an entry
read_data : (held : ℕ → Bool) (e b : ℕ) → b < 8192 → bit_at (data_bytes held e) 0 b ≡ held (8192 * e + b)
unfolding data_bytes
read_data held e b h = bit_bytes_of held (8192 * e) 1024 b (omega arith)

-- the entry of a chunk below n is one of those of n chunks
pub entry_below : (n k : ℕ) → k < n → k / 8192 < entry_count n
unfolding entry_count
entry_below n k h = omega arith

module _ (xs : List ℕ) (held : ℕ → Bool) (n : ℕ) (room : 32 + 3328 * entry_count n ≤ length xs) (image : part xs 32 (3328 * entry_count n) ≡ entries_of held n) where
  abbrev c : ℕ
  c = entry_count n

  abbrev tail : List ℕ
  tail = drop (32 + 3328 * c) xs

  abbrev ix : ℕ → List ℕ
  ix j = index_bytes (data_bytes held j)

  long : (j : ℕ) → length (ix j) ≡ 256
  long j = length_index (data_bytes held j)

  front : length (take 32 xs) ≡ 32
  front = length-take-le 32 xs (omega arith)

  -- the file, entry by entry
  opened : xs ≡ take 32 xs ++ (joined (run (entry_with held (filled n) ix) 0 c) ++ tail)
  unfolding entries_for
  opened =
      sym (around xs 32 (3328 * c)) ∙ ap (λ (r : List ℕ). take 32 xs ++ (r ++ tail)) image
      ∙ ap (λ (r : List (List ℕ)). take 32 xs ++ (joined r ++ tail)) (run_ext (entry held (filled n)) (entry_with held (filled n) ix) 0 c (λ j a b. entry_is held (filled n) j))

  module _ (k : ℕ) (below : k < n) where
    abbrev e : ℕ
    e = k / 8192

    abbrev left : ℕ → Bool
    left = without_one held k

    cleared : clear_data_bit xs k ≡ take 32 xs ++ (joined (run (entry_with left (filled n) ix) 0 c) ++ tail)
    unfolding clear_data_bit bits_place
    cleared =
        let p : 32 + 3328 * (k / 8192) ≡ 32 + (k / 8192 * 3328 + 0) = omega arith in
        ap (λ (l : List ℕ). clear_bit l (32 + 3328 * (k / 8192)) (k % 8192)) opened
        ∙ ap (λ (q : ℕ). clear_bit (take 32 xs ++ (joined (run (entry_with held (filled n) ix) 0 c) ++ tail)) q (k % 8192)) p
        ∙ data_file without_digit without_one clears held (filled n) ix long (take 32 xs) tail front c k (entry_below n k below)

    other : (j : ℕ) → (j ≡ e → ⊥) → entry_with left (filled n) ix j ≡ entry left (filled n) j
    other j h =
        ix_ext left (filled n) ix (λ i. index_bytes (data_bytes left i)) j (ap index_bytes (data_other without_digit without_one clears held k j h))
        ∙ sym (entry_is left (filled n) j)

    again : regenerated (take 32 xs ++ (joined (run (entry_with left (filled n) ix) 0 c) ++ tail)) e
        ≡ take 32 xs ++ (joined (run (entry left (filled n)) 0 c) ++ tail)
    unfolding regenerated bits_place
    again =
        let p : 32 + 3328 * e + 3072 ≡ 32 + (e * 3328 + 3072) = omega arith in
        let f : 32 + 3328 * e ≡ 32 + e * 3328 = omega arith in
        let l : List ℕ = take 32 xs ++ (joined (run (entry_with left (filled n) ix) 0 c) ++ tail) in
        ap (λ (q : ℕ). put l q (index_bytes (part l (32 + 3328 * e) 1024))) p
        ∙ ap (λ (q : ℕ). put l (32 + (e * 3328 + 3072)) (index_bytes (part l q 1024))) f
        ∙ index_file left (filled n) ix long (take 32 xs) tail front c e (entry_below n k below) (entry left (filled n)) refl other

    -- the file after the release: what it was, with the entries in which chunk k is not held behind its header
    pub released_image : released_bits xs k ≡ put xs 32 (entries_of (without_one held k) n)
    unfolding released_bits put entries_for
    released_image =
        ap (λ (l : List ℕ). regenerated l e) cleared ∙ again
        ∙ ap (λ (t : ℕ). take 32 xs ++ (joined (run (entry left (filled n)) 0 c) ++ drop (32 + t) xs)) (sym (length_entries left n))

    -- its data bit is what the test says
    pub held_image : stored_held xs k ≡ held k
    unfolding stored_held bits_place
    held_image =
        let p : 32 + 3328 * e ≡ 32 + e * 3328 = omega arith in
        let q : 8192 * e + k % 8192 ≡ k = omega arith in
        bit_part xs (32 + 3328 * e) 1024 (k % 8192) (omega arith)
        ∙ ap (λ (l : List ℕ). bit_at l 0 (k % 8192))
        (ap (λ (l : List ℕ). part l (32 + 3328 * e) 1024) opened
        ∙ ap (λ (t : ℕ). part (take 32 xs ++ (joined (run (entry_with held (filled n) ix) 0 c) ++ tail)) t 1024) p
        ∙ data_part held (filled n) ix long (take 32 xs) tail front c e (entry_below n k below))
        ∙ read_data held e (k % 8192) (omega arith) ∙ ap held q
