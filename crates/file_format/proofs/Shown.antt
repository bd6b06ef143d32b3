-- A bitfield file that shows two tests, which chunks are held and which tree entries are known: bits that are set or cleared in it show other tests.
-- Assumes nothing.
use Prim.Native.Nat.{ℕ, ◌+◌, ◌*◌, ◌/◌, ◌%◌, ◌<◌}
use mathlib.Core.Path.{◌≡◌, refl, sym, ap, ◌∙◌}
use mathlib.Core.Bool.{Bool}
use mathlib.Core.List.{List, [], ◌∷◌, ◌++◌, append_assoc}
use native.Mathlib.Nat.{zero-add}
use native.Mathlib.Omega.{arith}
use lib.Dec.{eqb}
use lib.ListN.{length, take, drop, length-append, take-append-drop}
use lib.Seq.{take_at}
use Rattle.byte_strings.specs.Lists.{part, put, run, joined, among}
use Rattle.byte_strings.proofs.Lists.{run_ext, length_joined, part_behind, part_left, part_part, part_joined, part_front}
use Rattle.byte_strings.proofs.Bools.{or_assoc, or_none}
use Rattle.bitfield.specs.Bits.{bit_at, change_bit, with_digit, without_digit, set_bit}
use Rattle.bitfield.specs.Index.{index_bytes}
use Rattle.bitfield.specs.Image.{data_bytes, tree_bytes, entry, entry_count, entries_for}
use Rattle.bitfield.specs.Append.{bits_place, set_data_bit, set_tree_bit, set_tree_bits, regenerated}
use Rattle.bitfield.specs.Release.{stored_held, clear_data_bit, released_bits}
use Rattle.bitfield.specs.Known.{stored_known, held_again}
use Rattle.bitfield.proofs.Bits.{Changes, with_one_lem, without_one, sets, clears, bit_bytes_of, bit_part}
use Rattle.bitfield.proofs.Levels.{length_index}
use Rattle.bitfield.proofs.Image.{length_for, entry_with, entry_is, entry_ext, length_data, length_tree, length_entry_with, data_other, data_file, tree_file, data_part, index_file}
use Rattle.bitfield.proofs.Append.{ix_ext, or_among, Under}
use Rattle.bitfield.proofs.Release.{entry_below}
use Rattle.file_format.specs.Headers.{bitfield_header}
use Rattle.file_format.specs.Sizes.{used_bitfield}
use Rattle.file_format.proofs.OfImage.{bitfield_header_length}

-- a bitfield file with these entries, and any bytes behind the used ones
unfoldable pub shown : (ℕ → Bool) → (ℕ → Bool) → ℕ → List ℕ → List ℕ
shown held known n tail = bitfield_header ++ (entries_for held known n ++ tail)

pub shown_ext : (p q known known' : ℕ → Bool) (n : ℕ) (tail : List ℕ) → ((j : ℕ) → p j ≡ q j) → ((j : ℕ) → known j ≡ known' j)
    → shown p known n tail ≡ shown q known' n tail
unfolding shown entries_for
shown_ext p q known known' n tail h k =
    ap (λ (r : List (List ℕ)). bitfield_header ++ (joined r ++ tail))
    (run_ext (entry p known) (entry q known') 0 (entry_count n) (λ e a b. entry_ext p q known known' h k e))

-- its used bytes, and a file that has them
pub shown_used : (held known : ℕ → Bool) (n : ℕ) (tail : List ℕ) → take (used_bitfield n) (shown held known n tail) ≡ bitfield_header ++ entries_for held known n
unfolding shown used_bitfield
shown_used held known n tail =
    ap (take (32 + 3328 * entry_count n)) (sym (append_assoc bitfield_header (entries_for held known n) tail))
    ∙ take_at (bitfield_header ++ entries_for held known n) tail (32 + 3328 * entry_count n)
    (length-append bitfield_header (entries_for held known n) ∙ omega (arith, bitfield_header_length, length_for held known n))

pub used_shown : (xs : List ℕ) (held known : ℕ → Bool) (n : ℕ) → take (used_bitfield n) xs ≡ bitfield_header ++ entries_for held known n
    → xs ≡ shown held known n (drop (used_bitfield n) xs)
unfolding shown
used_shown xs held known n e =
    sym (take-append-drop (used_bitfield n) xs) ∙ ap (λ (l : List ℕ). l ++ drop (used_bitfield n) xs) e
    ∙ append_assoc bitfield_header (entries_for held known n) (drop (used_bitfield n) xs)

pub shown_long : (held known : ℕ → Bool) (n : ℕ) (tail : List ℕ) → length (shown held known n tail) ≡ used_bitfield n + length tail
unfolding shown used_bitfield
shown_long held known n tail =
    length-append bitfield_header (entries_for held known n ++ tail)
    ∙ omega (arith, bitfield_header_length, length-append (entries_for held known n) tail, length_for held known n)

-- its header
pub shown_front : (held knows : ℕ → Bool) (n : ℕ) (tail : List ℕ) → take 32 (shown held knows n tail) ≡ bitfield_header
unfolding shown
shown_front held knows n tail = take_at bitfield_header _ 32 bitfield_header_length

-- ---- the stored bits

module _ (held known : ℕ → Bool) (n : ℕ) (tail : List ℕ) where
  abbrev ix : ℕ → List ℕ
  ix j = index_bytes (data_bytes held j)

  long : (j : ℕ) → length (ix j) ≡ 256
  long j = length_index (data_bytes held j)

  -- the file, entry by entry, the Index bytes apart
  opened : shown held known n tail ≡ bitfield_header ++ (joined (run (entry_with held known ix) 0 (entry_count n)) ++ tail)
  unfolding shown entries_for
  opened =
      ap (λ (r : List (List ℕ)). bitfield_header ++ (joined r ++ tail))
      (run_ext (entry held known) (entry_with held known ix) 0 (entry_count n) (λ j a b. entry_is held known j))

  read_data : (e b : ℕ) → b < 8192 → bit_at (data_bytes held e) 0 b ≡ held (8192 * e + b)
  unfolding data_bytes
  read_data e b h = bit_bytes_of held (8192 * e) 1024 b (omega arith)

  read_tree : (e b : ℕ) → b < 16384 → bit_at (tree_bytes known e) 0 b ≡ known (16384 * e + b)
  unfolding tree_bytes
  read_tree e b h = bit_bytes_of known (16384 * e) 2048 b (omega arith)

  pub shown_held : (k : ℕ) → k < n → stored_held (shown held known n tail) k ≡ held k
  unfolding stored_held bits_place
  shown_held k below =
      let e : ℕ = k / 8192 in
      let p : 32 + 3328 * e ≡ 32 + e * 3328 = omega arith in
      let q : 8192 * e + k % 8192 ≡ k = omega arith in
      bit_part (shown held known n tail) (32 + 3328 * e) 1024 (k % 8192) (omega arith)
      ∙ ap (λ (l : List ℕ). bit_at l 0 (k % 8192))
      (ap (λ (l : List ℕ). part l (32 + 3328 * e) 1024) opened
      ∙ ap (λ (t : ℕ). part (bitfield_header ++ (joined (run (entry_with held known ix) 0 (entry_count n)) ++ tail)) t 1024) p
      ∙ data_part held known ix long bitfield_header tail bitfield_header_length (entry_count n) e (entry_below n k below))
      ∙ read_data e (k % 8192) (omega arith) ∙ ap held q

  tree_part_lem : (e : ℕ) → e < entry_count n
      → part (bitfield_header ++ (joined (run (entry_with held known ix) 0 (entry_count n)) ++ tail)) (32 + (e * 3328 + 1024)) 2048 ≡ tree_bytes known e
  unfolding entry_with
  tree_part_lem e h =
      let s : List ℕ = joined (run (entry_with held known ix) 0 (entry_count n)) in
      let l : length s ≡ entry_count n * 3328 = length_joined (entry_with held known ix) 3328 (length_entry_with held known ix long) 0 (entry_count n) in
      part_behind bitfield_header (s ++ tail) 32 (e * 3328 + 1024) 2048 bitfield_header_length
      ∙ part_left s tail (e * 3328 + 1024) 2048 (omega (arith, l))
      ∙ sym (part_part s (e * 3328) 3328 1024 2048 (omega arith))
      ∙ ap (λ (r : List ℕ). part r 1024 2048)
      (part_joined (entry_with held known ix) 3328 (length_entry_with held known ix long) 0 (entry_count n) e h ∙ ap (entry_with held known ix) (zero-add e))
      ∙ part_behind (data_bytes held e) (tree_bytes known e ++ ix e) 1024 0 2048 (length_data held e)
      ∙ part_front (tree_bytes known e) (ix e) 2048 (length_tree known e)

  pub shown_known : (i : ℕ) → i / 16384 < entry_count n → stored_known (shown held known n tail) i ≡ known i
  unfolding stored_known bits_place
  shown_known i below =
      let e : ℕ = i / 16384 in
      let p : 32 + 3328 * e + 1024 ≡ 32 + (e * 3328 + 1024) = omega arith in
      let q : 16384 * e + i % 16384 ≡ i = omega arith in
      bit_part (shown held known n tail) (32 + 3328 * e + 1024) 2048 (i % 16384) (omega arith)
      ∙ ap (λ (l : List ℕ). bit_at l 0 (i % 16384))
      (ap (λ (l : List ℕ). part l (32 + 3328 * e + 1024) 2048) opened
      ∙ ap (λ (t : ℕ). part (bitfield_header ++ (joined (run (entry_with held known ix) 0 (entry_count n)) ++ tail)) t 2048) p
      ∙ tree_part_lem e below)
      ∙ read_tree e (i % 16384) (omega arith) ∙ ap known q

-- ---- tree bits set

module _ (held : ℕ → Bool) (n : ℕ) (tail : List ℕ) where
  one_known : (known : ℕ → Bool) (i : ℕ) → i / 16384 < entry_count n → set_tree_bit (shown held known n tail) i ≡ shown held (with_one_lem known i) n tail
  unfolding set_tree_bit bits_place
  one_known known i h =
      let e : 32 + 3328 * (i / 16384) + 1024 ≡ 32 + (i / 16384 * 3328 + 1024) = omega arith in
      ap (λ (p : ℕ). set_bit (shown held known n tail) p (i % 16384)) e
      ∙ ap (λ (l : List ℕ). set_bit l (32 + (i / 16384 * 3328 + 1024)) (i % 16384)) (opened held known n tail)
      ∙ tree_file with_digit with_one_lem sets held known (ix held known n tail) (long held known n tail) bitfield_header tail bitfield_header_length (entry_count n) i h
      ∙ sym (opened held (with_one_lem known i) n tail)

  pub more_known : (known : ℕ → Bool) (is : List ℕ) → Under (entry_count n) is
      → set_tree_bits (shown held known n tail) is ≡ shown held (or_among known is) n tail
  unfolding set_tree_bits Under among
  more_known known [] u = shown_ext held held known (or_among known []) n tail (λ j. refl) (λ j. sym (or_none (known j)))
  more_known known (i ∷ is) u =
      ap (λ (l : List ℕ). set_tree_bits l is) (one_known known i u.0) ∙ more_known (with_one_lem known i) is u.1
      ∙ shown_ext held held (or_among (with_one_lem known i) is) (or_among known (i ∷ is)) n tail (λ j. refl) (λ j. or_assoc (known j) (eqb j i) (among j is))

-- ---- a data bit changed, and the Index of its entry made anew

module _ (f : ℕ → ℕ → ℕ) (to : (ℕ → Bool) → ℕ → ℕ → Bool) (w : Changes f to) (held known : ℕ → Bool) (n : ℕ) (tail : List ℕ) (k : ℕ) (below : k < n) where
  abbrev ixs : ℕ → List ℕ
  ixs j = index_bytes (data_bytes held j)

  longs : (j : ℕ) → length (ixs j) ≡ 256
  longs j = length_index (data_bytes held j)

  abbrev left : ℕ → Bool
  left = to held k

  changed : change_bit f (shown held known n tail) (bits_place (k / 8192)) (k % 8192)
      ≡ bitfield_header ++ (joined (run (entry_with left known ixs) 0 (entry_count n)) ++ tail)
  unfolding bits_place
  changed =
      let p : 32 + 3328 * (k / 8192) ≡ 32 + (k / 8192 * 3328 + 0) = omega arith in
      ap (λ (l : List ℕ). change_bit f l (32 + 3328 * (k / 8192)) (k % 8192)) (opened held known n tail)
      ∙ ap (λ (q : ℕ). change_bit f (bitfield_header ++ (joined (run (entry_with held known ixs) 0 (entry_count n)) ++ tail)) q (k % 8192)) p
      ∙ data_file f to w held known ixs longs bitfield_header tail bitfield_header_length (entry_count n) k (entry_below n k below)

  other : (j : ℕ) → (j ≡ k / 8192 → ⊥) → entry_with left known ixs j ≡ entry left known j
  other j h =
      ix_ext left known ixs (λ i. index_bytes (data_bytes left i)) j (ap index_bytes (data_other f to w held k j h)) ∙ sym (entry_is left known j)

  anew : regenerated (bitfield_header ++ (joined (run (entry_with left known ixs) 0 (entry_count n)) ++ tail)) (k / 8192) ≡ shown left known n tail
  unfolding regenerated bits_place shown entries_for
  anew =
      let e : ℕ = k / 8192 in
      let p : 32 + 3328 * e + 3072 ≡ 32 + (e * 3328 + 3072) = omega arith in
      let q : 32 + 3328 * e ≡ 32 + e * 3328 = omega arith in
      let l : List ℕ = bitfield_header ++ (joined (run (entry_with left known ixs) 0 (entry_count n)) ++ tail) in
      ap (λ (t : ℕ). put l t (index_bytes (part l (32 + 3328 * e) 1024))) p
      ∙ ap (λ (t : ℕ). put l (32 + (e * 3328 + 3072)) (index_bytes (part l t 1024))) q
      ∙ index_file left known ixs longs bitfield_header tail bitfield_header_length (entry_count n) e (entry_below n k below) (entry left known) refl other

  data_changed : regenerated (change_bit f (shown held known n tail) (bits_place (k / 8192)) (k % 8192)) (k / 8192) ≡ shown (to held k) known n tail
  data_changed = ap (λ (l : List ℕ). regenerated l (k / 8192)) changed ∙ anew

module _ (held known : ℕ → Bool) (n : ℕ) (tail : List ℕ) (k : ℕ) (below : k < n) where
  pub held_more : held_again (shown held known n tail) k ≡ shown (with_one_lem held k) known n tail
  unfolding held_again set_data_bit
  held_more = data_changed with_digit with_one_lem sets held known n tail k below

  pub held_less : released_bits (shown held known n tail) k ≡ shown (without_one held k) known n tail
  unfolding released_bits clear_data_bit
  held_less = data_changed without_digit without_one clears held known n tail k below
