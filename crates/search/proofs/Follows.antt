-- Where the Index is that of the data bits, no group that is passed over has a chunk that is not held. Assumes nothing.
use Prim.Native.Nat.{ℕ, zero, suc, ◌+◌, ◌-◌, ◌*◌, ◌/◌, ◌%◌, ◌^◌, ◌≤◌, ◌<◌}
use mathlib.Core.Path.{◌≡◌, refl, sym, ap, ap₂, ◌∙◌}
use mathlib.Core.Bool.{Bool, true, false, ◌||◌, ◌&&◌}
use mathlib.Core.List.{List, [], ◌∷◌}
use mathlib.Core.Logic.{⊎_elim}
use native.Mathlib.Nat.{zero-add}
use native.Mathlib.Omega.{arith}
use lib.Dec.{eqb}
use lib.ListN.{get_or, get_or-append}
use borrow.Author.Tests.{eqb-true, eq-eqb}
use Rattle.byte_strings.specs.Lists.{part, run}
use Rattle.byte_strings.proofs.Lists.{get_d_part, get_or_run, length_run}
use Rattle.byte_strings.proofs.Lowest.{lowest_agree}
use Rattle.tree_index.proofs.Index.{depth_index, block_index, index_leaf}
use Rattle.bitfield.specs.Bits.{digit, bit_at}
use Rattle.bitfield.specs.Index.{uniform, tuple, four, tuples, node, index_byte, index_bytes}
use Rattle.bitfield.specs.Append.{bits_place}
use Rattle.bitfield.specs.Release.{stored_held}
use Rattle.bitfield.proofs.Levels.{uniform_lt, same_or}
use Rattle.bitfield.proofs.Release.{entry_below}
use Rattle.search.specs.Search.{stored_tuples, tuple_in, stored_tuple, passed_over, not_missing, first_missing}
use Rattle.search.specs.Theorems.{IndexFollows, SearchFollowsForAll}

-- ---- numbers

-- the tuples out of a byte of four
first_of : (t u v w : ℕ) → t < 4 → u < 4 → v < 4 → w < 4 → four t u v w / 64 % 4 ≡ t
unfolding four
first_of t u v w a b c d = omega arith

second_of : (t u v w : ℕ) → t < 4 → u < 4 → v < 4 → w < 4 → four t u v w / 16 % 4 ≡ u
unfolding four
second_of t u v w a b c d = omega arith

third_of : (t u v w : ℕ) → t < 4 → u < 4 → v < 4 → w < 4 → four t u v w / 4 % 4 ≡ v
unfolding four
third_of t u v w a b c d = omega arith

last_of : (t u v w : ℕ) → t < 4 → u < 4 → v < 4 → w < 4 → four t u v w / 1 % 4 ≡ w
unfolding four
last_of t u v w a b c d = omega arith

-- every bit of 255 is 1
bit_255 : (r : ℕ) → r < 8 → digit 255 r ≡ 1
unfolding digit
bit_255 zero h = refl
bit_255 (suc zero) h = refl
bit_255 (suc (suc zero)) h = refl
bit_255 (suc (suc (suc zero))) h = refl
bit_255 (suc (suc (suc (suc zero)))) h = refl
bit_255 (suc (suc (suc (suc (suc zero))))) h = refl
bit_255 (suc (suc (suc (suc (suc (suc zero)))))) h = refl
bit_255 (suc (suc (suc (suc (suc (suc (suc zero))))))) h = refl
bit_255 (suc (suc (suc (suc (suc (suc (suc (suc r)))))))) h = absurd (omega arith)

-- a tuple of 11 has two bytes of ones
tuple_lt : (a b : ℕ) → tuple a b < 4
unfolding tuple
tuple_lt a b = uniform_lt (eqb a 255 && eqb b 255) (eqb a 0 && eqb b 0)

all_ones : (p q z : Bool) → uniform (p && q) z ≡ 3 → (p ≡ true) × (q ≡ true)
all_ones true true z e = (refl, refl)
all_ones true false true e = absurd (omega arith)
all_ones true false false e = absurd (omega arith)
all_ones false q true e = absurd (omega arith)
all_ones false q false e = absurd (omega arith)

tuple_ones : (a b : ℕ) → tuple a b ≡ 3 → (a ≡ 255) × (b ≡ 255)
unfolding tuple
tuple_ones a b e =
    let p = all_ones (eqb a 255) (eqb b 255) (eqb a 0 && eqb b 0) e in
    (eqb-true a 255 p.0, eqb-true b 255 p.1)

-- ---- the Index byte of eight data bytes

even_byte : (d : List ℕ) (q : ℕ) → q < 128 → get_or (index_bytes d) (2 * q) 0 ≡ tuples d q
unfolding index_bytes index_byte node
even_byte d q h =
    get_or-append (run (index_byte d) 0 255) (0 ∷ []) 0 (2 * q) (omega (arith, length_run (index_byte d) 0 255))
    ∙ get_or_run (index_byte d) 0 255 (2 * q) 0 (omega arith)
    ∙ ap (index_byte d) (zero-add (2 * q) ∙ sym (index_leaf q))
    ∙ ap₂ (node d) (depth_index 0 q) (block_index 0 q)

module _ (d : List ℕ) (q : ℕ) where
  -- the tuple of two of its data bytes
  abbrev pair : ℕ → ℕ → ℕ
  pair a b = tuple (get_or d a 0) (get_or d b 0)

  pair_lt : (a b : ℕ) → pair a b < 4
  pair_lt a b = tuple_lt (get_or d a 0) (get_or d b 0)

  moved : {a b x y : ℕ} → a ≡ x → b ≡ y → pair a b ≡ pair x y
  moved e f = ap₂ pair e f

  in_tuples : (i : ℕ) → i < 4 → tuples d q / 4 ^ (3 - i) % 4 ≡ pair (8 * q + 2 * i) (8 * q + 2 * i + 1)
  unfolding tuples
  in_tuples zero h =
      first_of (pair (8 * q) (8 * q + 1)) (pair (8 * q + 2) (8 * q + 3)) (pair (8 * q + 4) (8 * q + 5)) (pair (8 * q + 6) (8 * q + 7))
      (pair_lt (8 * q) (8 * q + 1)) (pair_lt (8 * q + 2) (8 * q + 3)) (pair_lt (8 * q + 4) (8 * q + 5)) (pair_lt (8 * q + 6) (8 * q + 7))
      ∙ moved (omega arith) (omega arith)
  in_tuples (suc zero) h =
      second_of (pair (8 * q) (8 * q + 1)) (pair (8 * q + 2) (8 * q + 3)) (pair (8 * q + 4) (8 * q + 5)) (pair (8 * q + 6) (8 * q + 7))
      (pair_lt (8 * q) (8 * q + 1)) (pair_lt (8 * q + 2) (8 * q + 3)) (pair_lt (8 * q + 4) (8 * q + 5)) (pair_lt (8 * q + 6) (8 * q + 7))
      ∙ moved (omega arith) (omega arith)
  in_tuples (suc (suc zero)) h =
      third_of (pair (8 * q) (8 * q + 1)) (pair (8 * q + 2) (8 * q + 3)) (pair (8 * q + 4) (8 * q + 5)) (pair (8 * q + 6) (8 * q + 7))
      (pair_lt (8 * q) (8 * q + 1)) (pair_lt (8 * q + 2) (8 * q + 3)) (pair_lt (8 * q + 4) (8 * q + 5)) (pair_lt (8 * q + 6) (8 * q + 7))
      ∙ moved (omega arith) (omega arith)
  in_tuples (suc (suc (suc zero))) h =
      last_of (pair (8 * q) (8 * q + 1)) (pair (8 * q + 2) (8 * q + 3)) (pair (8 * q + 4) (8 * q + 5)) (pair (8 * q + 6) (8 * q + 7))
      (pair_lt (8 * q) (8 * q + 1)) (pair_lt (8 * q + 2) (8 * q + 3)) (pair_lt (8 * q + 4) (8 * q + 5)) (pair_lt (8 * q + 6) (8 * q + 7))
      ∙ moved (omega arith) (omega arith)
  in_tuples (suc (suc (suc (suc i)))) h = absurd (omega arith)

  -- both bytes of a tuple of 11 are ones
  data_ones : (i m : ℕ) → i < 4 → tuples d q / 4 ^ (3 - i) % 4 ≡ 3 → 8 * q + 2 * i ≤ m → m ≤ 8 * q + 2 * i + 1 → get_or d m 0 ≡ 255
  data_ones i m h e lo hi =
      let p = tuple_ones (get_or d (8 * q + 2 * i) 0) (get_or d (8 * q + 2 * i + 1) 0) (sym (in_tuples i h) ∙ e) in
      ⊎_elim (λ x. ap (λ (k : ℕ). get_or d k 0) x ∙ p.0) (λ x. ap (λ (k : ℕ). get_or d k 0) (let z : m ≡ 8 * q + 2 * i + 1 = omega arith in z) ∙ p.1)
      (same_or m (8 * q + 2 * i))

-- ---- the stored bits

or_held : (a b : Bool) → (a ≡ true → b ≡ true) → (a || b) ≡ b
or_held true b h = sym (h refl)
or_held false b h = refl

module _ (xs : List ℕ) (n : ℕ) (w : IndexFollows xs n) (j : ℕ) (h : j < n) where
  abbrev at : ℕ
  at = bits_place (j / 8192)

  abbrev d : List ℕ
  d = part xs (bits_place (j / 8192)) 1024

  tuples_are : stored_tuples xs (j / 16 / 4) ≡ tuples d (j % 8192 / 64)
  unfolding stored_tuples IndexFollows
  tuples_are =
      let a : j / 16 / 4 / 128 ≡ j / 8192 = omega arith in
      let b : j / 16 / 4 % 128 ≡ j % 8192 / 64 = omega arith in
      ap₂ (λ (x y : ℕ). get_or xs (bits_place x + 3072 + 2 * y) 0) a b
      ∙ sym (get_d_part xs (at + 3072) 256 (2 * (j % 8192 / 64)) 0 (omega arith))
      ∙ ap (λ (l : List ℕ). get_or l (2 * (j % 8192 / 64)) 0) (w (j / 8192) (entry_below n j h))
      ∙ even_byte d (j % 8192 / 64) (omega arith)

  -- a chunk of a group that is passed over is held
  held : passed_over xs j ≡ true → stored_held xs j ≡ true
  unfolding passed_over stored_tuple tuple_in stored_held bit_at
  held p =
      let t : stored_tuples xs (j / 16 / 4) / 4 ^ (3 - j / 16 % 4) % 4 ≡ 3 = eqb-true (stored_tuples xs (j / 16 / 4) / 4 ^ (3 - j / 16 % 4) % 4) 3 p in
      let f : tuples d (j % 8192 / 64) / 4 ^ (3 - j / 16 % 4) % 4 ≡ 3 = ap (λ (b : ℕ). b / 4 ^ (3 - j / 16 % 4) % 4) (sym tuples_are) ∙ t in
      let g : get_or d (j % 8192 / 8) 0 ≡ 255 = data_ones d (j % 8192 / 64) (j / 16 % 4) (j % 8192 / 8) (omega arith) f (omega arith) (omega arith) in
      eq-eqb (digit (get_or xs (at + j % 8192 / 8) 0) (7 - j % 8192 % 8)) 1
      (ap (λ (x : ℕ). digit x (7 - j % 8192 % 8)) (sym (get_d_part xs at 1024 (j % 8192 / 8) 0 (omega arith)) ∙ g) ∙ bit_255 (7 - j % 8192 % 8) (omega arith))

  agree : not_missing xs j ≡ stored_held xs j
  unfolding not_missing
  agree = or_held (passed_over xs j) (stored_held xs j) held

pub search_follows : SearchFollowsForAll
unfolding first_missing
search_follows xs n w from = lowest_agree (not_missing xs) (stored_held xs) from (n - from) (λ j p q before. agree xs n w j (omega arith))
