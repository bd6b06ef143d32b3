-- A release in any bitfield file: it writes within the used bytes of n chunks, leaves the header, and reads nothing behind them. Assumes nothing.
use Prim.Native.Nat.{ℕ, ◌+◌, ◌-◌, ◌*◌, ◌/◌, ◌%◌, ◌^◌, ◌≤◌, ◌<◌}
use mathlib.Core.Path.{◌≡◌, sym, ap, ◌∙◌, subst}
use mathlib.Core.List.{List, [], ◌∷◌, ◌++◌}
use native.Mathlib.Omega.{arith}
use lib.ListN.{length, get_or, set, take, drop, length-set, take-append-drop}
use lib.Seq.{length-take-le, take_at, drop_at, take-set-le}
use Rattle.byte_strings.specs.Lists.{part, put, Bytes}
use Rattle.byte_strings.proofs.Lists.{part_left, length_put, take_put, put_one, bytes_put}
use Rattle.byte_strings.proofs.Numbers.{bytes_one}
use Rattle.bitfield.specs.Bits.{digit, change_bit, without_digit}
use Rattle.bitfield.specs.Index.{index_bytes}
use Rattle.bitfield.specs.Append.{bits_place, regenerated}
use Rattle.bitfield.specs.Release.{clear_data_bit, released_bits}
use Rattle.bitfield.proofs.Levels.{length_index, bytes_index}
use Rattle.bitfield.proofs.Image.{bit_local, put_local}
use Rattle.bitfield.proofs.Release.{entry_below}
use Rattle.file_format.specs.Sizes.{used_bitfield}

module _ (xs : List ℕ) (k : ℕ) (room : bits_place (k / 8192 + 1) ≤ length xs) where
  abbrev at : ℕ
  at = bits_place (k / 8192)

  -- the data bytes of the entry, the bit cleared
  abbrev left : List ℕ
  left = part (clear_data_bit xs k) (bits_place (k / 8192)) 1024

  cleared_long : length (clear_data_bit xs k) ≡ length xs
  unfolding clear_data_bit change_bit
  cleared_long = simp length-set

  inside : (at + 3328 ≤ length xs) × (32 ≤ at)
  unfolding bits_place
  inside = (omega arith, omega arith)

  pub bits_long : length (released_bits xs k) ≡ length xs
  unfolding released_bits regenerated
  bits_long = length_put (clear_data_bit xs k) (at + 3072) (index_bytes left) (omega (arith, inside, cleared_long, length_index left)) ∙ cleared_long

  pub bits_header : take 32 (released_bits xs k) ≡ take 32 xs
  unfolding released_bits regenerated clear_data_bit change_bit
  bits_header =
      take_put 32 (clear_data_bit xs k) (at + 3072) (index_bytes left) (omega (arith, inside)) (omega (arith, inside, cleared_long))
      ∙ take-set-le 32 xs (at + k % 8192 / 8) _ (omega (arith, inside))

  pub bits_behind : (ys : List ℕ) → released_bits (xs ++ ys) k ≡ released_bits xs k ++ ys
  unfolding released_bits regenerated clear_data_bit
  bits_behind ys =
      ap (λ (l : List ℕ). put l (at + 3072) (index_bytes (part l at 1024))) ((bit_local without_digit (k % 8192)).within xs ys at (omega (arith, inside)))
      ∙ ap (λ (d : List ℕ). put (clear_data_bit xs k ++ ys) (at + 3072) (index_bytes d)) (part_left (clear_data_bit xs k) ys at 1024 (omega (arith, inside, cleared_long)))
      ∙ (put_local (index_bytes left)).within (clear_data_bit xs k) ys (at + 3072) (omega (arith, inside, cleared_long, length_index left))

  cleared_bytes : Bytes xs → Bytes (clear_data_bit xs k)
  unfolding clear_data_bit change_bit
  cleared_bytes p =
      let i : ℕ = at + k % 8192 / 8 in
      let v : ℕ = get_or xs i 0 - 2 ^ (7 - k % 8192 % 8) * digit (get_or xs i 0) (7 - k % 8192 % 8) in
      subst Bytes (sym (put_one xs i v (omega (arith, inside)))) (bytes_put xs i (v ∷ []) p (bytes_one v (omega (arith, p i))))

  pub bits_bytes : Bytes xs → Bytes (released_bits xs k)
  unfolding released_bits regenerated
  bits_bytes p = bytes_put (clear_data_bit xs k) (at + 3072) (index_bytes left) (cleared_bytes p) (bytes_index left)

-- the entry of a chunk below n lies within the used bytes of n chunks
pub bit_room : (xs : List ℕ) (n k : ℕ) → used_bitfield n ≤ length xs → k < n → bits_place (k / 8192 + 1) ≤ length xs
unfolding used_bitfield bits_place
bit_room xs n k p h = omega (arith, entry_below n k h)

-- ---- the file in two parts

module _ (xs : List ℕ) (n k : ℕ) (room : used_bitfield n ≤ length xs) (below : k < n) where
  abbrev used : ℕ
  used = used_bitfield n

  cut_long : length (take used xs) ≡ used
  cut_long = length-take-le used xs room

  here : bits_place (k / 8192 + 1) ≤ length (take used xs)
  here = bit_room (take used xs) n k (omega (arith, cut_long)) below

  halves : released_bits xs k ≡ released_bits (take used xs) k ++ drop used xs
  halves = ap (λ (l : List ℕ). released_bits l k) (sym (take-append-drop used xs)) ∙ bits_behind (take used xs) k here (drop used xs)

  pub bits_front : take used (released_bits xs k) ≡ released_bits (take used xs) k
  bits_front = ap (take used) halves ∙ take_at (released_bits (take used xs) k) (drop used xs) used (bits_long (take used xs) k here ∙ cut_long)

  pub bits_rest : drop used (released_bits xs k) ≡ drop used xs
  bits_rest = ap (drop used) halves ∙ drop_at (released_bits (take used xs) k) (drop used xs) used (bits_long (take used xs) k here ∙ cut_long)
