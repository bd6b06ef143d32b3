-- Bits of the bitfield file on any bytes: one that is set already stays so, one that was cleared is set anew, and an Index made anew over an Index is made
-- once. Assumes nothing.
use Prim.Native.Nat.{ℕ, zero, suc, ◌+◌, ◌-◌, ◌*◌, ◌/◌, ◌%◌, ◌^◌, ◌≤◌, ◌<◌}
use mathlib.Core.Path.{◌≡◌, refl, sym, ap, ◌∙◌, subst}
use mathlib.Core.Logic.{◌⊎◌, inl, inr}
use mathlib.Core.Bool.{true, false}
use mathlib.Core.List.{List, [], ◌∷◌}
use native.Mathlib.Nat.{div-mul-le_self, lt-div-mul-add, div-eq_of_lt-le}
use native.Mathlib.Decide.{dec_lt}
use native.Mathlib.Omega.{arith}
use borrow.Author.Tests.{eqb-true, ne_eqb}
use lib.Bits.{bit_or, or_step, or_zero_r}
use lib.Dec.{eqb}
use lib.Pow.{pow_pos, shr-shr}
use lib.ListN.{length, get_or, set, length-set}
use lib.Seq.{set_out, set-set, set-get_or, get_or-set_same}
use Rattle.tree_index.proofs.Filled.{block_end}
use Rattle.tree_index.proofs.Roots.{bit}
use Rattle.bitfield.specs.Bits.{digit, bit_at, change_bit, with_digit, without_digit, set_bit, clear_bit}
use Rattle.bitfield.specs.Append.{bits_place, set_data_bit, set_tree_bit, set_tree_bits, regenerated}
use Rattle.bitfield.specs.Release.{stored_held, clear_data_bit, released_bits}
use Rattle.bitfield.specs.Known.{stored_known, held_again}
use Rattle.bitfield.proofs.Bits.{digit_le}
use Rattle.byte_strings.proofs.Members.{In}
use Rattle.bitfield.proofs.SetBits.{bit_set}
use Rattle.bitfield.proofs.StoredBits.{RoomFor, bit_anew, anew_once, room_bit}

-- ---- one digit

halved : (r x : ℕ) → x / 2 ^ suc r ≡ x / 2 / 2 ^ r
halved r x = let e : suc r ≡ 1 + r = omega arith in ap (λ (k : ℕ). x / 2 ^ k) e ∙ sym (shr-shr x 1 r)

set_already : (r x : ℕ) → x / 2 ^ r % 2 ≡ 1 → bit_or x (2 ^ r) ≡ x
set_already zero x e = let s = or_step x 1 in let z = or_zero_r (x / 2) in omega arith
set_already (suc r) x e =
    let s = or_step x (2 ^ suc r) in
    let m : 2 ^ suc r / 2 ≡ 2 ^ r = omega arith in
    let q : bit_or (x / 2) (2 ^ suc r / 2) ≡ x / 2 =
    ap (bit_or (x / 2)) m ∙ set_already r (x / 2) (ap (λ (k : ℕ). k % 2) (sym (halved r x)) ∙ e) in
    omega arith

-- what was taken away comes back
set_after : (r x : ℕ) → x / 2 ^ r % 2 ≡ 1 → bit_or (x - 2 ^ r) (2 ^ r) ≡ x
set_after zero x e = let s = or_step (x - 1) 1 in let z = or_zero_r ((x - 1) / 2) in omega arith
set_after (suc r) x e =
    let s = or_step (x - 2 ^ suc r) (2 ^ suc r) in
    let l : 2 ^ suc r * 1 ≤ x = subst (λ (k : ℕ). 2 ^ suc r * k ≤ x) e (digit_le x (2 ^ suc r)) in
    let m : 2 ^ suc r / 2 ≡ 2 ^ r = omega arith in
    let y : (x - 2 ^ suc r) / 2 ≡ x / 2 - 2 ^ r = omega arith in
    let q : bit_or ((x - 2 ^ suc r) / 2) (2 ^ suc r / 2) ≡ x / 2 =
    ap (λ (k : ℕ). bit_or k (2 ^ suc r / 2)) y ∙ ap (bit_or (x / 2 - 2 ^ r)) m
    ∙ set_after r (x / 2) (ap (λ (k : ℕ). k % 2) (sym (halved r x)) ∙ e) in
    omega arith

module _ (x r : ℕ) where
  with_again : digit x r ≡ 1 → with_digit x r ≡ x
  unfolding digit
  with_again e = set_already r x e

  -- a digit that was cleared, or was not there
  with_anew : with_digit (without_digit x r) r ≡ with_digit x r
  unfolding digit
  with_anew = pick (bit (x / 2 ^ r))
    where
      pick : (x / 2 ^ r % 2 ≡ 0) ⊎ (x / 2 ^ r % 2 ≡ 1) → bit_or (x - 2 ^ r * (x / 2 ^ r % 2)) (2 ^ r) ≡ bit_or x (2 ^ r)
      pick (inl e) = let z : x - 2 ^ r * (x / 2 ^ r % 2) ≡ x = ap (λ (k : ℕ). x - 2 ^ r * k) e ∙ omega arith in ap (λ (k : ℕ). bit_or k (2 ^ r)) z
      pick (inr e) =
          let z : x - 2 ^ r * (x / 2 ^ r % 2) ≡ x - 2 ^ r = ap (λ (k : ℕ). x - 2 ^ r * k) e ∙ omega arith in
          ap (λ (k : ℕ). bit_or k (2 ^ r)) z ∙ set_after r x e ∙ sym (set_already r x e)

  cleared : digit (without_digit x r) r ≡ 0
  unfolding digit
  cleared = pick (bit (x / 2 ^ r))
    where
      q : ℕ
      q = x / 2 ^ r

      less : q % 2 ≡ 1 → (x - 2 ^ r) / 2 ^ r ≡ q - 1
      less e =
          let a : q * 2 ^ r ≤ x = div-mul-le_self x (2 ^ r) in
          let b : x < q * 2 ^ r + 2 ^ r = lt-div-mul-add (pow_pos r) in
          let c : q - 1 + 1 ≡ q = omega arith in
          let d : q * 2 ^ r ≡ (q - 1) * 2 ^ r + 2 ^ r = ap (λ (k : ℕ). k * 2 ^ r) (sym c) ∙ block_end r (q - 1) in
          div-eq_of_lt-le {k = q - 1} (2 ^ r) {m = x - 2 ^ r} (omega arith) (omega (arith, block_end r (q - 1), pow_pos r))

      pick : (q % 2 ≡ 0) ⊎ (q % 2 ≡ 1) → (x - 2 ^ r * (q % 2)) / 2 ^ r % 2 ≡ 0
      pick (inl e) =
          let z : x - 2 ^ r * (q % 2) ≡ x = ap (λ (k : ℕ). x - 2 ^ r * k) e ∙ omega arith in ap (λ (k : ℕ). k / 2 ^ r % 2) z ∙ e
      pick (inr e) =
          let z : x - 2 ^ r * (q % 2) ≡ x - 2 ^ r = ap (λ (k : ℕ). x - 2 ^ r * k) e ∙ omega arith in
          ap (λ (k : ℕ). k / 2 ^ r % 2) z ∙ ap (λ (k : ℕ). k % 2) (less e) ∙ omega arith

-- ---- one bit

module _ (xs : List ℕ) (p b : ℕ) where
  bit_again : bit_at xs p b ≡ true → set_bit xs p b ≡ xs
  unfolding bit_at change_bit
  bit_again e =
      let x : ℕ = get_or xs (p + b / 8) 0 in
      ap (set xs (p + b / 8)) (with_again x (7 - b % 8) (eqb-true (digit x (7 - b % 8)) 1 e)) ∙ set-get_or xs (p + b / 8) 0

  bit_anew_set : set_bit (clear_bit xs p b) p b ≡ set_bit xs p b
  unfolding change_bit
  bit_anew_set = pick (dec_lt (p + b / 8) (length xs))
    where
      j : ℕ
      j = p + b / 8

      r : ℕ
      r = 7 - b % 8

      x : ℕ
      x = get_or xs j 0

      ys : List ℕ
      ys = set xs j (without_digit x r)

      pick : Dec (j < length xs) → set ys j (with_digit (get_or ys j 0) r) ≡ set xs j (with_digit x r)
      pick (yes l) =
          ap (λ (y : ℕ). set ys j (with_digit y r)) (get_or-set_same xs j (without_digit x r) 0 l)
          ∙ ap (set ys j) (with_anew x r) ∙ set-set xs j (without_digit x r) (with_digit x r)
      pick (no l) =
          ap (λ (zs : List ℕ). set zs j (with_digit (get_or zs j 0) r)) (set_out xs j (without_digit x r) (omega arith))

  bit_gone : p + b / 8 < length xs → bit_at (clear_bit xs p b) p b ≡ false
  unfolding bit_at change_bit
  bit_gone l =
      let x : ℕ = get_or xs (p + b / 8) 0 in
      let z = cleared x (7 - b % 8) in
      ap (λ (y : ℕ). eqb (digit y (7 - b % 8)) 1) (get_or-set_same xs (p + b / 8) (without_digit x (7 - b % 8)) 0 l)
      ∙ ne_eqb (digit (without_digit x (7 - b % 8)) (7 - b % 8)) 1 (λ e. omega arith)

-- ---- tree bits

tree_again : (xs : List ℕ) (i : ℕ) → stored_known xs i ≡ true → set_tree_bit xs i ≡ xs
unfolding stored_known set_tree_bit
tree_again xs i e = bit_again xs (bits_place (i / 16384) + 1024) (i % 16384) e

pub trees_again : (xs is : List ℕ) → ((i : ℕ) → In i is → stored_known xs i ≡ true) → set_tree_bits xs is ≡ xs
unfolding set_tree_bits In
trees_again xs [] h = refl
trees_again xs (i ∷ is) h = ap (λ (ys : List ℕ). set_tree_bits ys is) (tree_again xs i (h i (inl refl))) ∙ trees_again xs is (λ j m. h j (inr m))

-- ---- a data bit and the Index of its entry

module _ (xs : List ℕ) (k : ℕ) (room : RoomFor xs (k / 8192)) where
  clear_room : RoomFor (clear_data_bit xs k) (k / 8192)
  unfolding clear_data_bit change_bit
  clear_room = subst (λ (l : ℕ). bits_place (k / 8192 + 1) ≤ l) (sym (length-set xs (bits_place (k / 8192) + k % 8192 / 8) _)) room

  in_entry : bits_place (k / 8192) + k % 8192 / 8 < length xs
  unfolding bits_place
  in_entry = let r : bits_place (k / 8192 + 1) ≤ length xs = room in omega arith

  data_again : set_data_bit (set_data_bit xs k) k ≡ set_data_bit xs k
  unfolding set_data_bit
  data_again = bit_again (set_data_bit xs k) (bits_place (k / 8192)) (k % 8192) (bit_set xs (bits_place (k / 8192)) (k % 8192) in_entry)

  data_anew : set_data_bit (clear_data_bit xs k) k ≡ set_data_bit xs k
  unfolding set_data_bit clear_data_bit
  data_anew = bit_anew_set xs (bits_place (k / 8192)) (k % 8192)

  -- a chunk that is held again is held as it was
  pub held_twice : held_again (held_again xs k) k ≡ held_again xs k
  unfolding held_again
  held_twice = anew_once (set_data_bit xs k) k (room_bit xs k room) ∙ ap (λ (ys : List ℕ). regenerated ys (k / 8192)) data_again

  -- one that was released is held as if it had not been
  pub held_back : held_again (released_bits xs k) k ≡ held_again xs k
  unfolding held_again released_bits
  held_back = anew_once (clear_data_bit xs k) k clear_room ∙ ap (λ (ys : List ℕ). regenerated ys (k / 8192)) data_anew

  pub released_gone : stored_held (released_bits xs k) k ≡ false
  unfolding stored_held released_bits clear_data_bit
  released_gone =
      bit_anew (clear_data_bit xs k) (k / 8192) clear_room (bits_place (k / 8192)) (k % 8192) (inl (omega arith))
      ∙ bit_gone xs (bits_place (k / 8192)) (k % 8192) in_entry
