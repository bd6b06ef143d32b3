-- What a taking in does to the bitfield file it does within the used bytes, and reads nothing behind them. Assumes nothing.
use Prim.Native.Nat.{ℕ, ◌+◌, ◌*◌, ◌/◌, ◌%◌, ◌≤◌}
use mathlib.Core.Path.{◌≡◌, refl, sym, ap, ◌∙◌, subst}
use mathlib.Core.Logic.{inl, inr}
use mathlib.Core.List.{List, [], ◌∷◌, ◌++◌}
use native.Mathlib.Omega.{arith}
use lib.ListN.{length, take, drop, take-append-drop}
use lib.Seq.{length-take-le, take_at, drop_at}
use Rattle.byte_strings.specs.Lists.{part, put}
use Rattle.byte_strings.proofs.Lists.{part_left}
use Rattle.bitfield.specs.Bits.{with_digit}
use Rattle.bitfield.specs.Index.{index_bytes}
use Rattle.bitfield.specs.Append.{bits_place, set_data_bit, set_tree_bit, set_tree_bits, regenerated}
use Rattle.bitfield.specs.Known.{held_again}
use Rattle.bitfield.proofs.Levels.{length_index}
use Rattle.bitfield.proofs.Image.{bit_local, put_local}
use Rattle.copy_take_in.specs.TakeIn.{Given, with_known}
use Rattle.byte_strings.proofs.Members.{In, in_map}
use Rattle.bitfield.proofs.StoredBits.{RoomFor, length_bit, length_tree_bit, length_held}
use Rattle.theorem_taking_laws.proofs.Given.{places_of, AllRoom, length_known}

bits_behind : (is xs ys : List ℕ) → ((i : ℕ) → In i is → RoomFor xs (i / 16384)) → set_tree_bits (xs ++ ys) is ≡ set_tree_bits xs is ++ ys
unfolding set_tree_bits set_tree_bit bits_place In
bits_behind [] xs ys r = refl
bits_behind (i ∷ is) xs ys r =
    let h = r i (inl refl) in
    ap (λ (l : List ℕ). set_tree_bits l is) ((bit_local with_digit (i % 16384)).within xs ys (32 + 3328 * (i / 16384) + 1024) (omega arith))
    ∙ bits_behind is (set_tree_bit xs i) ys
    (λ j m. subst (λ (x : ℕ). 32 + 3328 * (j / 16384 + 1) ≤ x) (sym (length_tree_bit xs i)) (r j (inr m)))

held_behind_lem : (xs ys : List ℕ) (k : ℕ) → RoomFor xs (k / 8192) → held_again (xs ++ ys) k ≡ held_again xs k ++ ys
unfolding held_again regenerated set_data_bit bits_place
held_behind_lem xs ys k r =
    let at : ℕ = 32 + 3328 * (k / 8192) in
    let long : length (set_data_bit xs k) ≡ length xs = length_bit xs at (k % 8192) in
    ap (λ (l : List ℕ). put l (at + 3072) (index_bytes (part l at 1024))) ((bit_local with_digit (k % 8192)).within xs ys at (omega arith))
    ∙ ap (λ (d : List ℕ). put (set_data_bit xs k ++ ys) (at + 3072) (index_bytes d)) (part_left (set_data_bit xs k) ys at 1024 (omega arith))
    ∙ (put_local (index_bytes (part (set_data_bit xs k) at 1024))).within (set_data_bit xs k) ys (at + 3072) (omega (arith, length_index (part (set_data_bit xs k) at 1024)))

-- the tree bits of all that is given, and a data bit
module _ (bits : List ℕ) (used : ℕ) (enough : used ≤ length bits) (gs : List Given) (k : ℕ) (room : AllRoom (take used bits) gs)
    (bit : RoomFor (take used bits) (k / 8192)) where
  abbrev front : List ℕ
  front = take used bits

  rooms : (i : ℕ) → In i (places_of gs) → RoomFor front (i / 16384)
  rooms i m = let q = in_map (λ (g : Given). g.at) i gs m in subst (λ (j : ℕ). RoomFor front (j / 16384)) q.2 (room q.0 q.1)

  bit_there : RoomFor (with_known front gs) (k / 8192)
  bit_there = subst (λ (x : ℕ). bits_place (k / 8192 + 1) ≤ x) (sym (length_known front gs)) bit

  halves : held_again (with_known bits gs) k ≡ held_again (with_known front gs) k ++ drop used bits
  unfolding with_known
  halves =
      ap (λ (l : List ℕ). held_again (set_tree_bits l (places_of gs)) k) (sym (take-append-drop used bits))
      ∙ ap (λ (l : List ℕ). held_again l k) (bits_behind (places_of gs) front (drop used bits) rooms)
      ∙ held_behind_lem (with_known front gs) (drop used bits) k bit_there

  front_long : length (held_again (with_known front gs) k) ≡ used
  front_long = length_held (with_known front gs) k bit_there ∙ length_known front gs ∙ length-take-le used bits enough

  pub taken_front : take used (held_again (with_known bits gs) k) ≡ held_again (with_known front gs) k
  taken_front = ap (take used) halves ∙ take_at (held_again (with_known front gs) k) (drop used bits) used front_long

  pub taken_rest : drop used (held_again (with_known bits gs) k) ≡ drop used bits
  taken_rest = ap (drop used) halves ∙ drop_at (held_again (with_known front gs) k) (drop used bits) used front_long
