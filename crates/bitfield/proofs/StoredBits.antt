-- What tree bits and a data bit leave of a bitfield file, in any order. Assumes nothing.
use Prim.Native.Nat.{ℕ, ◌+◌, ◌*◌, ◌/◌, ◌%◌, ◌≤◌, ◌<◌}
use mathlib.Core.Path.{◌≡◌, refl, sym, ap, ap₂, ◌∙◌, subst}
use mathlib.Core.Logic.{◌⊎◌, inl, inr, ⊎_elim}
use mathlib.Core.Bool.{Bool, true, false, ◌||◌}
use mathlib.Core.List.{List, [], ◌∷◌}
use native.Mathlib.Decide.{dec_lt}
use native.Mathlib.Omega.{arith}
use borrow.Author.Tests.{eqb-true, eqb-false}
use lib.Dec.{eqb}
use lib.Arith.{lt_of_le-ne}
use lib.ListN.{length, take, length-set}
use lib.Seq.{take-set-le}
use Rattle.byte_strings.specs.Lists.{part, put, among}
use Rattle.byte_strings.proofs.Lists.{length_put, take_put, part_put_before, part_put_behind}
use Rattle.bitfield.specs.Bits.{bit_at, change_bit, set_bit, with_digit}
use Rattle.bitfield.specs.Index.{index_bytes}
use Rattle.bitfield.specs.Append.{bits_place, set_data_bit, set_tree_bit, set_tree_bits, regenerated}
use Rattle.bitfield.specs.Release.{stored_held}
use Rattle.bitfield.specs.Known.{stored_known, held_again}
use Rattle.bitfield.proofs.Levels.{same_or, length_index}
use Rattle.byte_strings.proofs.Members.{In}
use Rattle.bitfield.proofs.Beside.{puts_turn, bit_put, part_bit, bit_beside}
use Rattle.byte_strings.proofs.Puts.{put_over}
use Rattle.byte_strings.proofs.Bools.{cases}
use Rattle.bitfield.proofs.SetBits.{bit_set, bit_kept, bits_turn}

-- the entry e lies in the file
abbrev pub RoomFor : List ℕ → ℕ → Type 0
RoomFor xs e = bits_place (e + 1) ≤ length xs

pub length_bit : (xs : List ℕ) (p b : ℕ) → length (set_bit xs p b) ≡ length xs
unfolding change_bit
length_bit xs p b = length-set xs (p + b / 8) _

-- two entries
apart_or : (e f : ℕ) → (e ≡ f → ⊥) → (e < f) ⊎ (f < e)
apart_or e f n = elim (dec_lt e f) [ yes l ↦ inl l | no l ↦ inr (lt_of_le-ne (omega arith) (λ z. n (sym z))) ]

-- ---- one tree bit

module _ (xs : List ℕ) (i : ℕ) where
  pub length_tree_bit : length (set_tree_bit xs i) ≡ length xs
  unfolding set_tree_bit
  length_tree_bit = length_bit xs (bits_place (i / 16384) + 1024) (i % 16384)

  known_here : RoomFor xs (i / 16384) → stored_known (set_tree_bit xs i) i ≡ true
  unfolding stored_known set_tree_bit bits_place
  known_here r = bit_set xs (32 + 3328 * (i / 16384) + 1024) (i % 16384) (omega arith)

  known_there : (j : ℕ) → (j ≡ i → ⊥) → stored_known (set_tree_bit xs i) j ≡ stored_known xs j
  unfolding stored_known set_tree_bit bits_place
  known_there j n =
      bit_kept xs (32 + 3328 * (i / 16384) + 1024) (i % 16384) (32 + 3328 * (j / 16384) + 1024) (j % 16384)
      (λ e f. n (omega arith))

  pub known_one : RoomFor xs (i / 16384) → (j : ℕ) → stored_known (set_tree_bit xs i) j ≡ (eqb j i || stored_known xs j)
  known_one r j =
      ⊎_elim
      (λ e. ap (stored_known (set_tree_bit xs i)) (eqb-true j i e) ∙ known_here r ∙ sym (ap (λ (b : Bool). b || stored_known xs j) e))
      (λ e. known_there j (eqb-false j i e) ∙ sym (ap (λ (b : Bool). b || stored_known xs j) e))
      (cases (eqb j i))

  -- a tree bit is no data bit
  pub held_other : (k : ℕ) → stored_held (set_tree_bit xs i) k ≡ stored_held xs k
  unfolding stored_held set_tree_bit bits_place
  held_other k = bit_kept xs (32 + 3328 * (i / 16384) + 1024) (i % 16384) (32 + 3328 * (k / 8192)) (k % 8192) (λ e f. omega arith)

  pub front_tree_bit : take 32 (set_tree_bit xs i) ≡ take 32 xs
  unfolding set_tree_bit change_bit bits_place
  front_tree_bit = take-set-le 32 xs (32 + 3328 * (i / 16384) + 1024 + i % 16384 / 8) _ (omega arith)

-- ---- tree bits

or_swap : (a b c : Bool) → (b || (a || c)) ≡ ((a || b) || c)
or_swap true true c = refl
or_swap true false c = refl
or_swap false b c = refl

pub length_tree_bits : (xs is : List ℕ) → length (set_tree_bits xs is) ≡ length xs
unfolding set_tree_bits
length_tree_bits xs [] = refl
length_tree_bits xs (i ∷ is) = length_tree_bits (set_tree_bit xs i) is ∙ length_tree_bit xs i

pub front_tree_bits : (xs is : List ℕ) → take 32 (set_tree_bits xs is) ≡ take 32 xs
unfolding set_tree_bits
front_tree_bits xs [] = refl
front_tree_bits xs (i ∷ is) = front_tree_bits (set_tree_bit xs i) is ∙ front_tree_bit xs i

-- known are those that were, and those whose bits were set
pub known_bits_lem : (xs is : List ℕ) → ((i : ℕ) → In i is → RoomFor xs (i / 16384)) → (j : ℕ)
    → stored_known (set_tree_bits xs is) j ≡ (among j is || stored_known xs j)
unfolding set_tree_bits among In
known_bits_lem xs [] r j = refl
known_bits_lem xs (i ∷ is) r j =
    known_bits_lem (set_tree_bit xs i) is (λ k m. subst (λ (l : ℕ). bits_place (k / 16384 + 1) ≤ l) (sym (length_tree_bit xs i)) (r k (inr m))) j
    ∙ ap (λ (b : Bool). among j is || b) (known_one xs i (r i (inl refl)) j) ∙ or_swap (eqb j i) (among j is) (stored_known xs j)

pub held_bits_lem : (xs is : List ℕ) (k : ℕ) → stored_held (set_tree_bits xs is) k ≡ stored_held xs k
unfolding set_tree_bits
held_bits_lem xs [] k = refl
held_bits_lem xs (i ∷ is) k = held_bits_lem (set_tree_bit xs i) is k ∙ held_other xs i k

tree_bit_turn : (xs : List ℕ) (i j : ℕ) → set_tree_bit (set_tree_bit xs i) j ≡ set_tree_bit (set_tree_bit xs j) i
unfolding set_tree_bit
tree_bit_turn xs i j = bits_turn xs (bits_place (i / 16384) + 1024) (i % 16384) (bits_place (j / 16384) + 1024) (j % 16384)

tree_bit_bits : (xs : List ℕ) (i : ℕ) (is : List ℕ) → set_tree_bit (set_tree_bits xs is) i ≡ set_tree_bits (set_tree_bit xs i) is
unfolding set_tree_bits
tree_bit_bits xs i [] = refl
tree_bit_bits xs i (j ∷ is) = tree_bit_bits (set_tree_bit xs j) i is ∙ ap (λ (ys : List ℕ). set_tree_bits ys is) (tree_bit_turn xs j i)

-- in any order
pub tree_bits_turn : (xs is js : List ℕ) → set_tree_bits (set_tree_bits xs is) js ≡ set_tree_bits (set_tree_bits xs js) is
unfolding set_tree_bits
tree_bits_turn xs is [] = refl
tree_bits_turn xs is (j ∷ js) = ap (λ (ys : List ℕ). set_tree_bits ys js) (tree_bit_bits xs j is) ∙ tree_bits_turn (set_tree_bit xs j) is js

-- ---- a data bit, and the Index of its entry made anew

length_data_bit : (xs : List ℕ) (k : ℕ) → length (set_data_bit xs k) ≡ length xs
unfolding set_data_bit
length_data_bit xs k = length_bit xs (bits_place (k / 8192)) (k % 8192)

module _ (xs : List ℕ) (e : ℕ) (r : RoomFor xs e) where
  length_anew : length (regenerated xs e) ≡ length xs
  unfolding regenerated bits_place
  length_anew =
      length_put xs (32 + 3328 * e + 3072) (index_bytes (part xs (32 + 3328 * e) 1024)) (omega (arith, length_index (part xs (32 + 3328 * e) 1024)))

  -- bits beside the Index stay
  pub bit_anew : (p b : ℕ) → (p + b / 8 < bits_place e + 3072) ⊎ (bits_place e + 3328 ≤ p + b / 8) → bit_at (regenerated xs e) p b ≡ bit_at xs p b
  unfolding regenerated bits_place
  bit_anew p b w =
      let l = length_index (part xs (32 + 3328 * e) 1024) in
      bit_beside xs (32 + 3328 * e + 3072) (index_bytes (part xs (32 + 3328 * e) 1024)) p b
      (elim w [ inl h ↦ inl h | inr h ↦ inr (omega arith) ]) (omega arith)

  -- a bit set beside the data bytes and the Index
  bit_then_anew : (p b : ℕ) → b / 8 < 2048 → p ≤ length xs → (p + b / 8 < bits_place e) ⊎ (bits_place e + 1024 ≤ p)
      → (p + (b / 8 + 1) ≤ bits_place e + 3072) ⊎ (bits_place e + 3328 ≤ p)
      → regenerated (set_bit xs p b) e ≡ set_bit (regenerated xs e) p b
  unfolding regenerated bits_place
  bit_then_anew p b small inside u w =
      let l = length_index (part xs (32 + 3328 * e) 1024) in
      ap (λ (ys : List ℕ). put (set_bit xs p b) (32 + 3328 * e + 3072) (index_bytes ys)) (part_bit xs with_digit p b (32 + 3328 * e) 1024 u)
      ∙ bit_put xs with_digit p b (32 + 3328 * e + 3072) (index_bytes (part xs (32 + 3328 * e) 1024))
      (elim w [ inl h ↦ inl h | inr h ↦ inr (omega arith) ]) inside (omega arith)

-- a tree bit
tree_then_anew : (xs : List ℕ) (e i : ℕ) → RoomFor xs e → RoomFor xs (i / 16384) → regenerated (set_tree_bit xs i) e ≡ set_tree_bit (regenerated xs e) i
unfolding set_tree_bit bits_place
tree_then_anew xs e i r s =
    bit_then_anew xs e r (32 + 3328 * (i / 16384) + 1024) (i % 16384) (omega arith) (omega arith)
    (elim (dec_lt (i / 16384) e) [ yes l ↦ inl (omega arith) | no l ↦ inr (omega arith) ])
    (elim (dec_lt e (i / 16384)) [ yes l ↦ inr (omega arith) | no l ↦ inl (omega arith) ])

-- a data bit of another entry
data_then_anew : (xs : List ℕ) (e k : ℕ) → RoomFor xs e → RoomFor xs (k / 8192) → (k / 8192 ≡ e → ⊥)
    → regenerated (set_data_bit xs k) e ≡ set_data_bit (regenerated xs e) k
unfolding set_data_bit bits_place
data_then_anew xs e k r s n =
    elim (apart_or (k / 8192) e n) [
      | inl l ↦ bit_then_anew xs e r (32 + 3328 * (k / 8192)) (k % 8192) (omega arith) (omega arith) (inl (omega arith)) (inl (omega arith))
      | inr l ↦ bit_then_anew xs e r (32 + 3328 * (k / 8192)) (k % 8192) (omega arith) (omega arith) (inr (omega arith)) (inr (omega arith))
    ]

-- two entries anew
anew_turn : (xs : List ℕ) (e f : ℕ) → RoomFor xs e → RoomFor xs f → (e ≡ f → ⊥) → regenerated (regenerated xs e) f ≡ regenerated (regenerated xs f) e
unfolding regenerated bits_place
anew_turn xs e f r s n =
    let a : ℕ = 32 + 3328 * e in
    let b : ℕ = 32 + 3328 * f in
    let ys : List ℕ = index_bytes (part xs a 1024) in
    let zs : List ℕ = index_bytes (part xs b 1024) in
    let l = length_index (part xs a 1024) in
    let m = length_index (part xs b 1024) in
    ap (λ (d : List ℕ). put (put xs (a + 3072) ys) (b + 3072) (index_bytes d))
    (elim (apart_or e f n) [
      | inl h ↦ part_put_behind xs (a + 3072) ys b 1024 (omega arith) (omega arith)
      | inr h ↦ part_put_before xs (a + 3072) ys b 1024 (omega arith) (omega arith)
    ])
    ∙ puts_turn xs (a + 3072) ys (b + 3072) zs (elim (apart_or e f n) [ inl h ↦ inl (omega arith) | inr h ↦ inr (omega arith) ]) (omega arith) (omega arith)
    ∙ ap (λ (d : List ℕ). put (put xs (b + 3072) zs) (a + 3072) (index_bytes d))
    (sym
    (elim (apart_or e f n) [
      | inl h ↦ part_put_before xs (b + 3072) zs a 1024 (omega arith) (omega arith)
      | inr h ↦ part_put_behind xs (b + 3072) zs a 1024 (omega arith) (omega arith)
    ]))

-- what was made anew before the bit was set plays no part
pub anew_once : (xs : List ℕ) (k : ℕ) → RoomFor xs (k / 8192) → regenerated (set_data_bit (regenerated xs (k / 8192)) k) (k / 8192) ≡ held_again xs k
unfolding held_again regenerated set_data_bit bits_place
anew_once xs k r =
    let a : ℕ = 32 + 3328 * (k / 8192) in
    let b : ℕ = k % 8192 in
    let ys : List ℕ = index_bytes (part xs a 1024) in
    let us : List ℕ = set_bit xs a b in
    let l = length_index (part xs a 1024) in
    let m = length_index (part us a 1024) in
    let n : length us ≡ length xs = length_bit xs a b in
    ap (λ (vs : List ℕ). put vs (a + 3072) (index_bytes (part vs a 1024)))
    (sym (bit_put xs with_digit a b (a + 3072) ys (inl (omega arith)) (omega arith) (omega arith)))
    ∙ ap (λ (d : List ℕ). put (put us (a + 3072) ys) (a + 3072) (index_bytes d)) (part_put_before us (a + 3072) ys a 1024 (omega arith) (omega arith))
    ∙ put_over us (a + 3072) ys (index_bytes (part us a 1024)) (omega arith) (l ∙ sym m)

data_bit_turn : (xs : List ℕ) (j k : ℕ) → set_data_bit (set_data_bit xs j) k ≡ set_data_bit (set_data_bit xs k) j
unfolding set_data_bit
data_bit_turn xs j k = bits_turn xs (bits_place (j / 8192)) (j % 8192) (bits_place (k / 8192)) (k % 8192)

module _ (xs : List ℕ) (k : ℕ) (r : RoomFor xs (k / 8192)) where
  pub room_bit : RoomFor (set_data_bit xs k) (k / 8192)
  room_bit = subst (λ (l : ℕ). bits_place (k / 8192 + 1) ≤ l) (sym (length_data_bit xs k)) r

  pub length_held : length (held_again xs k) ≡ length xs
  unfolding held_again
  length_held = length_anew (set_data_bit xs k) (k / 8192) room_bit ∙ length_data_bit xs k

  pub front_held : take 32 (held_again xs k) ≡ take 32 xs
  unfolding held_again regenerated set_data_bit change_bit bits_place
  front_held =
      let e : ℕ = 32 + 3328 * (k / 8192) in
      take_put 32 (set_data_bit xs k) (e + 3072) (index_bytes (part (set_data_bit xs k) e 1024)) (omega arith) (omega (arith, length_data_bit xs k))
      ∙ take-set-le 32 xs (e + k % 8192 / 8) _ (omega arith)

  -- held are those that were, and the one whose bit was set
  pub held_again_lem : (j : ℕ) → stored_held (held_again xs k) j ≡ (eqb j k || stored_held xs j)
  unfolding held_again stored_held set_data_bit bits_place
  held_again_lem j =
      bit_anew (set_data_bit xs k) (k / 8192) room_bit (32 + 3328 * (j / 8192)) (j % 8192)
      (elim (dec_lt (k / 8192) (j / 8192)) [ yes l ↦ inr (omega arith) | no l ↦ inl (omega arith) ])
      ∙ ⊎_elim (λ e. here (eqb-true j k e) ∙ sym (ap (λ (b : Bool). b || bit_at xs (32 + 3328 * (j / 8192)) (j % 8192)) e))
      (λ e. there (eqb-false j k e) ∙ sym (ap (λ (b : Bool). b || bit_at xs (32 + 3328 * (j / 8192)) (j % 8192)) e)) (cases (eqb j k))
    where
      here : j ≡ k → bit_at (set_bit xs (32 + 3328 * (k / 8192)) (k % 8192)) (32 + 3328 * (j / 8192)) (j % 8192) ≡ true
      here e =
          ap (λ (i : ℕ). bit_at (set_bit xs (32 + 3328 * (k / 8192)) (k % 8192)) (32 + 3328 * (i / 8192)) (i % 8192)) e
          ∙ bit_set xs (32 + 3328 * (k / 8192)) (k % 8192) (omega arith)

      there : (j ≡ k → ⊥)
          → bit_at (set_bit xs (32 + 3328 * (k / 8192)) (k % 8192)) (32 + 3328 * (j / 8192)) (j % 8192) ≡ bit_at xs (32 + 3328 * (j / 8192)) (j % 8192)
      there n = bit_kept xs (32 + 3328 * (k / 8192)) (k % 8192) (32 + 3328 * (j / 8192)) (j % 8192) (λ e f. n (omega arith))

  -- a data bit is no tree bit
  pub known_again : (i : ℕ) → stored_known (held_again xs k) i ≡ stored_known xs i
  unfolding held_again stored_known set_data_bit bits_place
  known_again i =
      bit_anew (set_data_bit xs k) (k / 8192) room_bit (32 + 3328 * (i / 16384) + 1024) (i % 16384)
      (elim (dec_lt (k / 8192) (i / 16384)) [ yes l ↦ inr (omega arith) | no l ↦ inl (omega arith) ])
      ∙ bit_kept xs (32 + 3328 * (k / 8192)) (k % 8192) (32 + 3328 * (i / 16384) + 1024) (i % 16384) (λ e f. omega arith)

  tree_data : (i : ℕ) → set_data_bit (set_tree_bit xs i) k ≡ set_tree_bit (set_data_bit xs k) i
  unfolding set_data_bit set_tree_bit
  tree_data i = bits_turn xs (bits_place (i / 16384) + 1024) (i % 16384) (bits_place (k / 8192)) (k % 8192)

  tree_held : (i : ℕ) → RoomFor xs (i / 16384) → held_again (set_tree_bit xs i) k ≡ set_tree_bit (held_again xs k) i
  unfolding held_again
  tree_held i s =
      ap (λ (ys : List ℕ). regenerated ys (k / 8192)) (tree_data i)
      ∙ tree_then_anew (set_data_bit xs k) (k / 8192) i room_bit (subst (λ (l : ℕ). bits_place (i / 16384 + 1) ≤ l) (sym (length_data_bit xs k)) s)

-- tree bits and a data bit, in any order
pub tree_bits_held : (xs is : List ℕ) (k : ℕ) → RoomFor xs (k / 8192) → ((i : ℕ) → In i is → RoomFor xs (i / 16384))
    → held_again (set_tree_bits xs is) k ≡ set_tree_bits (held_again xs k) is
unfolding set_tree_bits In
tree_bits_held xs [] k r s = refl
tree_bits_held xs (i ∷ is) k r s =
    let l : length (set_tree_bit xs i) ≡ length xs = length_tree_bit xs i in
    tree_bits_held (set_tree_bit xs i) is k (subst (λ (n : ℕ). bits_place (k / 8192 + 1) ≤ n) (sym l) r)
    (λ j m. subst (λ (n : ℕ). bits_place (j / 16384 + 1) ≤ n) (sym l) (s j (inr m)))
    ∙ ap (λ (ys : List ℕ). set_tree_bits ys is) (tree_held xs k r i (s i (inl refl)))

-- two data bits, in any order
pub held_turn : (xs : List ℕ) (j k : ℕ) → RoomFor xs (j / 8192) → RoomFor xs (k / 8192) → held_again (held_again xs j) k ≡ held_again (held_again xs k) j
unfolding held_again
held_turn xs j k r s = ⊎_elim same other (same_or (j / 8192) (k / 8192))
  where
    in_bit : (i e : ℕ) → RoomFor xs e → RoomFor (set_data_bit xs i) e
    in_bit i e t = subst (λ (l : ℕ). bits_place (e + 1) ≤ l) (sym (length_data_bit xs i)) t

    once : (i m : ℕ) → i / 8192 ≡ m / 8192 → RoomFor xs (m / 8192) → held_again (held_again xs i) m ≡ regenerated (set_data_bit (set_data_bit xs i) m) (m / 8192)
    once i m e t =
        ap (λ (f : ℕ). regenerated (set_data_bit (regenerated (set_data_bit xs i) f) m) (m / 8192)) e ∙ anew_once (set_data_bit xs i) m (in_bit i (m / 8192) t)

    same : j / 8192 ≡ k / 8192 → held_again (held_again xs j) k ≡ held_again (held_again xs k) j
    same e =
        once j k e s ∙ ap₂ regenerated (data_bit_turn xs j k) (sym e) ∙ sym (once k j (sym e) r)

    twice : (i m : ℕ) → (m / 8192 ≡ i / 8192 → ⊥) → RoomFor xs (i / 8192) → RoomFor xs (m / 8192)
        → held_again (held_again xs i) m ≡ regenerated (regenerated (set_data_bit (set_data_bit xs i) m) (i / 8192)) (m / 8192)
    twice i m n t u =
        ap (λ (ys : List ℕ). regenerated ys (m / 8192)) (sym (data_then_anew (set_data_bit xs i) (i / 8192) m (in_bit i (i / 8192) t) (in_bit i (m / 8192) u) n))

    other : (j / 8192 ≡ k / 8192 → ⊥) → held_again (held_again xs j) k ≡ held_again (held_again xs k) j
    other n =
        let ys : List ℕ = set_data_bit (set_data_bit xs j) k in
        let l : length ys ≡ length xs = length_data_bit (set_data_bit xs j) k ∙ length_data_bit xs j in
        twice j k (λ e. n (sym e)) r s
        ∙ anew_turn ys (j / 8192) (k / 8192) (subst (λ (m : ℕ). bits_place (j / 8192 + 1) ≤ m) (sym l) r)
        (subst (λ (m : ℕ). bits_place (k / 8192 + 1) ≤ m) (sym l) s) n
        ∙ ap (λ (zs : List ℕ). regenerated (regenerated zs (k / 8192)) (j / 8192)) (data_bit_turn xs j k) ∙ sym (twice k j n s r)
