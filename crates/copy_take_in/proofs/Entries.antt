-- Laws of rows of entries. Assumes nothing.
use Prim.Native.Nat.{ℕ, zero, suc, ◌+◌, ◌-◌, ◌*◌, ◌/◌, ◌≤◌, ◌<◌}
use mathlib.Core.Path.{◌≡◌, refl, sym, ap, ap₂, ◌∙◌, subst}
use mathlib.Core.Bool.{Bool, true, false, cond}
use mathlib.Core.List.{List, [], ◌∷◌, ◌++◌, map, map-append}
use native.Mathlib.Nat.{zero-add, add-zero}
use native.Mathlib.Numerals.{add-one}
use native.Mathlib.Omega.{arith}
use borrow.Author.Tests.{lt-ltb, le-ltb}
use lib.Dec.{ltb}
use lib.ListN.{length, get_or}
use Rattle.byte_strings.specs.Lists.{part, put, run, total, Bytes}
use Rattle.byte_strings.proofs.Lists.{length_part, part_add, bytes_part, length_run, get_or_run, run_add, run_suc, total_append}
use Rattle.byte_strings.proofs.Numbers.{be_number}
use Rattle.bitfield.specs.Append.{bits_place, set_tree_bit, set_tree_bits}
use Rattle.file_format.specs.Sizes.{entry_place}
use Rattle.file_format.specs.Entries.{entry_bytes}
use Rattle.packet.specs.Check.{entry_in}
use Rattle.packet.specs.Inner.{sizes_in}
use Rattle.packet.proofs.Right.{map_run}
use Rattle.copy_take_in.specs.TakeIn.{Given, left_size, with_given, with_known}
use Rattle.copy_take_in.specs.Inner.{lies, row_given, KnowableIn, WithGiven}

-- ---- one entry

-- the 40 bytes of an entry are the entry's bytes again
pub given_bytes : (row : List ℕ) (at : ℕ) → Bytes row → at + 40 ≤ length row → entry_bytes (entry_in row at) ≡ part row at 40
unfolding entry_bytes entry_in
given_bytes row at b h =
    ap (λ (xs : List ℕ). part row at 32 ++ xs)
    (be_number 8 (part row (at + 32) 8) (bytes_part row (at + 32) 8 b) (length_part row (at + 32) 8 (omega arith)))
    ∙ sym (part_add row at 32 8)

-- one that is written
pub one_written : (t bits row : List ℕ) (at i place : ℕ) (y t' bits' : List ℕ) → Bytes row → at + 40 ≤ length row → place ≡ entry_place i → y ≡ part row at 40
    → t' ≡ put t place y → bits' ≡ set_tree_bit bits i → WithGiven t bits (lies row at i ∷ []) t' bits'
unfolding with_given with_known set_tree_bits
one_written t bits row at i place y t' bits' b h p q e f =
    record { tree = e ∙ ap₂ (put t) p (q ∙ sym (given_bytes row at b h)); bitfield = f }

-- ---- a row

pub length_row : (row : List ℕ) (at : ℕ) (is : List ℕ) (k : ℕ) → length (row_given row at is k) ≡ k
unfolding row_given
length_row row at is k = length_run _ 0 k

module _ {A : Type 0} (f : Given → A) (row : List ℕ) (at : ℕ) (is : List ℕ) where
  pub map_row : (k : ℕ) → map f (row_given row at is k) ≡ run (λ j. f (lies row (at + 40 * j) (get_or is j 0))) 0 k
  unfolding row_given
  map_row k = map_run f (λ j. lies row (at + 40 * j) (get_or is j 0)) 0 k

  pub row_length : (k : ℕ) → length (map f (row_given row at is k)) ≡ k
  row_length k = ap length (map_row k) ∙ length_run _ 0 k

  pub row_at : (k j : ℕ) (d : A) → j < k → f (lies row (at + 40 * j) (get_or is j 0)) ≡ get_or (map f (row_given row at is k)) j d
  row_at k j d h =
      sym (ap (λ (l : List A). get_or l j d) (map_row k) ∙ get_or_run (λ j. f (lies row (at + 40 * j) (get_or is j 0))) 0 k j d h
      ∙ ap (λ (i : ℕ). f (lies row (at + 40 * i) (get_or is i 0))) (zero-add j))

pub row_next : (row : List ℕ) (at : ℕ) (is : List ℕ) (j : ℕ)
    → row_given row at is (j + 1) ≡ row_given row at is j ++ (lies row (at + 40 * j) (get_or is j 0) ∷ [])
unfolding row_given
row_next row at is j =
    let f : ℕ → Given = λ i. lies row (at + 40 * i) (get_or is i 0) in
    ap (run f 0) (add-one j) ∙ run_suc f 0 j ∙ ap (λ (i : ℕ). run f 0 j ++ (f i ∷ [])) (zero-add j)

pub row_none : (row : List ℕ) (at : ℕ) (is : List ℕ) → row_given row at is 0 ≡ []
unfolding row_given run
row_none row at is = refl

-- ---- writing

pub with_append : (t : List ℕ) (gs hs : List Given) → with_given t (gs ++ hs) ≡ with_given (with_given t gs) hs
unfolding with_given
with_append t [] hs = refl
with_append t (g ∷ gs) hs = with_append (put t (entry_place g.at) (entry_bytes g.entry)) gs hs

bits_append : (xs is js : List ℕ) → set_tree_bits xs (is ++ js) ≡ set_tree_bits (set_tree_bits xs is) js
unfolding set_tree_bits
bits_append xs [] js = refl
bits_append xs (i ∷ is) js = bits_append (set_tree_bit xs i) is js

pub known_append : (bits : List ℕ) (gs hs : List Given) → with_known bits (gs ++ hs) ≡ with_known (with_known bits gs) hs
unfolding with_known
known_append bits gs hs =
    ap (set_tree_bits bits) (map-append (λ (g : Given). g.at) gs hs)
    ∙ bits_append bits (map (λ (g : Given). g.at) gs) (map (λ (g : Given). g.at) hs)

-- nothing is written, and then one thing after the other
pub with_none : (t bits : List ℕ) → WithGiven t bits [] t bits
unfolding with_given with_known set_tree_bits
with_none t bits = record { tree = refl; bitfield = refl }

pub with_more : {t bits : List ℕ} {gs hs : List Given} {t₁ bits₁ t₂ bits₂ : List ℕ} → WithGiven t bits gs t₁ bits₁ → WithGiven t₁ bits₁ hs t₂ bits₂
    → WithGiven t bits (gs ++ hs) t₂ bits₂
with_more {t} {bits} {gs} {hs} a b =
    record {
      tree = b.tree ∙ ap (λ (x : List ℕ). with_given x hs) a.tree ∙ sym (with_append t gs hs);
      bitfield = b.bitfield ∙ ap (λ (x : List ℕ). with_known x hs) a.bitfield ∙ sym (known_append bits gs hs);
    }

-- the files keep their lengths while a row is written
pub still : (t bits t' bits' : List ℕ) (i : ℕ) → length t' ≡ length t → length bits' ≡ length bits → KnowableIn t bits i → KnowableIn t' bits' i
still t bits t' bits' i e f k =
    record {
      entry = record { small = k.entry.small; inside = subst (λ (l : ℕ). entry_place i + 40 ≤ l) (sym e) k.entry.inside };
      bit = subst (λ (l : ℕ). bits_place (i / 16384 + 1) ≤ l) (sym f) k.bit;
    }

-- a row of which the first j are written
pub record Written (t bits row : List ℕ) (at : ℕ) (is : List ℕ) (k j : ℕ) (t' bits' : List ℕ) : Type 0 where
  pub few : j ≤ k
  pub holds : WithGiven t bits (row_given row at is j) t' bits'
  pub tree_long_lem : length t' ≡ length t
  pub bits_long_lem : length bits' ≡ length bits

module _ (t bits row : List ℕ) (at : ℕ) (is : List ℕ) (k : ℕ) where
  pub written_none : Written t bits row at is k 0 t bits
  written_none =
      record {
        few = omega arith;
        holds = subst (λ (gs : List Given). WithGiven t bits gs t bits) (sym (row_none row at is)) (with_none t bits);
        tree_long_lem = refl;
        bits_long_lem = refl;
      }

  pub written_next : (j i : ℕ) (t₁ bits₁ t₂ bits₂ : List ℕ) → Written t bits row at is k j t₁ bits₁ → j < k → i ≡ get_or is j 0
      → WithGiven t₁ bits₁ (lies row (at + 40 * j) i ∷ []) t₂ bits₂ → length t₂ ≡ length t₁ → length bits₂ ≡ length bits₁
      → Written t bits row at is k (j + 1) t₂ bits₂
  written_next j i t₁ bits₁ t₂ bits₂ w h p g e f =
      record {
        few = omega arith;
        holds =
            subst (λ (gs : List Given). WithGiven t bits gs t₂ bits₂)
            (ap (λ (x : ℕ). row_given row at is j ++ (lies row (at + 40 * j) x ∷ [])) p ∙ sym (row_next row at is j))
            (with_more w.holds g);
        tree_long_lem = e ∙ w.tree_long_lem;
        bits_long_lem = f ∙ w.bits_long_lem;
      }

  pub written_all : (j : ℕ) (t' bits' : List ℕ) → Written t bits row at is k j t' bits' → k ≤ j → WithGiven t bits (row_given row at is k) t' bits'
  written_all j t' bits' w h =
      let e : j ≡ k = omega (arith, w.few) in subst (λ (x : ℕ). WithGiven t bits (row_given row at is x) t' bits') e w.holds

-- ---- lengths to the left

module _ (leaf : ℕ) (row : List ℕ) (at i : ℕ) where
  pub left_of : i < leaf → (entry_in row at).size ≡ left_size leaf (lies row at i)
  unfolding left_size
  left_of h = sym (ap (λ (b : Bool). cond b (entry_in row at).size 0) (lt-ltb i leaf h))

  pub right_of : leaf ≤ i → 0 ≡ left_size leaf (lies row at i)
  unfolding left_size
  right_of h = sym (ap (λ (b : Bool). cond b (entry_in row at).size 0) (le-ltb i leaf h))

pub left_le : (leaf : ℕ) (g : Given) → left_size leaf g ≤ g.entry.size
unfolding left_size
left_le leaf g = pick (ltb g.at leaf)
  where
    pick : (b : Bool) → cond b g.entry.size 0 ≤ g.entry.size
    pick true = omega arith
    pick false = omega arith

run_le : (f g : ℕ → ℕ) → ((j : ℕ) → f j ≤ g j) → (i k : ℕ) → total (run f i k) ≤ total (run g i k)
unfolding run total
run_le f g h i zero = omega arith
run_le f g h i (suc k) = omega (arith, h i, run_le f g h (suc i) k)

run_more : (g : ℕ → ℕ) (j k : ℕ) → j ≤ k → total (run g 0 j) ≤ total (run g 0 k)
run_more g j k h =
    let e : k ≡ j + (k - j) = omega arith in
    omega (arith, ap (λ (x : ℕ). total (run g 0 x)) e ∙ ap total (run_add g 0 j (k - j)) ∙ total_append (run g 0 j) (run g (0 + j) (k - j)))

module _ (leaf : ℕ) (row : List ℕ) (at : ℕ) (is : List ℕ) where
  pub left_none : total (map (left_size leaf) (row_given row at is 0)) ≡ 0
  unfolding total
  left_none = ap (λ (gs : List Given). total (map (left_size leaf) gs)) (row_none row at is)

  pub left_next : (j : ℕ) → total (map (left_size leaf) (row_given row at is (j + 1)))
      ≡ total (map (left_size leaf) (row_given row at is j)) + left_size leaf (lies row (at + 40 * j) (get_or is j 0))
  unfolding total
  left_next j =
      ap (λ (gs : List Given). total (map (left_size leaf) gs)) (row_next row at is j)
      ∙ ap total (map-append (left_size leaf) (row_given row at is j) (lies row (at + 40 * j) (get_or is j 0) ∷ []))
      ∙ total_append (map (left_size leaf) (row_given row at is j)) (left_size leaf (lies row (at + 40 * j) (get_or is j 0)) ∷ [])
      ∙ ap (λ (x : ℕ). total (map (left_size leaf) (row_given row at is j)) + x) (add-zero (left_size leaf (lies row (at + 40 * j) (get_or is j 0))))

  pub left_whole : (j k : ℕ) → j ≤ k → total (map (left_size leaf) (row_given row at is j)) ≤ total (sizes_in row at k)
  unfolding sizes_in
  left_whole j k h =
      subst (λ (x : ℕ). x ≤ total (run (λ i. (entry_in row (at + 40 * i)).size) 0 k)) (sym (ap total (map_row (left_size leaf) row at is j)))
      (omega (
        arith,
        run_le (λ i. left_size leaf (lies row (at + 40 * i) (get_or is i 0))) (λ i. (entry_in row (at + 40 * i)).size)
            (λ i. left_le leaf (lies row (at + 40 * i) (get_or is i 0))) 0 j,
        run_more (λ i. (entry_in row (at + 40 * i)).size) j k h,
      ))
