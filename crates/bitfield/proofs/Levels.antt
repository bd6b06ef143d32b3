-- The Index level by level is the Index. Assumes nothing.
use mathlib.Core.Path.{◌≡◌, refl, sym, ap, ◌∙◌, subst}
use mathlib.Core.Logic.{◌⊎◌, inl, inr, ⊎_elim}
use Prim.Native.Nat.{ℕ, zero, suc, ◌+◌, ◌-◌, ◌*◌, ◌/◌, ◌%◌, ◌<◌, ◌≤◌}
use native.Mathlib.Nat.{zero-add, mul_comm, mul-le-mul_right, div-add-mod'}
use native.Mathlib.Omega.{arith}
use native.Mathlib.Numerals.{add-one}
use mathlib.Core.Bool.{Bool, true, false, ◌&&◌}
use mathlib.Core.List.{List, [], ◌∷◌, ◌++◌, append_assoc, append-nil}
use lib.Dec.{eqb, ltb}
use lib.Arith.{digits_div, digits_mod, lt_of_le-ne}
use lib.ListN.{length, get_or, set, length-set, length-append}
use lib.Seq.{set_at, ext_get_or, get_or-set_same, get_or-set_other}
use borrow.Author.Tests.{eqb-true, eqb-false, eq-eqb, ne_eqb, lt-ltb, le-ltb, ltb-true, ltb-false}
use Rattle.byte_strings.specs.Lists.{run, joined, zeros, Bytes}
use Rattle.byte_strings.proofs.Lists.{joined_run_suc, length_joined, length_run, get_or_run, run_get_or, run_ext, bytes_append, bytes_run}
use Rattle.byte_strings.proofs.Bools.{and_false, cases}
use Rattle.tree_index.specs.Tree.{depth, block, trailing_ones}
use Rattle.bitfield.specs.Index.{uniform, four, tuple, tuples, combine, combined, index_bytes, index_byte, node}
use Rattle.bitfield.specs.Levels.{leaves, level, level_byte, among_first, pick}

pub levels : (d : List ℕ)
    → level (level (level (level (level (level (level (leaves d 128) 1 64) 2 32) 4 16) 8 8) 16 4) 32 2) 64 1 ≡ index_bytes d
unfolding leaves level level_byte among_first run joined index_bytes index_byte node depth block trailing_ones
levels d = refl

-- ---- bytes

pub uniform_lt : (a b : Bool) → uniform a b < 4
uniform_lt true b = omega arith
uniform_lt false true = omega arith
uniform_lt false false = omega arith

pub four_lt : (t u v w : ℕ) → t < 4 → u < 4 → v < 4 → w < 4 → four t u v w < 256
unfolding four
four_lt t u v w a b c d = omega arith

pub four_cong : {t t' u u' v v' w w' : ℕ} → t ≡ t' → u ≡ u' → v ≡ v' → w ≡ w' → four t u v w ≡ four t' u' v' w'
four_cong a b c d = cc

tuple_lt : (a b : ℕ) → tuple a b < 4
unfolding tuple
tuple_lt a b = uniform_lt (eqb a 255 && eqb b 255) (eqb a 0 && eqb b 0)

combine_lt : (t u : ℕ) → combine t u < 4
unfolding combine
combine_lt t u = uniform_lt (eqb t 3 && eqb u 3) (eqb t 0 && eqb u 0)

pub combined_lt : (x y : ℕ) → combined x y < 256
unfolding combined
combined_lt x y = four_lt _ _ _ _ (combine_lt _ _) (combine_lt _ _) (combine_lt _ _) (combine_lt _ _)

pub tuples_lt : (d : List ℕ) (k : ℕ) → tuples d k < 256
unfolding tuples
tuples_lt d k = four_lt _ _ _ _ (tuple_lt _ _) (tuple_lt _ _) (tuple_lt _ _) (tuple_lt _ _)

node_lt : (d : List ℕ) (h k : ℕ) → node d h k < 256
unfolding node
node_lt d zero k = tuples_lt d k
node_lt d (suc h) k = combined_lt (node d h (2 * k)) (node d h (2 * k + 1))

zero_byte : Bytes (0 ∷ [])
zero_byte zero = omega arith
zero_byte (suc i) = omega arith

pub bytes_index : (d : List ℕ) → Bytes (index_bytes d)
unfolding index_bytes index_byte
bytes_index d =
    bytes_append (run (index_byte d) 0 255) (0 ∷ []) (bytes_run (index_byte d) 0 255 (λ j. node_lt d (depth j) (block j))) zero_byte

pub length_index : (d : List ℕ) → length (index_bytes d) ≡ 256
unfolding index_bytes
length_index d = length-append (run (index_byte d) 0 255) (0 ∷ []) ∙ ap (λ (k : ℕ). k + 1) (length_run (index_byte d) 0 255)

-- ---- the bytes of the data

pub length_leaves : (d : List ℕ) (k : ℕ) → length (leaves d k) ≡ 2 * k
unfolding leaves
length_leaves d k = length_joined (λ j. tuples d j ∷ 0 ∷ []) 2 (λ j. refl) 0 k ∙ mul_comm k 2

pub leaves_zero : (d : List ℕ) → zeros 256 ≡ leaves d 0 ++ zeros (256 - 2 * 0)
unfolding leaves run joined
leaves_zero d = refl

one_more_lem : (d : List ℕ) (k : ℕ) → leaves d (k + 1) ≡ leaves d k ++ (tuples d k ∷ 0 ∷ [])
unfolding leaves
one_more_lem d k =
    ap (λ (n : ℕ). joined (run (λ j. tuples d j ∷ 0 ∷ []) 0 n)) (add-one k) ∙ joined_run_suc (λ j. tuples d j ∷ 0 ∷ []) 0 k
    ∙ ap (λ (n : ℕ). joined (run (λ j. tuples d j ∷ 0 ∷ []) 0 k) ++ (tuples d n ∷ 0 ∷ [])) (zero-add k)

pub leaves_step : (d : List ℕ) (k : ℕ) → k < 128 → set (leaves d k ++ zeros (256 - 2 * k)) (2 * k) (tuples d k) ≡ leaves d (k + 1) ++ zeros (256 - 2 * (k + 1))
leaves_step d k h =
    let r : ℕ = 256 - 2 * (k + 1) in
    let e : 256 - 2 * k ≡ suc (suc r) = omega arith in
    ap (λ (n : ℕ). set (leaves d k ++ zeros n) (2 * k) (tuples d k)) e
    ∙ set_at (leaves d k) 0 (0 ∷ zeros r) (tuples d k) (2 * k) (length_leaves d k)
    ∙ sym (append_assoc (leaves d k) (tuples d k ∷ 0 ∷ []) (zeros r))
    ∙ ap (λ (xs : List ℕ). xs ++ zeros r) (sym (one_more_lem d k))

pub leaves_end : (d : List ℕ) (k : ℕ) → k ≡ 128 → leaves d k ++ zeros (256 - 2 * k) ≡ leaves d 128
leaves_end d k e = ap (λ (n : ℕ). leaves d n ++ zeros (256 - 2 * n)) e ∙ append-nil (leaves d 128)

-- ---- a level

pub same_or : (i p : ℕ) → (i ≡ p) ⊎ (i ≡ p → ⊥)
same_or i p = ⊎_elim (λ e. inl (eqb-true i p e)) (λ e. inr (eqb-false i p e)) (cases (eqb i p))

off : (half k i : ℕ) → ((i + 1) % (4 * half) ≡ 2 * half → ⊥) → among_first half k i ≡ false
unfolding among_first
off half k i h = rw (ne_eqb ((i + 1) % (4 * half)) (2 * half) h)

off_byte : (xs : List ℕ) (half k i : ℕ) → ((i + 1) % (4 * half) ≡ 2 * half → ⊥) → level_byte xs half k i ≡ get_or xs i 0
unfolding level_byte
off_byte xs half k i h = rw (off half k i h)

on : (half k i : ℕ) → (i + 1) % (4 * half) ≡ 2 * half → (i + 1) / (4 * half) < k → among_first half k i ≡ true
unfolding among_first
on half k i e h = rw (eq-eqb ((i + 1) % (4 * half)) (2 * half) e) (lt-ltb ((i + 1) / (4 * half)) k h)

on_byte : (xs : List ℕ) (half k i : ℕ) → (i + 1) % (4 * half) ≡ 2 * half → (i + 1) / (4 * half) < k
    → level_byte xs half k i ≡ combined (get_or xs (i - half) 0) (get_or xs (i + half) 0)
unfolding level_byte
on_byte xs half k i e h = rw (on half k i e h)

-- none of the first k is none of the first k + 1, but for the one that is next
ltb_next : (q k : ℕ) → (q ≡ k → ⊥) → ltb q k ≡ ltb q (k + 1)
ltb_next q k h = ⊎_elim (λ e. e ∙ sym (lt-ltb q (k + 1) (omega (arith, ltb-true q k e)))) (λ e. e ∙ sym (le-ltb q (k + 1) (above q k h (ltb-false q k e)))) (cases (ltb q k))
  where
    above : (q k : ℕ) → (q ≡ k → ⊥) → k ≤ q → k + 1 ≤ q
    above q k h l = omega (arith, lt_of_le-ne l (λ e. h (sym e)))

next_same : (half k i : ℕ) → ((i + 1) / (4 * half) ≡ k → ⊥) → among_first half k i ≡ among_first half (k + 1) i
unfolding among_first
next_same half k i h = ap (λ (b : Bool). eqb ((i + 1) % (4 * half)) (2 * half) && b) (ltb_next ((i + 1) / (4 * half)) k h)

byte_same : (xs : List ℕ) (half k i : ℕ) → ((i + 1) / (4 * half) ≡ k → ⊥) → level_byte xs half k i ≡ level_byte xs half (k + 1) i
unfolding level_byte
byte_same xs half k i h = ap (λ (b : Bool). pick b (combined (get_or xs (i - half) 0) (get_or xs (i + half) 0)) (get_or xs i 0)) (next_same half k i h)

pub length_level : (xs : List ℕ) (half k : ℕ) → length (level xs half k) ≡ 256
unfolding level
length_level xs half k = length_run (level_byte xs half k) 0 256

get_or_level : (xs : List ℕ) (half k i : ℕ) → i < 256 → get_or (level xs half k) i 0 ≡ level_byte xs half k i
unfolding level
get_or_level xs half k i h = get_or_run (level_byte xs half k) 0 256 i 0 h ∙ ap (level_byte xs half k) (zero-add i)

none_first : (half i : ℕ) → among_first half 0 i ≡ false
unfolding among_first
none_first half i = rw (le-ltb ((i + 1) / (4 * half)) 0 (omega arith)) (and_false (eqb ((i + 1) % (4 * half)) (2 * half)))

pub level_zero : (xs : List ℕ) (half : ℕ) → length xs ≡ 256 → xs ≡ level xs half 0
unfolding level level_byte
level_zero xs half e =
    sym (run_get_or xs 256 0 e)
    ∙ run_ext (λ j. get_or xs j 0) (level_byte xs half 0) 0 256 (λ j a b. sym (rw (none_first half j)))

-- a byte of a level that is not the last stands within the 256, with the two that it combines
pub room : (half count k : ℕ) → 4 * half * count ≡ 256 → k < count → 4 * half * k + 4 * half ≤ 256
room half count k fits more =
    let a : (k + 1) * (4 * half) ≤ count * (4 * half) = mul-le-mul_right (4 * half) (omega arith) in
    omega (arith, a, fits)

module _ (xs : List ℕ) (half k p : ℕ) (pos : 0 < half) (back : half ≤ p) (room : p + half < 256) (place : p + 1 ≡ k * (4 * half) + 2 * half) where
  rest_of : (i r : ℕ) → i + 1 ≡ k * (4 * half) + r → r < 4 * half → (i + 1) % (4 * half) ≡ r
  rest_of i r e h = ap (λ (t : ℕ). t % (4 * half)) e ∙ digits_mod k h

  left : level_byte xs half k (p - half) ≡ get_or xs (p - half) 0
  left =
      let e : p - half + 1 ≡ k * (4 * half) + half = omega (arith, place) in
      let r : (p - half + 1) % (4 * half) ≡ half = rest_of (p - half) half e (omega arith) in
      off_byte xs half k (p - half) (λ z. omega (arith, r, z))

  right : level_byte xs half k (p + half) ≡ get_or xs (p + half) 0
  right =
      let e : p + half + 1 ≡ k * (4 * half) + 3 * half = omega (arith, place) in
      let r : (p + half + 1) % (4 * half) ≡ 3 * half = rest_of (p + half) (3 * half) e (omega arith) in
      off_byte xs half k (p + half) (λ z. omega (arith, r, z))

  here : level_byte xs half (k + 1) p ≡ combined (get_or xs (p - half) 0) (get_or xs (p + half) 0)
  here =
      let q : (p + 1) / (4 * half) ≡ k = ap (λ (t : ℕ). t / (4 * half)) place ∙ digits_div k {m = 4 * half} {r = 2 * half} (omega arith) in
      on_byte xs half (k + 1) p (rest_of p (2 * half) place (omega arith)) (omega (arith, q))

  elsewhere : (i : ℕ) → (i ≡ p → ⊥) → level_byte xs half k i ≡ level_byte xs half (k + 1) i
  elsewhere i n =
      ⊎_elim
      (λ e. byte_same xs half k i (λ q. n (same_place i q e)))
      (λ e. off_byte xs half k i e ∙ sym (off_byte xs half (k + 1) i e))
      (same_or ((i + 1) % (4 * half)) (2 * half))
    where
      same_place : (i : ℕ) → (i + 1) / (4 * half) ≡ k → (i + 1) % (4 * half) ≡ 2 * half → i ≡ p
      same_place i q e =
          let s : i + 1 ≡ k * (4 * half) + 2 * half = sym (div-add-mod' (i + 1) (4 * half)) ∙ ap (λ (t : ℕ). t * (4 * half) + (i + 1) % (4 * half)) q ∙ ap (λ (t : ℕ). k * (4 * half) + t) e in
          omega (arith, s, place)

  -- one byte more of a level
  pub level_next : set (level xs half k) p (combined (get_or (level xs half k) (p - half) 0) (get_or (level xs half k) (p + half) 0)) ≡ level xs half (k + 1)
  level_next =
      let v : ℕ = combined (get_or (level xs half k) (p - half) 0) (get_or (level xs half k) (p + half) 0) in
      let l : length (level xs half k) ≡ 256 = length_level xs half k in
      let w : v ≡ level_byte xs half (k + 1) p =
      ap (λ (t : ℕ). combined t (get_or (level xs half k) (p + half) 0)) (get_or_level xs half k (p - half) (omega arith) ∙ left)
      ∙ ap (combined (get_or xs (p - half) 0)) (get_or_level xs half k (p + half) room ∙ right) ∙ sym here in
      ext_get_or 0 (set (level xs half k) p v) (level xs half (k + 1)) (length-set (level xs half k) p v ∙ l ∙ sym (length_level xs half (k + 1)))
      (λ i h.
      let b : i < 256 = subst (λ (t : ℕ). i < t) (length-set (level xs half k) p v ∙ l) h in
      ⊎_elim
      (λ e. ap (λ (t : ℕ). get_or (set (level xs half k) p v) t 0) e ∙ get_or-set_same (level xs half k) p v 0 (omega (arith, l)) ∙ w
      ∙ ap (level_byte xs half (k + 1)) (sym e) ∙ sym (get_or_level xs half (k + 1) i b))
      (λ e. get_or-set_other (level xs half k) p i v 0 e ∙ get_or_level xs half k i b ∙ elsewhere i e ∙ sym (get_or_level xs half (k + 1) i b))
      (same_or i p))
