-- What the calls say, case by case. Assumes nothing.
use Prim.Native.Nat.{ℕ, ◌+◌, ◌-◌, ◌≤◌, ◌<◌}
use native.Mathlib.Omega.{arith}
use mathlib.Core.Path.{◌≡◌, refl, sym, ap, ap₂, ◌∙◌}
use mathlib.Core.Bool.{Bool, true, false}
use mathlib.Core.List.{List, [], ◌∷◌, ◌++◌}
use lib.ListN.{length, take, drop, length-drop}
use lib.Dec.{eqb, leb}
use borrow.Author.Tests.{eq-eqb, ne_eqb, leb-true, lt-ltb, le-ltb}
use Rattle.byte_strings.specs.Lists.{same_list}
use Rattle.byte_strings.proofs.Bools.{both_true}
use Rattle.blake2b.specs.Hash.{blake2b, node_hash}
use Rattle.journal.specs.Places.{kind_at, size_at, behind, whole, length_right, body_length, new_place}
use Rattle.journal.specs.Reading.{Said, whether, and_then, begins, own_length, table, read, next_said, if_done, states_said}
use Rattle.std.specs.Prelude.{Ok, Err, is_ok}
use Rattle.journal.specs.declared.JournalError.TheVariants.{Length, First, OwnLength, Range, Hash, Unfit}

pub right_least : (n : ℕ) → length_right n ≡ true → 216 ≤ n
unfolding length_right
right_least n e = leb-true _ _ (both_true (leb 216 n) _ e).0

pub right_most : (n : ℕ) → length_right n ≡ true → n ≤ 268435456
unfolding length_right
right_most n e = leb-true _ _ (both_true (leb 216 n) _ e).1

-- ---- what is lent

pub refused_kept : (t s : Said) (a b : List ℕ) → is_ok t ≡ false → t ≡ s → b ≡ if_done s a b
unfolding if_done
refused_kept t s a b e d = sym (ap (λ (x : Bool). elim x as (λ y. List ℕ) [ true ↦ a | false ↦ b ]) (ap is_ok (sym d) ∙ e))

pub done_written : (t s : Said) (a b : List ℕ) → is_ok t ≡ true → t ≡ s → a ≡ if_done s a b
unfolding if_done
done_written t s a b e d = sym (ap (λ (x : Bool). elim x as (λ y. List ℕ) [ true ↦ a | false ↦ b ]) (ap is_ok (sym d) ∙ e))

pub then_not : (s next : Said) → is_ok s ≡ false → and_then s next ≡ s
unfolding and_then whether
then_not s next e = ap (λ (b : Bool). whether b next s) e

pub then_on : (s next : Said) → is_ok s ≡ true → and_then s next ≡ next
unfolding and_then whether
then_on s next e = ap (λ (b : Bool). whether b next s) e

-- ---- reading

module _ (F : List ℕ → List ℕ) (j : List ℕ) where
  pub read_length : length_right (length j) ≡ false → Err Length ≡ read F j
  unfolding read whether
  read_length e = rw e

  pub read_first : length_right (length j) ≡ true → begins j ≡ false → Err First ≡ read F j
  unfolding read whether
  read_first l e = rw (l, e)

  pub read_own : length_right (length j) ≡ true → begins j ≡ true → eqb (own_length j) (length j) ≡ false → Err OwnLength ≡ read F j
  unfolding read whether
  read_own l b e = rw (l, b, e)

  abbrev hashed : Said
  hashed = whether (same_list (F (take (body_length j) j)) (drop (body_length j) j)) (Ok (length j)) (Err Hash)

  pub read_on : length_right (length j) ≡ true → begins j ≡ true → eqb (own_length j) (length j) ≡ true → read F j ≡ and_then (table j (body_length j)) hashed
  unfolding read whether
  read_on l b o = rw (l, b, o)

  module _ (l : length_right (length j) ≡ true) (b : begins j ≡ true) (o : eqb (own_length j) (length j) ≡ true) (t : Said) (e : t ≡ table j (body_length j)) where
    pub read_table : is_ok t ≡ false → t ≡ read F j
    read_table d = e ∙ sym (read_on l b o ∙ then_not (table j (body_length j)) hashed (ap is_ok (sym e) ∙ d))

    pub read_done_lem : is_ok t ≡ true → same_list (F (take (body_length j) j)) (drop (body_length j) j) ≡ true → Ok (length j) ≡ read F j
    unfolding whether
    read_done_lem d h = sym (read_on l b o ∙ then_on (table j (body_length j)) hashed (ap is_ok (sym e) ∙ d) ∙ ap (λ (x : Bool). whether x (Ok (length j)) (Err Hash)) h)

    pub read_hash : is_ok t ≡ true → same_list (F (take (body_length j) j)) (drop (body_length j) j) ≡ false → Err Hash ≡ read F j
    unfolding whether
    read_hash d h = sym (read_on l b o ∙ then_on (table j (body_length j)) hashed (ap is_ok (sym e) ∙ d) ∙ ap (λ (x : Bool). whether x (Ok (length j)) (Err Hash)) h)

-- the hash of the front of a byte string
pub hash_said : (j h : List ℕ) (m : ℕ) → h ≡ blake2b 32 [] ([] ++ take (m - 0) (drop 0 j)) → h ≡ node_hash (take m j)
unfolding node_hash
hash_said j h m e = let d : m - 0 ≡ m = omega arith in e ∙ ap (λ (n : ℕ). blake2b 32 [] (take n j)) d

all_taken : (xs : List ℕ) → take (length xs) xs ≡ xs
all_taken [] = refl
all_taken (x ∷ xs) = ap (λ (ys : List ℕ). x ∷ ys) (all_taken xs)

-- and whether it is the tail
pub same_said : (j h : List ℕ) (m : ℕ) (r v : Bool) → h ≡ node_hash (take m j) → r ≡ same_list h (take (length j - m) (drop m j)) → r ≡ v → same_list (node_hash (take m j)) (drop m j) ≡ v
same_said j h m r v e d g =
    let t : take (length j - m) (drop m j) ≡ drop m j = ap (λ (n : ℕ). take n (drop m j)) (sym (length-drop m j)) ∙ all_taken (drop m j) in
    ap₂ (λ (x y : List ℕ). same_list x y) (sym e) (sym t) ∙ sym d ∙ g

-- ---- range by range

module _ (j : List ℕ) (q : ℕ) where
  pub next_none : length_right (length j) ≡ true → whole j (body_length j) q ≡ false → Err (Range q) ≡ next_said j q
  unfolding next_said whether
  next_none l e = rw (l, e)

  pub next_some : (r : ℕ) → length_right (length j) ≡ true → whole j (body_length j) q ≡ true → r ≡ behind j q → Ok r ≡ next_said j q
  unfolding next_said whether
  next_some r l e d = rw (l, e, d)

  pub new_twice : (s : ℕ) → kind_at j q ≡ 1 → s ≡ size_at j q → q + 18 + s ≡ new_place j q
  unfolding new_place
  new_twice s e d = rw (eq-eqb (kind_at j q) 1 e, d, new_place)

  pub new_once : (kind_at j q ≡ 1 → ⊥) → q + 18 ≡ new_place j q
  unfolding new_place
  new_once e = rw (ne_eqb (kind_at j q) 1 e, new_place)

module _ (j : List ℕ) (i : ℕ) where
  pub states_unfit : length_right (length j) ≡ true → 10 ≤ i → Err Unfit ≡ states_said j i
  unfolding states_said whether
  states_unfit l h = rw (l, le-ltb i 10 h)

  pub states_done_lem : length_right (length j) ≡ true → i < 10 → Ok 0 ≡ states_said j i
  unfolding states_said whether
  states_done_lem l h = rw (l, lt-ltb i 10 h)
