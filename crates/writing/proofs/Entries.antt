-- Entries put at tree indexes: the entry at every index afterwards, and the bytes that stay.
-- Assumes nothing.
use Prim.Native.Nat.{ℕ, ◌+◌, ◌≤◌}
use mathlib.Core.Path.{◌≡◌, refl, sym, ap, ◌∙◌, subst}
use mathlib.Core.Bool.{Bool, true, false, ◌||◌}
use mathlib.Core.List.{List, [], ◌∷◌, map}
use native.Mathlib.Omega.{arith}
use borrow.Author.Tests.{eqb-true, eqb-false, eq-eqb}
use lib.Dec.{eqb}
use lib.ListN.{length, take, drop}
use Rattle.byte_strings.specs.Lists.{part, put, among}
use Rattle.byte_strings.proofs.Lists.{drop_put}
use Rattle.byte_strings.proofs.Bools.{or_right, or_left}
use Rattle.file_format.specs.Sizes.{entry_place}
use Rattle.file_format.specs.Entries.{Entry, entry_bytes}
use Rattle.file_format.proofs.Written.{entry_length, entry_header, other_entry, same_entry}
use Rattle.writing.specs.Append.{with_entries}

-- what lies behind it stays
pub put_entry_rest : (t : List ℕ) (x m : ℕ) (ys : List ℕ) → length ys ≡ 40 → entry_place x + 40 ≤ length t → entry_place x + 40 ≤ m
    → drop m (put t (entry_place x) ys) ≡ drop m t
put_entry_rest t x m ys e h l = drop_put m t (entry_place x) ys (omega arith) (omega arith)

-- ---- several entries

pub among_head : (x : ℕ) (is : List ℕ) → among x (x ∷ is) ≡ true
unfolding among
among_head x is = or_left (eqb x x) (among x is) (eq-eqb x x refl)

pub among_tail : (y x : ℕ) (is : List ℕ) → among y is ≡ true → among y (x ∷ is) ≡ true
unfolding among
among_tail y x is e = or_right (eqb y x) (among y is) e

module _ (f : ℕ → Entry) (long : (i : ℕ) → length (entry_bytes (f i)) ≡ 40) where
  -- the indexes is all lie within the first m bytes
  Inside : ℕ → List ℕ → Type 0
  Inside m is = (x : ℕ) → among x is ≡ true → entry_place x + 40 ≤ m

  inside_head : (m x : ℕ) (is : List ℕ) → Inside m (x ∷ is) → entry_place x + 40 ≤ m
  unfolding Inside
  inside_head m x is h = h x (among_head x is)

  inside_tail : (m x : ℕ) (is : List ℕ) → Inside m (x ∷ is) → Inside m is
  unfolding Inside
  inside_tail m x is h = λ y e. h y (among_tail y x is e)

  pub with_length : (t : List ℕ) (is : List ℕ) → ((x : ℕ) → among x is ≡ true → entry_place x + 40 ≤ length t) → length (with_entries t is (map f is)) ≡ length t
  unfolding with_entries Inside
  with_length t [] h = refl
  with_length t (x ∷ is) h =
      let l : length (put t (entry_place x) (entry_bytes (f x))) ≡ length t = entry_length t x (entry_bytes (f x)) (long x) (inside_head (length t) x is h) in
      with_length (put t (entry_place x) (entry_bytes (f x))) is (subst (λ (m : ℕ). Inside m is) (sym l) (inside_tail (length t) x is h)) ∙ l

  pub with_front : (t : List ℕ) (is : List ℕ) → ((x : ℕ) → among x is ≡ true → entry_place x + 40 ≤ length t) → take 32 (with_entries t is (map f is)) ≡ take 32 t
  unfolding with_entries Inside
  with_front t [] h = refl
  with_front t (x ∷ is) h =
      let l : length (put t (entry_place x) (entry_bytes (f x))) ≡ length t = entry_length t x (entry_bytes (f x)) (long x) (inside_head (length t) x is h) in
      with_front (put t (entry_place x) (entry_bytes (f x))) is (subst (λ (m : ℕ). Inside m is) (sym l) (inside_tail (length t) x is h))
      ∙ entry_header t x (entry_bytes (f x)) (long x) (inside_head (length t) x is h)

  pub with_rest : (m : ℕ) (t : List ℕ) (is : List ℕ) → m ≤ length t → ((x : ℕ) → among x is ≡ true → entry_place x + 40 ≤ m) → drop m (with_entries t is (map f is)) ≡ drop m t
  unfolding with_entries Inside
  with_rest m t [] k h = refl
  with_rest m t (x ∷ is) k h =
      let a : entry_place x + 40 ≤ m = inside_head m x is h in
      let l : length (put t (entry_place x) (entry_bytes (f x))) ≡ length t = entry_length t x (entry_bytes (f x)) (long x) (omega arith) in
      with_rest m (put t (entry_place x) (entry_bytes (f x))) is (omega arith) (inside_tail m x is h)
      ∙ put_entry_rest t x m (entry_bytes (f x)) (long x) (omega arith) a

  -- the indexes behind x lie within the file once the entry at x is put
  inside_next : (t : List ℕ) (x : ℕ) (is : List ℕ) → Inside (length t) (x ∷ is) → Inside (length (put t (entry_place x) (entry_bytes (f x)))) is
  inside_next t x is h =
      subst (λ (m : ℕ). Inside m is) (sym (entry_length t x (entry_bytes (f x)) (long x) (inside_head (length t) x is h))) (inside_tail (length t) x is h)

  -- an entry that is not among them stays
  pub with_other : (t : List ℕ) (is : List ℕ) (i : ℕ) → ((x : ℕ) → among x is ≡ true → entry_place x + 40 ≤ length t) → among i is ≡ false
      → part (with_entries t is (map f is)) (entry_place i) 40 ≡ part t (entry_place i) 40
  unfolding with_entries among Inside
  with_other t [] i h e = refl
  with_other t (x ∷ is) i h e = split (with_other (put t (entry_place x) (entry_bytes (f x))) is i (inside_next t x is h)) (eqb i x) refl e
    where
      u : List ℕ
      u = put t (entry_place x) (entry_bytes (f x))

      split : (among i is ≡ false → part (with_entries u is (map f is)) (entry_place i) 40 ≡ part u (entry_place i) 40) → (b : Bool) → eqb i x ≡ b
          → b || among i is ≡ false → part (with_entries u is (map f is)) (entry_place i) 40 ≡ part t (entry_place i) 40
      split rec true q r = let z : ◌≡◌ {A = ℕ} 0 1 = cc in absurd (omega arith)
      split rec false q r = rec r ∙ other_entry t x (entry_bytes (f x)) (long x) (inside_head (length t) x is h) i (eqb-false i x q)

  -- an entry that is among them is the new one
  pub with_among : (t : List ℕ) (is : List ℕ) (i : ℕ) → ((x : ℕ) → among x is ≡ true → entry_place x + 40 ≤ length t) → among i is ≡ true
      → part (with_entries t is (map f is)) (entry_place i) 40 ≡ entry_bytes (f i)
  unfolding with_entries among Inside
  with_among t [] i h e = let z : ◌≡◌ {A = ℕ} 0 1 = cc in absurd (omega arith)
  with_among t (x ∷ is) i h e = split (with_among (put t (entry_place x) (entry_bytes (f x))) is i (inside_next t x is h)) (among i is) refl (eqb i x) refl e
    where
      u : List ℕ
      u = put t (entry_place x) (entry_bytes (f x))

      split : (among i is ≡ true → part (with_entries u is (map f is)) (entry_place i) 40 ≡ entry_bytes (f i)) → (a : Bool) → among i is ≡ a
          → (b : Bool) → eqb i x ≡ b → b || among i is ≡ true → part (with_entries u is (map f is)) (entry_place i) 40 ≡ entry_bytes (f i)
      split rec true p b q r = rec p
      split rec false p true q r =
          with_other u is i (inside_next t x is h) p
          ∙ ap (λ (j : ℕ). part (put t (entry_place x) (entry_bytes (f x))) (entry_place j) 40) (eqb-true i x q)
          ∙ same_entry t x (entry_bytes (f x)) (long x) (inside_head (length t) x is h)
          ∙ ap (λ (j : ℕ). entry_bytes (f j)) (sym (eqb-true i x q))
      split rec false p false q r = let z : ◌≡◌ {A = ℕ} 0 1 = cc in absurd (omega arith)
