-- Laws of parts, places, runs, sums and lists one behind the other. Assumes nothing.
use mathlib.Core.Path.{◌≡◌, refl, sym, ap, ap₂, ◌∙◌, subst}
use Prim.Native.Nat.{ℕ, zero, suc, ◌+◌, ◌-◌, ◌*◌, ◌<◌, ◌≤◌}
use native.Mathlib.Nat.{add-zero, zero-add, add-suc, suc-add, add_assoc, le_refl, le_of_suc-le-suc, not-suc-le-zero, suc-mul, zero-mul, mul-zero, mul-suc}
use native.Mathlib.Omega.{arith}
use mathlib.Core.Bool.{Bool, true, ◌&&◌}
use mathlib.Core.List.{List, [], ◌∷◌, ◌++◌, append_assoc, append-nil}
use lib.ListN.{length, get_or, set, take, drop, length-append, length-drop, length-replicate, take-append-drop, drop_of_length-le}
use lib.Seq.{length-take-le, take_at, drop_at, take-append-le, drop-append-le, get_or-take, get_or-drop, get_or-append-add, drop-append-add, take-append-add}
use lib.Seq.{take-take, drop-drop, take-add, set_split, ext_get_or, take-nil, take-suc}
use native.Mathlib.Numerals.{add-one}
use lib.Dec.{eqb}
use borrow.Author.Tests.{eqb-true, eq-eqb}
use borrow.Rule.Slice.PartMut.{put_mid}
use Rattle.std.specs.Cmp.Lexicographic.{pointwise}
use Rattle.std.specs.List.{list_all}
use Rattle.byte_strings.proofs.Bools.{both_true}
use Rattle.byte_strings.specs.Lists.{part, put, run, joined, total, Bytes, zeros, same_list, all_zero}

module _ {A : Type 0} where
  -- ---- behind a list whose length is known by an equation

  pub get_or_behind : (p q : List A) (n j : ℕ) (d : A) → length p ≡ n → get_or (p ++ q) (n + j) d ≡ get_or q j d
  get_or_behind p q n j d e = subst (λ (k : ℕ). get_or (p ++ q) (k + j) d ≡ get_or q j d) e (get_or-append-add p q j d)

  pub drop_behind : (p q : List A) (n j : ℕ) → length p ≡ n → drop (n + j) (p ++ q) ≡ drop j q
  drop_behind p q n j e = subst (λ (k : ℕ). drop (k + j) (p ++ q) ≡ drop j q) e (drop-append-add p q j)

  pub take_behind : (p q : List A) (n j : ℕ) → length p ≡ n → take (n + j) (p ++ q) ≡ p ++ take j q
  take_behind p q n j e = subst (λ (k : ℕ). take (k + j) (p ++ q) ≡ p ++ take j q) e (take-append-add p q j)

  drop_take : (a n : ℕ) (xs : List A) → drop a (take (a + n) xs) ≡ take n (drop a xs)
  drop_take zero n xs = ap (λ (k : ℕ). take k xs) (zero-add n)
  drop_take (suc a) n [] = ap (λ (k : ℕ). drop (suc a) (take {A = A} k [])) (suc-add a n) ∙ sym (take-nil n)
  drop_take (suc a) n (x ∷ xs) = ap (λ (k : ℕ). drop (suc a) (take k (x ∷ xs))) (suc-add a n) ∙ drop_take a n xs

  -- ---- parts

  pub length_part : (xs : List A) (at k : ℕ) → at + k ≤ length xs → length (part xs at k) ≡ k
  unfolding part
  length_part xs at k h = length-take-le k (drop at xs) (rw length-drop (omega arith))

  pub get_d_part : (xs : List A) (at k j : ℕ) (d : A) → j < k → get_or (part xs at k) j d ≡ get_or xs (at + j) d
  unfolding part
  get_d_part xs at k j d h = get_or-take k (drop at xs) j d h ∙ get_or-drop at xs j d

  pub part_part : (xs : List A) (p m a k : ℕ) → a + k ≤ m → part (part xs p m) a k ≡ part xs (p + a) k
  unfolding part
  part_part xs p m a k h =
      let n : ℕ = m - a in
      let e : m ≡ a + n = omega arith in
      ap (λ (i : ℕ). take k (drop a (take i (drop p xs)))) e ∙ ap (take k) (drop_take a n (drop p xs))
      ∙ take-take k n (drop a (drop p xs)) (omega arith) ∙ ap (take k) (drop-drop a p xs)

  pub part_add : (xs : List A) (p a b : ℕ) → part xs p (a + b) ≡ part xs p a ++ part xs (p + a) b
  unfolding part
  part_add xs p a b =
      take-add a b (drop p xs) ∙ ap (λ (r : List A). take a (drop p xs) ++ take b r) (drop-drop a p xs)

  pub part_left : (xs ys : List A) (a k : ℕ) → a + k ≤ length xs → part (xs ++ ys) a k ≡ part xs a k
  unfolding part
  part_left xs ys a k h =
      ap (take k) (drop-append-le a xs ys (omega arith))
      ∙ take-append-le k (drop a xs) ys (rw length-drop (omega arith))

  pub part_behind : (xs ys : List A) (n a k : ℕ) → length xs ≡ n → part (xs ++ ys) (n + a) k ≡ part ys a k
  unfolding part
  part_behind xs ys n a k e = ap (take k) (drop_behind xs ys n a e)

  -- the part at the front, and the part right behind a list
  pub part_front : (xs ys : List A) (k : ℕ) → length xs ≡ k → part (xs ++ ys) 0 k ≡ xs
  unfolding part
  part_front xs ys k e = take_at xs ys k e

  pub part_at : (xs ys zs : List A) (n k : ℕ) → length xs ≡ n → length ys ≡ k → part (xs ++ (ys ++ zs)) n k ≡ ys
  unfolding part
  part_at xs ys zs n k e f = ap (take k) (drop_at xs (ys ++ zs) n e) ∙ take_at ys zs k f

  -- a list cut around a part
  pub around : (xs : List A) (p k : ℕ) → take p xs ++ (part xs p k ++ drop (p + k) xs) ≡ xs
  unfolding part
  around xs p k =
      ap (λ (r : List A). take p xs ++ (take k (drop p xs) ++ r)) (sym (drop-drop k p xs))
      ∙ ap (λ (r : List A). take p xs ++ r) (take-append-drop k (drop p xs)) ∙ take-append-drop p xs

  -- ---- places

  pub length_put : (xs : List A) (at : ℕ) (ys : List A) → at + length ys ≤ length xs → length (put xs at ys) ≡ length xs
  unfolding put
  length_put xs at ys h =
      simp (length-append, length-drop, length-take-le at xs (omega arith)) (omega arith)

  pub take_put : (n : ℕ) (xs : List A) (at : ℕ) (ys : List A) → n ≤ at → at ≤ length xs → take n (put xs at ys) ≡ take n xs
  unfolding put
  take_put n xs at ys h l =
      take-append-le n (take at xs) (ys ++ drop (at + length ys) xs)
      (subst (λ (k : ℕ). n ≤ k) (sym (length-take-le at xs l)) h)
      ∙ take-take n at xs h

  pub drop_put : (n : ℕ) (xs : List A) (at : ℕ) (ys : List A) → at + length ys ≤ n → at ≤ length xs → drop n (put xs at ys) ≡ drop n xs
  unfolding put
  drop_put n xs at ys h l =
      let i : ℕ = n - (at + length ys) in
      let e : n ≡ at + (length ys + i) = omega arith in
      let f : at + length ys + i ≡ n = omega arith in
      ap (λ (k : ℕ). drop k (take at xs ++ (ys ++ drop (at + length ys) xs))) e
      ∙ drop_behind (take at xs) (ys ++ drop (at + length ys) xs) at (length ys + i) (length-take-le at xs l)
      ∙ drop-append-add ys (drop (at + length ys) xs) i ∙ drop-drop i (at + length ys) xs
      ∙ ap (λ (k : ℕ). drop k xs) f

  pub part_put : (xs : List A) (at k : ℕ) (ys : List A) → length ys ≡ k → at ≤ length xs → part (put xs at ys) at k ≡ ys
  unfolding put
  part_put xs at k ys e l = part_at (take at xs) ys (drop (at + length ys) xs) at k (length-take-le at xs l) e

  part_of_take : (zs : List A) (a n : ℕ) → drop a (take (a + n) zs) ≡ part zs a n
  unfolding part
  part_of_take zs a n = drop_take a n zs

  pub part_put_before : (xs : List A) (at : ℕ) (ys : List A) (p k : ℕ) → p + k ≤ at → at ≤ length xs → part (put xs at ys) p k ≡ part xs p k
  part_put_before xs at ys p k h l =
      sym (part_of_take (put xs at ys) p k) ∙ ap (λ (r : List A). drop p r) (take_put (p + k) xs at ys h l) ∙ part_of_take xs p k

  pub part_put_behind : (xs : List A) (at : ℕ) (ys : List A) (p k : ℕ) → at + length ys ≤ p → at ≤ length xs → part (put xs at ys) p k ≡ part xs p k
  unfolding part
  part_put_behind xs at ys p k h l = ap (take k) (drop_put p xs at ys h l)

  pub put_nil : (xs : List A) (at : ℕ) → put xs at [] ≡ xs
  unfolding put
  put_nil xs at = ap (λ (i : ℕ). take at xs ++ drop i xs) (add-zero at) ∙ take-append-drop at xs

  -- one list behind another
  pub put_append : (xs : List A) (at : ℕ) (ys zs : List A) → at ≤ length xs → put (put xs at ys) (at + length ys) zs ≡ put xs at (ys ++ zs)
  unfolding put
  put_append xs at ys zs l =
      ap (λ (r : List A). r ++ (zs ++ drop (at + length ys + length zs) (take at xs ++ (ys ++ drop (at + length ys) xs))))
      (take_behind (take at xs) (ys ++ drop (at + length ys) xs) at (length ys) (length-take-le at xs l)
      ∙ ap (λ (r : List A). take at xs ++ r) (take_at ys (drop (at + length ys) xs) (length ys) refl))
      ∙ ap (λ (r : List A). take at xs ++ ys ++ (zs ++ r))
      (ap (λ (i : ℕ). drop i (take at xs ++ (ys ++ drop (at + length ys) xs))) (add_assoc at (length ys) (length zs))
      ∙ drop_behind (take at xs) (ys ++ drop (at + length ys) xs) at (length ys + length zs) (length-take-le at xs l)
      ∙ drop-append-add ys (drop (at + length ys) xs) (length zs) ∙ drop-drop (length zs) (at + length ys) xs
      ∙ ap (λ (i : ℕ). drop i xs) (add_assoc at (length ys) (length zs) ∙ ap (λ (i : ℕ). at + i) (sym (length-append ys zs))))
      ∙ simp append_assoc

  pub put_one : (xs : List A) (at : ℕ) (a : A) → at < length xs → set xs at a ≡ put xs at (a ∷ [])
  unfolding put
  put_one xs at a h = set_split xs at a h ∙ ap (λ (i : ℕ). take at xs ++ (a ∷ drop i xs)) (sym (add-suc at 0 ∙ ap suc (add-zero at)))

  -- a turn of a loop that stores: one element more behind those that stand there
  pub put_snoc : (xs : List A) (at : ℕ) (ys : List A) (a : A) → at + length ys < length xs
      → set (put xs at ys) (at + length ys) a ≡ put xs at (ys ++ (a ∷ []))
  put_snoc xs at ys a h =
      put_one (put xs at ys) (at + length ys) a (subst (λ (k : ℕ). at + length ys < k) (sym (length_put xs at ys (omega arith))) h)
      ∙ put_append xs at ys (a ∷ []) (omega arith)

  -- the same, where the elements come from another list
  pub put_take : (xs : List A) (at : ℕ) (ys : List A) (i : ℕ) (d : A) → at + length ys ≤ length xs → i < length ys
      → set (put xs at (take i ys)) (at + i) (get_or ys i d) ≡ put xs at (take (i + 1) ys)
  put_take xs at ys i d h l =
      let e : length (take i ys) ≡ i = length-take-le i ys (omega arith) in
      ap (λ (k : ℕ). set (put xs at (take i ys)) (at + k) (get_or ys i d)) (sym e)
      ∙ put_snoc xs at (take i ys) (get_or ys i d) (omega (arith, e))
      ∙ ap (put xs at) (sym (take-suc ys i d l) ∙ ap (λ (k : ℕ). take k ys) (sym (add-one i)))

  -- ---- runs

  pub length_run : (f : ℕ → A) (i k : ℕ) → length (run f i k) ≡ k
  unfolding run
  length_run f i zero = refl
  length_run f i (suc k) = ap suc (length_run f (suc i) k)

  pub get_or_run : (f : ℕ → A) (i k j : ℕ) (d : A) → j < k → get_or (run f i k) j d ≡ f (i + j)
  unfolding run
  get_or_run f i zero j d h = absurd (not-suc-le-zero h)
  get_or_run f i (suc k) zero d h = ap f (sym (add-zero i))
  get_or_run f i (suc k) (suc j) d h = get_or_run f (suc i) k j d (le_of_suc-le-suc h) ∙ ap f (suc-add i j ∙ sym (add-suc i j))

  pub run_add : (f : ℕ → A) (i a b : ℕ) → run f i (a + b) ≡ run f i a ++ run f (i + a) b
  unfolding run
  run_add f i zero b = ap (run f i) (zero-add b) ∙ ap (λ (k : ℕ). run f k b) (sym (add-zero i))
  run_add f i (suc a) b =
      ap (run f i) (suc-add a b) ∙ ap (λ (r : List A). f i ∷ r)
      (run_add f (suc i) a b ∙ ap (λ (k : ℕ). run f (suc i) a ++ run f k b) (suc-add i a ∙ sym (add-suc i a)))

  pub run_suc : (f : ℕ → A) (i k : ℕ) → run f i (suc k) ≡ run f i k ++ (f (i + k) ∷ [])
  unfolding run
  run_suc f i k = ap (run f i) (sym (add-suc k 0 ∙ ap suc (add-zero k))) ∙ run_add f i k 1

  pub run_ext : (f g : ℕ → A) (i k : ℕ) → ((j : ℕ) → i ≤ j → j < i + k → f j ≡ g j) → run f i k ≡ run g i k
  unfolding run
  run_ext f g i zero h = refl
  run_ext f g i (suc k) h =
      ap (λ (a : A). a ∷ run f (suc i) k) (h i (le_refl i) (omega arith))
      ∙ ap (λ (r : List A). g i ∷ r) (run_ext f g (suc i) k (λ j l m. h j (omega arith) (omega arith)))

  -- a run from i is the run from zero of what lies i further
  shifted : (f : ℕ → A) (i m n k : ℕ) → i + n ≡ m → run f m k ≡ run (λ l. f (i + l)) n k
  unfolding run
  shifted f i m n zero e = refl
  shifted f i m n (suc k) e =
      ap (λ (q : ℕ). f q ∷ run f (suc m) k) (sym e)
      ∙ ap (λ (r : List A). f (i + n) ∷ r) (shifted f i (suc m) (suc n) k (add-suc i n ∙ ap suc e))

  pub run_from : (f : ℕ → A) (i k : ℕ) → run f i k ≡ run (λ l. f (i + l)) 0 k
  run_from f i k = shifted f i i 0 k (add-zero i)

  -- a list is the run of its elements
  pub run_get_or : (xs : List A) (k : ℕ) (d : A) → length xs ≡ k → run (λ j. get_or xs j d) 0 k ≡ xs
  run_get_or xs k d e =
      ext_get_or d (run (λ j. get_or xs j d) 0 k) xs (length_run (λ j. get_or xs j d) 0 k ∙ sym e)
      (λ i h. get_or_run (λ j. get_or xs j d) 0 k i d (subst (λ (n : ℕ). i < n) (length_run (λ j. get_or xs j d) 0 k) h) ∙ ap (λ (n : ℕ). get_or xs n d) (zero-add i))

  pub part_run : (xs : List A) (at k : ℕ) (d : A) → at + k ≤ length xs → part xs at k ≡ run (λ j. get_or xs j d) at k
  part_run xs at k d h =
      let e : length (part xs at k) ≡ k = length_part xs at k h in
      ext_get_or d (part xs at k) (run (λ j. get_or xs j d) at k) (e ∙ sym (length_run (λ j. get_or xs j d) at k))
      (λ i l. get_d_part xs at k i d (omega arith) ∙ sym (get_or_run (λ j. get_or xs j d) at k i d (omega arith)))

-- ---- one behind the other

module _ {A : Type 0} where
  pub joined_append : (xss yss : List (List A)) → joined (xss ++ yss) ≡ joined xss ++ joined yss
  unfolding joined
  joined_append [] yss = refl
  joined_append (xs ∷ xss) yss = ap (λ (r : List A). xs ++ r) (joined_append xss yss) ∙ sym (append_assoc xs (joined xss) (joined yss))

  pub joined_run_add : (f : ℕ → List A) (i a b : ℕ) → joined (run f i (a + b)) ≡ joined (run f i a) ++ joined (run f (i + a) b)
  joined_run_add f i a b = ap joined (run_add f i a b) ∙ joined_append (run f i a) (run f (i + a) b)

  pub joined_run_suc : (f : ℕ → List A) (i k : ℕ) → joined (run f i (suc k)) ≡ joined (run f i k) ++ f (i + k)
  unfolding joined
  joined_run_suc f i k = ap joined (run_suc f i k) ∙ joined_append (run f i k) (f (i + k) ∷ []) ∙ ap (λ (r : List A). joined (run f i k) ++ r) (append-nil (f (i + k)))

  -- e parts of m elements from place p on, one behind the other
  pub parts_joined : (xs : List A) (p m e : ℕ) → joined (run (λ i. part xs (p + m * i) m) 0 e) ≡ part xs p (m * e)
  unfolding run joined part
  parts_joined xs p m zero = sym (ap (λ (k : ℕ). take k (drop p xs)) (mul-zero m))
  parts_joined xs p m (suc e) =
      joined_run_suc (λ i. part xs (p + m * i) m) 0 e
      ∙ ap₂ ◌++◌ (parts_joined xs p m e) (ap (λ (i : ℕ). part xs (p + m * i) m) (zero-add e))
      ∙ sym (part_add xs p (m * e) m) ∙ ap (part xs p) (sym (mul-suc m e))

  -- lists of m elements each, from number i on
  module _ (f : ℕ → List A) (m : ℕ) (same : (j : ℕ) → length (f j) ≡ m) where
    pub length_joined : (i k : ℕ) → length (joined (run f i k)) ≡ k * m
    unfolding run joined
    length_joined i zero = sym (zero-mul m)
    length_joined i (suc k) =
        length-append (f i) (joined (run f (suc i) k)) ∙ ap (λ (n : ℕ). n + length (joined (run f (suc i) k))) (same i)
        ∙ ap (λ (n : ℕ). m + n) (length_joined (suc i) k) ∙ omega (arith, suc-mul k m)

    part_joined_split : (i e b : ℕ) → part (joined (run f i e) ++ joined (run f (i + e) (suc b))) (e * m) m ≡ f (i + e)
    unfolding run joined
    part_joined_split i e b =
        part_at (joined (run f i e)) (f (i + e)) (joined (run f (suc (i + e)) b)) (e * m) m (length_joined i e) (same (i + e))

    pub part_joined : (i k e : ℕ) → e < k → part (joined (run f i k)) (e * m) m ≡ f (i + e)
    part_joined i k e h =
        let b : ℕ = k - suc e in
        let s : k ≡ e + suc b = omega arith in
        ap (λ (n : ℕ). part (joined (run f i n)) (e * m) m) s
        ∙ ap (λ (r : List A). part r (e * m) m) (joined_run_add f i e (suc b)) ∙ part_joined_split i e b

-- ---- sums

pub total_append : (xs ys : List ℕ) → total (xs ++ ys) ≡ total xs + total ys
unfolding total
total_append [] ys = sym (zero-add (total ys))
total_append (x ∷ xs) ys = ap (λ (t : ℕ). x + t) (total_append xs ys) ∙ sym (add_assoc x (total xs) (total ys))

-- ---- bytes

pub bytes_append : (xs ys : List ℕ) → Bytes xs → Bytes ys → Bytes (xs ++ ys)
bytes_append [] ys p q i = q i
bytes_append (x ∷ xs) ys p q zero = p zero
bytes_append (x ∷ xs) ys p q (suc i) = bytes_append xs ys (λ j. p (suc j)) q i

pub bytes_take : (n : ℕ) (xs : List ℕ) → Bytes xs → Bytes (take n xs)
bytes_take zero xs p i = omega arith
bytes_take (suc n) [] p i = omega arith
bytes_take (suc n) (x ∷ xs) p zero = p zero
bytes_take (suc n) (x ∷ xs) p (suc i) = bytes_take n xs (λ j. p (suc j)) i

pub bytes_drop : (n : ℕ) (xs : List ℕ) → Bytes xs → Bytes (drop n xs)
bytes_drop n xs p i = rw get_or-drop (p (n + i))

pub bytes_part : (xs : List ℕ) (at k : ℕ) → Bytes xs → Bytes (part xs at k)
unfolding part
bytes_part xs at k p = bytes_take k (drop at xs) (bytes_drop at xs p)

pub bytes_put : (xs : List ℕ) (at : ℕ) (ys : List ℕ) → Bytes xs → Bytes ys → Bytes (put xs at ys)
unfolding put
bytes_put xs at ys p q =
    bytes_append (take at xs) (ys ++ drop (at + length ys) xs) (bytes_take at xs p)
    (bytes_append ys (drop (at + length ys) xs) q (bytes_drop (at + length ys) xs p))

pub bytes_zeros : (k : ℕ) → Bytes (zeros k)
bytes_zeros zero i = omega arith
bytes_zeros (suc k) zero = omega arith
bytes_zeros (suc k) (suc i) = bytes_zeros k i

pub bytes_run : (f : ℕ → ℕ) (i k : ℕ) → ((j : ℕ) → f j < 256) → Bytes (run f i k)
unfolding run
bytes_run f i zero h j = omega arith
bytes_run f i (suc k) h zero = h i
bytes_run f i (suc k) h (suc j) = bytes_run f (suc i) k h j

pub bytes_joined : (f : ℕ → List ℕ) (i k : ℕ) → ((j : ℕ) → Bytes (f j)) → Bytes (joined (run f i k))
unfolding run joined
bytes_joined f i zero h j = omega arith
bytes_joined f i (suc k) h j = bytes_append (f i) (joined (run f (suc i) k)) (h i) (bytes_joined f (suc i) k h) j

pub zeros_suc : (k : ℕ) → zeros k ++ (0 ∷ []) ≡ zeros (suc k)
zeros_suc zero = refl
zeros_suc (suc k) = ap {B = List ℕ} (λ r. 0 ∷ r) (zeros_suc k)

pub get_or_zeros : (k j : ℕ) → get_or (zeros k) j 0 ≡ 0
get_or_zeros zero j = refl
get_or_zeros (suc k) zero = refl
get_or_zeros (suc k) (suc j) = get_or_zeros k j

pub part_zeros : (m a k : ℕ) → a + k ≤ m → part (zeros m) a k ≡ zeros k
part_zeros m a k h =
    let l : length (part (zeros m) a k) ≡ k = length_part (zeros m) a k (subst (λ (x : ℕ). a + k ≤ x) (sym (length-replicate {A = ℕ} m 0)) h) in
    ext_get_or 0 (part (zeros m) a k) (zeros k) (l ∙ sym (length-replicate {A = ℕ} k 0))
    (λ j b. get_d_part (zeros m) a k j 0 (omega arith) ∙ get_or_zeros m (a + j) ∙ sym (get_or_zeros k j))

-- ---- parts and what is put, of lists of numbers

pub part_take : (xs : List ℕ) (m a k : ℕ) → a + k ≤ m → part (take m xs) a k ≡ part xs a k
unfolding part
part_take xs m a k h = part_part xs 0 m a k h ∙ ap (λ (x : ℕ). take k (drop x xs)) (zero-add a)

-- a part as code lends it, from a place to an end
pub as_part_lem : (xs : List ℕ) (at k : ℕ) → take (at + k - at) (drop at xs) ≡ part xs at k
unfolding part
as_part_lem xs at k = let e : at + k - at ≡ k = omega arith in ap (λ (x : ℕ). take x (drop at xs)) e

pub put_front : (xs ys : List ℕ) → put xs 0 ys ≡ ys ++ drop (length ys) xs
unfolding put
put_front xs ys = ap (λ (m : ℕ). ys ++ drop m xs) (zero-add (length ys))

pub put_whole : (xs ys : List ℕ) → length xs ≡ length ys → put xs 0 ys ≡ ys
unfolding put
put_whole xs ys e = ap (λ (r : List ℕ). ys ++ r) (drop_of_length-le xs {i = 0 + length ys} (omega arith)) ∙ append-nil ys

-- what stands before a place and what is put there
pub take_put_end : (xs : List ℕ) (at m : ℕ) (ys : List ℕ) → length ys ≡ m → at ≤ length xs → take (at + m) (put xs at ys) ≡ take at xs ++ ys
unfolding put
take_put_end xs at m ys e l =
    take_behind (take at xs) (ys ++ drop (at + length ys) xs) at m (length-take-le at xs l)
    ∙ ap (λ (r : List ℕ). take at xs ++ r) (take_at ys (drop (at + length ys) xs) m e)

-- ---- the same list, and all zeros

pub same_refl : (xs : List ℕ) → same_list xs xs ≡ true
unfolding same_list
same_refl [] = refl
same_refl (x ∷ xs) = rw (eq-eqb x x refl) (same_refl xs)

pub same_of : (xs ys : List ℕ) → xs ≡ ys → same_list xs ys ≡ true
same_of xs ys e = ap (same_list xs) (sym e) ∙ same_refl xs

pub same_eq : (xs ys : List ℕ) → same_list xs ys ≡ true → xs ≡ ys
unfolding same_list
same_eq [] [] e = refl
same_eq [] (y ∷ ys) e = cc
same_eq (x ∷ xs) [] e = cc
same_eq (x ∷ xs) (y ∷ ys) e =
    let h = both_true (eqb x y) (same_list xs ys) e in
    ap (λ (t : ℕ). t ∷ xs) (eqb-true x y h.0) ∙ ap (λ (r : List ℕ). y ∷ r) (same_eq xs ys h.1)

-- what `==` says of two slices, and what is said of one where each byte is tested
pub pairs_same : (xs ys : List ℕ) → pointwise eqb xs ys ≡ same_list xs ys
unfolding same_list
pairs_same [] [] = refl
pairs_same [] (y ∷ ys) = refl
pairs_same (x ∷ xs) [] = refl
pairs_same (x ∷ xs) (y ∷ ys) = ap (λ (b : Bool). eqb x y && b) (pairs_same xs ys)

pub each_zero : (xs : List ℕ) → list_all (λ (x : ℕ). eqb x 0) xs ≡ all_zero xs
unfolding all_zero
each_zero [] = refl
each_zero (x ∷ xs) = ap (λ (b : Bool). eqb x 0 && b) (each_zero xs)

-- a slice whose part from a place to an end was lent, when the part is back
pub put_back : (xs ys : List ℕ) (at k : ℕ) → length ys ≡ k → put_mid at (at + k - at) xs ys ≡ put xs at ys
unfolding put
put_back xs ys at k e =
    let f : at + k - at ≡ length ys = omega arith in
    ap (λ (m : ℕ). take at xs ++ (ys ++ drop m (drop at xs))) f ∙ ap (λ (r : List ℕ). take at xs ++ (ys ++ r)) (drop-drop (length ys) at xs)
