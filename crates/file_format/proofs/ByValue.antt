-- Laws of the roots by value. Assumes nothing.
use mathlib.Core.Path.{◌≡◌, refl, sym, ap, ap₂, ◌∙◌, subst}
use mathlib.Core.Bool.{false}
use mathlib.Core.Logic.{◌⊎◌, inl, inr}
use Prim.Native.Nat.{ℕ, zero, suc, ◌+◌, ◌-◌, ◌*◌, ◌≤◌, ◌<◌, zero-le}
use native.Mathlib.Nat.{zero-add, le_of_suc-le-suc, eq-zero-or-pos}
use native.Mathlib.Numerals.{add-one}
use native.Mathlib.Omega.{arith}
use mathlib.Core.List.{List, [], ◌∷◌, ◌++◌, append_assoc, map}
use lib.ListN.{length, get_or, set, take, drop, replicate, length-append, length-map, get_or-append}
use lib.Seq.{take_at, take-suc, take_all}
use lib.Dec.{eqb}
use borrow.Author.Tests.{eq-eqb, ne_eqb}
use Rattle.byte_strings.specs.Lists.{put, run, joined, total, zeros}
use Rattle.byte_strings.specs.Numbers.{be}
use Rattle.byte_strings.proofs.Lists.{length_run, run_suc, run_ext, joined_run_suc, total_append}
use Rattle.byte_strings.proofs.Numbers.{length_be}
use Rattle.tree_index.specs.Tree.{roots, entries}
use Rattle.tree_index.specs.Numbers.{numbers}
use Rattle.tree_index.proofs.Numbers.{numbers_at_lem}
use Rattle.number_types.specs.declared.TreeIndex.{TreeIndex}
use Rattle.blake2b.specs.Hash.{node_hash}
use Rattle.tree_index.proofs.Roots.{root_below, length_roots_le}
use Rattle.file_format.specs.Sizes.{entry_place, used_tree}
use Rattle.file_format.specs.Messages.{root_item, root_message}
use Rattle.file_format.specs.Inner.{EntryIn, EntriesIn, RootsIn}
use Rattle.file_format.specs.Stored.{stored_hash, stored_size, stored_root_sizes, stored_root_message}
use Rattle.file_format.specs.RootsByValue.{padded, sizes_at, hashes_at, items_of}
use Rattle.file_format.proofs.Places.{put_next}

-- an element of an array of tree indexes
pub number_at : (l : List TreeIndex) (j : ℕ) → get_or (numbers l) j 0 ≡ (get_or l j (record { 0 = 0 })).0
number_at l j = numbers_at_lem l j (record { 0 = 0 })

-- ---- arrays filled from the front

module _ {A : Type 0} where
  set_behind : (xs : List A) (x v : A) (r : List A) → set (xs ++ (x ∷ r)) (length xs) v ≡ xs ++ (v ∷ r)
  set_behind [] x v r = refl
  set_behind (y ∷ xs) x v r = ap (λ (l : List A). y ∷ l) (set_behind xs x v r)

  padded_next : (x : A) (f : ℕ → A) (j : ℕ) (v : A) → j < 20 → v ≡ f j
      → set (padded x j (run f 0 j)) j v ≡ padded x (j + 1) (run f 0 (j + 1))
  unfolding padded
  padded_next x f j v h e =
      let m : ℕ = 20 - suc j in
      let k : 20 - j ≡ suc m = omega arith in
      let n : m ≡ 20 - (j + 1) = omega arith in
      ap (λ (i : ℕ). set (run f 0 j ++ replicate i x) j v) k
      ∙ ap (λ (i : ℕ). set (run f 0 j ++ (x ∷ replicate m x)) i v) (sym (length_run f 0 j))
      ∙ set_behind (run f 0 j) x v (replicate m x)
      ∙ ap (λ (y : A). run f 0 j ++ (y ∷ replicate m x)) (e ∙ ap f (sym (zero-add j)))
      ∙ sym (append_assoc (run f 0 j) (f (0 + j) ∷ []) (replicate m x))
      ∙ ap₂ (λ (l : List A) (i : ℕ). l ++ replicate i x) (sym (run_suc f 0 j) ∙ ap (run f 0) (sym (add-one j))) n

  -- a loop that fills an array from the front: its first j elements are those of f, and behind them it holds x
  pub record Filling (x : A) (f : ℕ → A) (count j : ℕ) (l : List A) : Type 0 where
    pub few : count ≤ 20
    pub below : j ≤ count
    pub front : l ≡ padded x j (run f 0 j)

  module _ (x : A) (f : ℕ → A) (count : ℕ) where
    pub filling_none : count ≤ 20 → Filling x f count 0 (replicate 20 x)
    unfolding padded run
    filling_none h = record { few = h; below = omega arith; front = refl }

    module _ (j : ℕ) (l : List A) (w : Filling x f count j l) where
      pub filling_next : (m : List A) (v : A) → j < count → v ≡ f j → m ≡ set l j v → Filling x f count (j + 1) m
      filling_next m v h g e =
          record {
            few = w.few;
            below = omega arith;
            front = e ∙ ap (λ (y : List A). set y j v) w.front ∙ padded_next x f j v (omega (arith, w.few)) g;
          }

      pub filling_all : count ≤ j → l ≡ padded x count (run f 0 count)
      filling_all h =
          let e : j ≡ count = omega (arith, w.below) in w.front ∙ ap (λ (i : ℕ). padded x i (run f 0 i)) e

  run_shift : (f : ℕ → A) (i k : ℕ) → run f (suc i) k ≡ run (λ j. f (suc j)) i k
  unfolding run
  run_shift f i zero = refl
  run_shift f i (suc k) = ap (λ (l : List A). f (suc i) ∷ l) (run_shift f (suc i) k)

  run_map : (f : ℕ → A) (xs : List ℕ) → run (λ j. f (get_or xs j 0)) 0 (length xs) ≡ map f xs
  unfolding run
  run_map f [] = refl
  run_map f (x ∷ xs) =
      ap (λ (l : List A). f x ∷ l) (run_shift (λ j. f (get_or (x ∷ xs) j 0)) 0 (length xs) ∙ run_map f xs)

  pub mapped_at : (f : ℕ → A) (xs : List ℕ) (ys : List A) (d : A) (j : ℕ) → j < length xs → get_or (map f xs ++ ys) j d ≡ f (get_or xs j 0)
  mapped_at f [] ys d j h = absurd (omega arith)
  mapped_at f (x ∷ xs) ys d zero h = refl
  mapped_at f (x ∷ xs) ys d (suc j) h = mapped_at f xs ys d j (le_of_suc-le-suc h)

  -- what is read at the first of a list's indexes
  pub gathered : (f : ℕ → A) (xs ys : List ℕ) → run (λ j. f (get_or (xs ++ ys) j 0)) 0 (length xs) ≡ map f xs
  gathered f xs ys =
      run_ext (λ j. f (get_or (xs ++ ys) j 0)) (λ j. f (get_or xs j 0)) 0 (length xs)
      (λ j l h. ap f (get_or-append xs ys 0 j (omega arith)))
      ∙ run_map f xs

-- ---- the stored roots

module _ (tree is : List ℕ) (n k : ℕ) (count : k ≡ length (roots n)) (at : is ≡ roots n ++ replicate (20 - length (roots n)) 0) where
  abbrev rest : List ℕ
  rest = replicate (20 - length (roots n)) 0

  pub sizes_roots : padded 0 k (sizes_at tree is k) ≡ padded 0 (length (roots n)) (stored_root_sizes tree n)
  unfolding sizes_at stored_root_sizes
  sizes_roots =
      ap₂ (λ (l : List ℕ) (i : ℕ). padded 0 i (run (λ j. stored_size tree (get_or l j 0)) 0 i)) at count
      ∙ ap (padded 0 (length (roots n))) (gathered (stored_size tree) (roots n) rest)

  pub hashes_roots : padded (zeros 32) k (hashes_at tree is k) ≡ padded (zeros 32) (length (roots n)) (map (stored_hash tree) (roots n))
  unfolding hashes_at
  hashes_roots =
      ap₂ (λ (l : List ℕ) (i : ℕ). padded (zeros 32) i (run (λ j. stored_hash tree (get_or l j 0)) 0 i)) at count
      ∙ ap (padded (zeros 32) (length (roots n))) (gathered (stored_hash tree) (roots n) rest)

  root_in : RootsIn tree n → (j : ℕ) → j < length (roots n) → EntryIn tree (get_or (roots n) j 0)
  unfolding entry_place used_tree entries
  root_in w j h = let b = root_below n j h in record { small = omega (arith, w.count, b); inside = omega (arith, w.inside, b) }

  pub roots_in : RootsIn tree n → EntriesIn tree is k
  roots_in w =
      record {
        few = subst (λ (i : ℕ). i ≤ 20) (sym count) (length_roots_le n w.count);
        each = λ j h.
            let l : j < length (roots n) = subst (λ (i : ℕ). j < i) count h in
            subst (EntryIn tree) (sym (ap (λ (l : List ℕ). get_or l j 0) at ∙ get_or-append (roots n) rest 0 j l)) (root_in w j l);
      }

  module _ (hashes : List (List ℕ)) (sizes : List ℕ) (h : hashes ≡ padded (zeros 32) (length (roots n)) (map (stored_hash tree) (roots n)))
      (s : sizes ≡ padded 0 (length (roots n)) (stored_root_sizes tree n)) where
    pub items_roots : root_message (items_of hashes is sizes k) ≡ stored_root_message tree n
    unfolding items_of stored_root_message stored_root_sizes padded
    items_roots =
        ap root_message
        (ap (run (λ j. root_item (get_or hashes j []) (get_or is j 0) (get_or sizes j 0)) 0) count
        ∙ run_ext (λ j. root_item (get_or hashes j []) (get_or is j 0) (get_or sizes j 0)) (λ j. item (get_or (roots n) j 0)) 0 (length (roots n))
        (λ j l u. same j (omega arith))
        ∙ run_map item (roots n))
      where
        item : ℕ → List ℕ
        item i = root_item (stored_hash tree i) i (stored_size tree i)

        same : (j : ℕ) → j < length (roots n) → root_item (get_or hashes j []) (get_or is j 0) (get_or sizes j 0) ≡ item (get_or (roots n) j 0)
        same j l =
            let a : get_or hashes j [] ≡ stored_hash tree (get_or (roots n) j 0) =
            ap (λ (x : List (List ℕ)). get_or x j []) h ∙ mapped_at (stored_hash tree) (roots n) _ [] j l
            in
            let b : get_or is j 0 ≡ get_or (roots n) j 0 = ap (λ (x : List ℕ). get_or x j 0) at ∙ get_or-append (roots n) rest 0 j l in
            let c : get_or sizes j 0 ≡ stored_size tree (get_or (roots n) j 0) =
            ap (λ (x : List ℕ). get_or x j 0) s ∙ mapped_at (stored_size tree) (roots n) _ 0 j l
            in
            ap₂ (λ (x : List ℕ) (y : ℕ). root_item x y (get_or sizes j 0)) a b ∙ ap (root_item (stored_hash tree (get_or (roots n) j 0)) (get_or (roots n) j 0)) c

-- the sum over the first of the lengths
pub total_roots : (tree : List ℕ) (n k : ℕ) → k ≡ length (roots n) → (sizes : List ℕ)
    → sizes ≡ padded 0 (length (roots n)) (stored_root_sizes tree n) → total (take k sizes) ≡ total (stored_root_sizes tree n)
unfolding stored_root_sizes padded
total_roots tree n k count sizes s =
    ap₂ (λ (i : ℕ) (l : List ℕ). total (take i l)) count s
    ∙ ap total
    (take_at (map (stored_size tree) (roots n)) (replicate (20 - length (roots n)) 0) (length (roots n)) (length-map (roots n) (stored_size tree)))

-- ---- the root message

pub item_length : (hash : List ℕ) (i size : ℕ) → length hash ≡ 32 → length (root_item hash i size) ≡ 48
unfolding root_item
item_length hash i size e =
    length-append hash (be 8 i ++ be 8 size) ∙ ap (λ (k : ℕ). length hash + k) (length-append (be 8 i) (be 8 size))
    ∙ omega (arith, length_be 8 i, length_be 8 size)

-- what the first k items put behind the byte 02 give
pub record Items (hashes : List (List ℕ)) (is sizes : List ℕ) (k : ℕ) (message : List ℕ) : Type 0 where
  pub holds : message ≡ put (replicate 961 2) 1 (joined (items_of hashes is sizes k))
  pub long : length (joined (items_of hashes is sizes k)) ≡ 48 * k

module _ (hashes : List (List ℕ)) (is sizes : List ℕ) where
  pub items_none : Items hashes is sizes 0 (replicate 961 2)
  unfolding items_of run joined put
  items_none = record { holds = refl; long = refl }

  pub items_next : (j : ℕ) (message after : List ℕ) → j < 20 → length (get_or hashes j []) ≡ 32 → Items hashes is sizes j message
      → after ≡ put message (1 + 48 * j) (root_item (get_or hashes j []) (get_or is j 0) (get_or sizes j 0)) → Items hashes is sizes (j + 1) after
  unfolding items_of
  items_next j message after h l w e =
      record {
        holds = e ∙ ap (λ (m : List ℕ). put m (1 + 48 * j) (item j)) w.holds
            ∙ put_next (replicate 961 2) 1 (1 + 48 * j) (48 * j) (joined (run item 0 j)) (item j) w.long refl (omega arith)
            ∙ ap (put (replicate 961 2) 1) (sym more);
        long = ap length more ∙ length-append (joined (run item 0 j)) (item j) ∙ omega (arith, w.long, item_length (get_or hashes j []) (get_or is j 0) (get_or sizes j 0) l);
      }
    where
      item : ℕ → List ℕ
      item i = root_item (get_or hashes i []) (get_or is i 0) (get_or sizes i 0)

      more : joined (run item 0 (j + 1)) ≡ joined (run item 0 j) ++ item j
      more = ap (λ (k : ℕ). joined (run item 0 k)) (add-one j) ∙ joined_run_suc item 0 j ∙ ap (λ (i : ℕ). joined (run item 0 j) ++ item i) (zero-add j)

  pub items_all : (k : ℕ) (message : List ℕ) → Items hashes is sizes k message → take (1 + 48 * k) message ≡ root_message (items_of hashes is sizes k)
  unfolding root_message put
  items_all k message w =
      ap (take (1 + 48 * k)) w.holds
      ∙ take_at (2 ∷ joined (items_of hashes is sizes k)) (drop (1 + length (joined (items_of hashes is sizes k))) (replicate 961 2)) (1 + 48 * k)
      (ap suc w.long ∙ omega arith)

  pub items_end : (j k : ℕ) (message : List ℕ) → j ≤ k → k ≤ j → Items hashes is sizes j message
      → take (1 + 48 * k) message ≡ root_message (items_of hashes is sizes k)
  items_end j k message h l w =
      let z : j ≡ k = omega arith in
      items_all k message (subst (λ (i : ℕ). Items hashes is sizes i message) z w)

pub front_hashed : (k : ℕ) (message front r : List ℕ) → r ≡ node_hash (take (1 + 48 * k - 0) message) → take (1 + 48 * k) message ≡ front → r ≡ node_hash front
front_hashed k message front r e f =
    let n : 1 + 48 * k - 0 ≡ 1 + 48 * k = omega arith in
    e ∙ ap node_hash (ap (λ (i : ℕ). take i message) n ∙ f)

-- ---- sums as whole numbers

pub total_next : (xs : List ℕ) (j : ℕ) → j < length xs → total (take (j + 1) xs) ≡ total (take j xs) + get_or xs j 0
unfolding total
total_next xs j h =
    ap (λ (i : ℕ). total (take i xs)) (add-one j) ∙ ap total (take-suc xs j 0 h) ∙ total_append (take j xs) (get_or xs j 0 ∷ []) ∙ omega arith

pub total_more : (xs : List ℕ) (j k : ℕ) → j ≤ k → total (take j xs) ≤ total (take k xs)
unfolding total
total_more xs zero k h = zero-le
total_more [] (suc j) zero h = zero-le
total_more [] (suc j) (suc k) h = zero-le
total_more (x ∷ xs) (suc j) zero h = absurd (omega arith)
total_more (x ∷ xs) (suc j) (suc k) h = omega (arith, total_more xs j k (le_of_suc-le-suc h))

-- what is left of the size after the first j lengths says whether they all fit
pub none_left : (t left size : ℕ) → t + left ≡ size → eqb left 0 ≡ eqb t size
none_left t left size e = pick (eq-zero-or-pos left)
  where
    pick : (left ≡ 0) ⊎ (0 < left) → eqb left 0 ≡ eqb t size
    pick (inl z) = eq-eqb left 0 z ∙ sym (eq-eqb t size (omega arith))
    pick (inr p) = ne_eqb left 0 (λ z. omega arith) ∙ sym (ne_eqb t size (λ z. omega arith))

pub too_much : (xs : List ℕ) (j k left size : ℕ) → j < k → j < length xs → total (take j xs) + left ≡ size → left < get_or xs j 0
    → false ≡ eqb (total (take k xs)) size
too_much xs j k left size h l e f =
    sym (ne_eqb (total (take k xs)) size (λ z. omega (arith, total_next xs j l, total_more xs (j + 1) k (omega arith))))

-- the same of all of the lengths
pub more_than : (xs : List ℕ) (j left size : ℕ) → j < length xs → total (take j xs) + left ≡ size → left < get_or xs j 0
    → eqb (total xs) size ≡ false
more_than xs j left size l e f =
    sym
    (subst (λ (ys : List ℕ). false ≡ eqb (total ys) size) (take_all (length xs) xs (omega arith))
    (too_much xs j (length xs) left size l l e f))

-- the array of indexes that holds the roots, as its own contract says it
pub as_padded : (is : List ℕ) (n : ℕ) → is ≡ roots n ++ replicate (20 - length (roots n)) 0 → is ≡ padded 0 (length (roots n)) (roots n)
unfolding padded
as_padded is n e = e

pub from_padded : (is : List ℕ) (n : ℕ) → is ≡ padded 0 (length (roots n)) (roots n) → is ≡ roots n ++ replicate (20 - length (roots n)) 0
unfolding padded
from_padded is n e = e
