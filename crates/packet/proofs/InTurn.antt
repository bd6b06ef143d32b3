-- The root above a chunk put back among the others: the message that the code gathers is the definition's.
-- Assumes nothing.
use Prim.Native.Nat.{ℕ, zero, suc, ◌+◌, ◌-◌, ◌*◌, ◌≤◌, ◌<◌}
use mathlib.Core.Path.{◌≡◌, refl, sym, ap, ap₂, ◌∙◌, subst}
use mathlib.Core.Bool.{Bool, true, false}
use mathlib.Core.List.{List, [], ◌∷◌, ◌++◌}
use native.Mathlib.Nat.{zero-add, suc_inj, le_of_suc-le-suc, not-suc-le-zero, zero-lt-suc}
use native.Mathlib.Numerals.{one-add}
use native.Mathlib.Omega.{arith}
use lib.Dec.{ltb, eqb}
use lib.ListN.{length, get_or, take, drop, replicate, length-append, length-drop, get_or-append}
use lib.Seq.{length-take-le, get_or-take, get_or-drop, get_or_at}
use borrow.Author.Tests.{ltb-true, ltb-false, eqb-true, eqb-false, eq-eqb, ne_eqb}
use Rattle.byte_strings.specs.Lists.{run, zeros}
use Rattle.byte_strings.proofs.Lists.{get_or_behind, length_run, get_or_run, run_ext, run_from}
use Rattle.tree_index.specs.Tree.{roots}
use Rattle.tree_index.proofs.Roots.{length_roots_le}
use Rattle.file_format.specs.Messages.{root_item, root_message}
use Rattle.file_format.specs.Entries.{Entry, hole}
use Rattle.file_format.specs.RootsByValue.{padded, items_of}
use Rattle.packet.specs.Packet.{root_above, other_roots, place_above}
use Rattle.packet.specs.Check.{entry_in, entries_in, in_turn, items}
use Rattle.packet.specs.Inner.{ChunkOf, turned, turn_entry, hash_row, size_row, message_with, TurnsIn, OthersIn}
use Rattle.packet.proofs.Above.{Apart, Distinct, roots_distinct, place_root, place_below, other_count_lem}
use Rattle.packet.proofs.Climb.{turned_before, turned_here, turned_behind}

abbrev chosen : Bool → List Entry → List Entry → List Entry
chosen b x y = elim b [ true ↦ x | false ↦ y ]

-- ---- the turn by roots: x stands for the root r of the roots is

unfoldable pub turning : ℕ → Entry → List ℕ → List Entry → List Entry
turning r x [] es = []
turning r x (i ∷ is) [] = elim (eqb i r) [ true ↦ x ∷ turning r x is [] | false ↦ turning r x is [] ]
turning r x (i ∷ is) (e ∷ es) = elim (eqb i r) [ true ↦ x ∷ turning r x is (e ∷ es) | false ↦ e ∷ turning r x is es ]

turn_none : (r : ℕ) (x : Entry) (is : List ℕ) (es : List Entry) → Apart r is → length es ≡ length is → turning r x is es ≡ es
unfolding turning
turn_none r x [] [] a l = refl
turn_none r x [] (e ∷ es) a l = absurd (omega (arith, l))
turn_none r x (i ∷ is) [] a l = absurd (omega (arith, l))
turn_none r x (i ∷ is) (e ∷ es) a l =
    ap (λ (b : Bool). chosen b (x ∷ turning r x is (e ∷ es)) (e ∷ turning r x is es)) (ne_eqb i r (a 0 (zero-lt-suc (length is))))
    ∙ ap (λ (ys : List Entry). e ∷ ys) (turn_none r x is es (λ j h. a (suc j) (omega arith)) (suc_inj l))

turn_first : (i : ℕ) (x : Entry) (is : List ℕ) (es : List Entry) → Apart i is → length es ≡ length is → turning i x (i ∷ is) es ≡ x ∷ es
unfolding turning
turn_first i x is [] a l =
    ap (λ (b : Bool). chosen b (x ∷ turning i x is []) (turning i x is [])) (eq-eqb i i refl)
    ∙ ap (λ (ys : List Entry). x ∷ ys) (turn_none i x is [] a l)
turn_first i x is (e ∷ es) a l =
    ap (λ (b : Bool). chosen b (x ∷ turning i x is (e ∷ es)) (e ∷ turning i x is es)) (eq-eqb i i refl)
    ∙ ap (λ (ys : List Entry). x ∷ ys) (turn_none i x is (e ∷ es) a l)

pub turn_cut : (x : Entry) (is : List ℕ) (es : List Entry) (k : ℕ) → Distinct is → k < length is → suc (length es) ≡ length is
    → turning (get_or is k 0) x is es ≡ take k es ++ (x ∷ drop k es)
unfolding turning Distinct
turn_cut x [] es k u h l = absurd (not-suc-le-zero h)
turn_cut x (i ∷ is) es zero u h l = turn_first i x is es u.0 (suc_inj l)
turn_cut x (i ∷ is) [] (suc k) u h l = absurd (omega (arith, l, h))
turn_cut x (i ∷ is) (e ∷ es) (suc k) u h l =
    ap (λ (b : Bool). chosen b (x ∷ turning (get_or is k 0) x is (e ∷ es)) (e ∷ turning (get_or is k 0) x is es))
    (ne_eqb i (get_or is k 0) (λ f. u.0 k (le_of_suc-le-suc h) (sym f)))
    ∙ ap (λ (ys : List Entry). e ∷ ys) (turn_cut x is es k u.1 (le_of_suc-le-suc h) (suc_inj l))

-- what stands at a place of it
module _ (d x : Entry) (es : List Entry) (k : ℕ) (h : k ≤ length es) where
  front : length (take k es) ≡ k
  front = length-take-le k es h

  pub length_turned : length (take k es ++ (x ∷ drop k es)) ≡ suc (length es)
  length_turned =
      length-append (take k es) (x ∷ drop k es) ∙ ap₂ (λ (a b : ℕ). a + suc b) front (length-drop k es) ∙ omega arith

  turn_at : (j : ℕ) → (a b : Bool) → ltb j k ≡ a → eqb j k ≡ b → get_or (take k es ++ (x ∷ drop k es)) j d ≡ turned (λ i. get_or es i d) k x j
  turn_at j true b p q =
      let l : j < k = ltb-true j k p in
      get_or-append (take k es) (x ∷ drop k es) d j (omega (arith, front)) ∙ get_or-take k es j d l
      ∙ sym (turned_before (λ i. get_or es i d) k x j l)
  turn_at j false true p q =
      let e : j ≡ k = eqb-true j k q in
      ap (λ (i : ℕ). get_or (take k es ++ (x ∷ drop k es)) i d) e ∙ get_or_at (take k es) x (drop k es) d k front
      ∙ sym (turned_here (λ i. get_or es i d) k x j e)
  turn_at j false false p q =
      let l : k ≤ j = ltb-false j k p in
      let n : j ≡ k → ⊥ = eqb-false j k q in
      let e : k + suc (j - 1 - k) ≡ j = omega arith in
      let f : k + (j - 1 - k) ≡ j - 1 = omega arith in
      ap (λ (i : ℕ). get_or (take k es ++ (x ∷ drop k es)) i d) (sym e)
      ∙ get_or_behind (take k es) (x ∷ drop k es) k (suc (j - 1 - k)) d front
      ∙ get_or-drop k es (j - 1 - k) d ∙ ap (λ (i : ℕ). get_or es i d) f
      ∙ sym (turned_behind (λ i. get_or es i d) k x j l n)

  pub turned_at : (j : ℕ) → get_or (take k es ++ (x ∷ drop k es)) j d ≡ turned (λ i. get_or es i d) k x j
  turned_at j = turn_at j (ltb j k) (eqb j k) refl refl

-- ---- the items

items_run : (is : List ℕ) (es : List Entry) → length es ≡ length is
    → items is es ≡ run (λ j. root_item (get_or es j hole).hash (get_or is j 0) (get_or es j hole).size) 0 (length is)
unfolding items run
items_run [] es l = refl
items_run (i ∷ is) [] l = absurd (omega (arith, l))
items_run (i ∷ is) (e ∷ es) l =
    ap (λ (ys : List (List ℕ)). root_item e.hash i e.size ∷ ys)
    (items_run is es (suc_inj l)
    ∙ sym (run_from (λ j. root_item (get_or (e ∷ es) j hole).hash (get_or (i ∷ is) j 0) (get_or (e ∷ es) j hole).size) 1 (length is)
    ∙ run_ext (λ m. root_item (get_or (e ∷ es) (1 + m) hole).hash (get_or (i ∷ is) (1 + m) 0) (get_or (e ∷ es) (1 + m) hole).size)
    (λ j. root_item (get_or es j hole).hash (get_or is j 0) (get_or es j hole).size) 0 (length is)
    (λ j a b. ap (λ (m : ℕ). root_item (get_or (e ∷ es) m hole).hash (get_or (i ∷ is) m 0) (get_or (e ∷ es) m hole).size) (one-add j))))

padded_at : {A : Type 0} (x d : A) (f : ℕ → A) (count j : ℕ) → j < count → get_or (padded x count (run f 0 count)) j d ≡ f j
unfolding padded
padded_at x d f count j h =
    get_or-append (run f 0 count) (replicate (20 - count) x) d j (subst (λ (m : ℕ). j < m) (sym (length_run f 0 count)) h)
    ∙ get_or_run f 0 count j d h ∙ ap f (zero-add j)

module _ (p : List ℕ) (at n c : ℕ) (x : Entry) (h : ChunkOf n c) where
  abbrev k : ℕ
  k = place_above (roots n) c

  abbrev es : List Entry
  es = entries_in p at (length (other_roots n c))

  count_es : suc (length es) ≡ length (roots n)
  unfolding entries_in
  count_es =
      let e : length (run (λ j. entry_in p (at + 40 * j)) 0 (length (other_roots n c))) ≡ length (other_roots n c) = length_run _ 0 (length (other_roots n c)) in
      omega (arith, other_count_lem n c h, place_below n c h)

  other_at : (i : ℕ) → i < length (other_roots n c) → get_or es i hole ≡ entry_in p (at + 40 * i)
  unfolding entries_in
  other_at i g =
      get_or_run (λ m. entry_in p (at + 40 * m)) 0 (length (other_roots n c)) i hole g ∙ ap (λ (m : ℕ). entry_in p (at + 40 * m)) (zero-add i)

  abbrev pub all : List Entry
  all = take k es ++ (x ∷ drop k es)

  -- it is the turn by places
  pub whole : turning (root_above (roots n) c) x (roots n) es ≡ all
  whole =
      ap (λ (r : ℕ). turning r x (roots n) es) (place_root (roots n) c)
      ∙ turn_cut x (roots n) es k (roots_distinct n) (place_below n c h) count_es

  inside : k ≤ length es
  inside = omega (arith, count_es, place_below n c h)

  pub length_all : length all ≡ length (roots n)
  length_all = length_turned hole x es k inside ∙ count_es

  pub entry_at_lem : (j : ℕ) → j < length (roots n) → get_or all j hole ≡ turn_entry p at k x j
  unfolding turn_entry
  entry_at_lem j l = turned_at hole x es k inside j ∙ same (ltb j k) (eqb j k) refl refl
    where
      same : (a b : Bool) → ltb j k ≡ a → eqb j k ≡ b → turned (λ i. get_or es i hole) k x j ≡ turned (λ i. entry_in p (at + 40 * i)) k x j
      same true b e f =
          turned_before (λ i. get_or es i hole) k x j (ltb-true j k e) ∙ other_at j (omega (arith, ltb-true j k e, place_below n c h, other_count_lem n c h))
          ∙ sym (turned_before (λ i. entry_in p (at + 40 * i)) k x j (ltb-true j k e))
      same false true e f =
          turned_here (λ i. get_or es i hole) k x j (eqb-true j k f) ∙ sym (turned_here (λ i. entry_in p (at + 40 * i)) k x j (eqb-true j k f))
      same false false e f =
          let q : k ≤ j = ltb-false j k e in
          let m : j ≡ k → ⊥ = eqb-false j k f in
          turned_behind (λ i. get_or es i hole) k x j q m ∙ other_at (j - 1) (omega (arith, other_count_lem n c h))
          ∙ sym (turned_behind (λ i. entry_in p (at + 40 * i)) k x j q m)

  module _ (hashes : List (List ℕ)) (is sizes : List ℕ) (eh : hashes ≡ padded (zeros 32) (length (roots n)) (hash_row p at k x (length (roots n))))
      (ei : is ≡ roots n ++ replicate (20 - length (roots n)) 0) (ez : sizes ≡ padded 0 (length (roots n)) (size_row p at k x (length (roots n)))) where
    item_at : (j : ℕ) → j < length (roots n)
        → root_item (get_or hashes j []) (get_or is j 0) (get_or sizes j 0) ≡ root_item (get_or all j hole).hash (get_or (roots n) j 0) (get_or all j hole).size
    unfolding hash_row size_row
    item_at j l =
        let h : get_or hashes j [] ≡ (get_or all j hole).hash =
        ap (λ (ys : List (List ℕ)). get_or ys j []) eh ∙ padded_at (zeros 32) [] (λ i. (turn_entry p at k x i).hash) (length (roots n)) j l
        ∙ ap (λ (e : Entry). e.hash) (sym (entry_at_lem j l)) in
        let z : get_or sizes j 0 ≡ (get_or all j hole).size =
        ap (λ (ys : List ℕ). get_or ys j 0) ez ∙ padded_at 0 0 (λ i. (turn_entry p at k x i).size) (length (roots n)) j l
        ∙ ap (λ (e : Entry). e.size) (sym (entry_at_lem j l)) in
        let r : get_or is j 0 ≡ get_or (roots n) j 0 =
        ap (λ (ys : List ℕ). get_or ys j 0) ei ∙ get_or-append (roots n) (replicate (20 - length (roots n)) 0) 0 j l in
        ap (λ (y : List ℕ). root_item y (get_or is j 0) (get_or sizes j 0)) h ∙ ap₂ (λ (i m : ℕ). root_item (get_or all j hole).hash i m) r z

    gathered : root_message (items_of hashes is sizes (length (roots n))) ≡ message_with p at n c x
    unfolding message_with items_of in_turn
    gathered =
        ap root_message
        (run_ext (λ j. root_item (get_or hashes j []) (get_or is j 0) (get_or sizes j 0))
        (λ j. root_item (get_or all j hole).hash (get_or (roots n) j 0) (get_or all j hole).size) 0 (length (roots n)) (λ j a b. item_at j (omega arith))
        ∙ sym (items_run (roots n) all length_all))

  -- the message of the code's arrays
  pub gathered_message : (hashes : List (List ℕ)) (is sizes : List ℕ) (count place : ℕ) → count ≡ length (roots n) → place ≡ k
      → hashes ≡ padded (zeros 32) count (hash_row p at place x count) → is ≡ roots n ++ replicate (20 - length (roots n)) 0
      → sizes ≡ padded 0 count (size_row p at place x count) → root_message (items_of hashes is sizes count) ≡ message_with p at n c x
  gathered_message hashes is sizes count place ec ep eh ei ez =
      ap (λ (m : ℕ). root_message (items_of hashes is sizes m)) ec
      ∙ gathered hashes is sizes (eh ∙ ap₂ (λ (m q : ℕ). padded (zeros 32) m (hash_row p at q x m)) ec ep) ei
      (ez ∙ ap₂ (λ (m q : ℕ). padded 0 m (size_row p at q x m)) ec ep)

-- the roots' entries lie in the packet
pub turns_in : (p : List ℕ) (at n c count place : ℕ) → OthersIn p at n c → count ≡ length (roots n) → place ≡ place_above (roots n) c
    → TurnsIn p at place count
turns_in p at n c count place o e f =
    let m = other_count_lem n c o.chunk in
    let q = place_below n c o.chunk in
    record {
      few = omega (arith, length_roots_le n o.chunk.count);
      place = omega arith;
      inside = subst (λ (z : ℕ). at + 40 * z ≤ length p) (m ∙ ap (λ (z : ℕ). z - 1) (sym e)) o.inside;
    }
