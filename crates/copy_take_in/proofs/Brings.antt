-- What a packet brings, as the rows that the code goes through. Assumes nothing.
use Prim.Native.Nat.{ℕ, zero, suc, ◌+◌, ◌-◌, ◌*◌, ◌/◌, ◌%◌, ◌^◌, ◌≤◌, ◌<◌}
use mathlib.Core.Path.{◌≡◌, refl, sym, ap, ap₂, ◌∙◌, subst}
use mathlib.Core.List.{List, [], ◌∷◌, ◌++◌, map}
use native.Mathlib.Nat.{zero-add, add-zero, add-suc, suc-add, le_of_suc-le-suc, not-suc-le-zero, div-one}
use native.Mathlib.Numerals.{add-one}
use native.Mathlib.Omega.{arith}
use lib.ListN.{length, get_or, drop, replicate, length-append, get_or-append}
use Rattle.byte_strings.specs.Lists.{part, put, run, joined, total, Bytes, zeros}
use Rattle.byte_strings.proofs.Lists.{part_left, part_front, part_behind, length_run, run_ext, run_get_or}
use Rattle.tree_index.specs.Tree.{index}
use Rattle.blake2b.specs.Hash.{node_hash}
use Rattle.blake2b.proofs.Laws.{node_length, node_byte}
use Rattle.file_format.specs.Entries.{Entry, hole, entry_bytes, parent_of}
use Rattle.file_format.specs.RootsByValue.{padded}
use Rattle.file_format.proofs.Nodes.{Proper, entry_bytes_length}
use Rattle.packet.specs.Check.{entry_in, entries_in, ordered, Step, steps_above}
use Rattle.packet.specs.Inner.{step_bytes, path_row}
use Rattle.packet.proofs.Climb.{ordered_size, left_first, right_first, odd, steps_count}
use Rattle.packet.proofs.Pieces.{entry_in_lem}
use Rattle.packet.proofs.Rows.{half}
use Rattle.copy_take_in.specs.TakeIn.{Given, given_at, led_to}
use Rattle.copy_take_in.specs.Inner.{lies, row_given, above_row}

-- ---- rows that lie in the packet

given_run : (xs : List ℕ) (f : ℕ → Entry) (g : ℕ → ℕ) (i : ℕ) → ((j : ℕ) → j < length xs → get_or xs j 0 ≡ g (i + j))
    → given_at xs (run f i (length xs)) ≡ run (λ j. record { at = g j; entry = f j }) i (length xs)
unfolding given_at run
given_run [] f g i h = refl
given_run (x ∷ xs) f g i h =
    ap₂ (λ (a : ℕ) (r : List Given). record { at = a; entry = f i } ∷ r) (h 0 (omega arith) ∙ ap g (add-zero i))
    (given_run xs f g (suc i) (λ j l. h (suc j) (omega arith) ∙ ap g (add-suc i j ∙ sym (suc-add i j))))

padded_at : (xs is : List ℕ) (j : ℕ) → is ≡ padded 0 (length xs) xs → j < length xs → get_or xs j 0 ≡ get_or is j 0
unfolding padded
padded_at xs is j e h = sym (ap (λ (l : List ℕ). get_or l j 0) e ∙ get_or-append xs (replicate (20 - length xs) 0) 0 j h)

pub row_given_lem : (p : List ℕ) (at : ℕ) (xs is : List ℕ) (k : ℕ) → k ≡ length xs → is ≡ padded 0 (length xs) xs
    → given_at xs (entries_in p at (length xs)) ≡ row_given p at is k
unfolding entries_in row_given
row_given_lem p at xs is k e f =
    given_run xs (λ j. entry_in p (at + 40 * j)) (λ j. get_or is j 0) 0 (λ j h. padded_at xs is j f h ∙ ap (λ (i : ℕ). get_or is i 0) (sym (zero-add j)))
    ∙ ap (run (λ j. lies p (at + 40 * j) (get_or is j 0)) 0) (sym e)

-- ---- the row of parents

led_given : (ss : List Step) → map led_to ss ≡ given_at (map (λ (s : Step). s.at) ss) (map (λ (s : Step). s.entry) ss)
unfolding given_at
led_given [] = refl
led_given (s ∷ ss) = ap (λ (r : List Given). led_to s ∷ r) (led_given ss)

module _ (F : List ℕ → List ℕ) where
  steps_at : (c d k : ℕ) (e : Entry) (ss : List Entry) → k ≡ c / 2 ^ d
      → map (λ (s : Step). s.at) (steps_above F d k e ss) ≡ run (λ h. index (h + 1) (c / 2 ^ (h + 1))) d (length ss)
  unfolding steps_above run
  steps_at c d k e [] h = refl
  steps_at c d k e (s ∷ ss) h =
      let up : k / 2 ≡ c / 2 ^ (d + 1) = ap (λ (x : ℕ). x / 2) h ∙ half c d ∙ ap (λ (x : ℕ). c / 2 ^ x) (sym (add-one d)) in
      ap₂ (λ (i : ℕ) (r : List ℕ). i ∷ r) (ap (index (d + 1)) up)
      (steps_at c (d + 1) (k / 2) (ordered k (parent_of F) e s) ss up
      ∙ ap (λ (x : ℕ). run (λ h. index (h + 1) (c / 2 ^ (h + 1))) x (length ss)) (add-one d))

  -- no parent on the way is longer than all that lies below
  steps_small : (d k : ℕ) (e : Entry) (ss : List Entry) (j : ℕ) → j < length ss
      → (get_or (map (λ (s : Step). s.entry) (steps_above F d k e ss)) j hole).size ≤ e.size + total (map (λ (x : Entry). x.size) ss)
  unfolding steps_above total
  steps_small d k e [] j h = absurd (not-suc-le-zero h)
  steps_small d k e (s ∷ ss) zero h = omega (arith, ordered_size F k e s)
  steps_small d k e (s ∷ ss) (suc j) h =
      omega (arith, ordered_size F k e s, steps_small (d + 1) (k / 2) (ordered k (parent_of F) e s) ss j (le_of_suc-le-suc h))

-- a parent of BLAKE2b is an entry of 40 bytes
parent_long : (k : ℕ) (e s : Entry) → (length (ordered k (parent_of node_hash) e s).hash ≡ 32) × Bytes (ordered k (parent_of node_hash) e s).hash
unfolding parent_of
parent_long k e s = pick (k % 2) refl
  where
    pick : (b : ℕ) → k % 2 ≡ b → (length (ordered k (parent_of node_hash) e s).hash ≡ 32) × Bytes (ordered k (parent_of node_hash) e s).hash
    pick zero z =
        let q = left_first node_hash k e s z in
        (ap (λ (x : Entry). length x.hash) q ∙ node_length _, subst (λ (x : Entry). Bytes x.hash) (sym q) (node_byte _))
    pick (suc b) z =
        let q = right_first node_hash k e s (odd k (λ y. omega arith)) in
        (ap (λ (x : Entry). length x.hash) q ∙ node_length _, subst (λ (x : Entry). Bytes x.hash) (sym q) (node_byte _))

steps_long : (d k : ℕ) (e : Entry) (ss : List Entry) (j : ℕ) → j < length ss
    → (length (get_or (map (λ (s : Step). s.entry) (steps_above node_hash d k e ss)) j hole).hash ≡ 32)
    × Bytes (get_or (map (λ (s : Step). s.entry) (steps_above node_hash d k e ss)) j hole).hash
unfolding steps_above
steps_long d k e [] j h = absurd (not-suc-le-zero h)
steps_long d k e (s ∷ ss) zero h = parent_long k e s
steps_long d k e (s ∷ ss) (suc j) h = steps_long (d + 1) (k / 2) (ordered k (parent_of node_hash) e s) ss j (le_of_suc-le-suc h)

-- the j-th of rows of 40 bytes one behind the other
joined_at : (es : List Entry) → ((j : ℕ) → j < length es → length (entry_bytes (get_or es j hole)) ≡ 40) → (j : ℕ) → j < length es
    → part (joined (map entry_bytes es)) (40 * j) 40 ≡ entry_bytes (get_or es j hole)
unfolding joined
joined_at [] l j h = absurd (not-suc-le-zero h)
joined_at (e ∷ es) l zero h = part_front (entry_bytes e) (joined (map entry_bytes es)) 40 (l 0 h)
joined_at (e ∷ es) l (suc j) h =
    let q : 40 * suc j ≡ 40 + 40 * j = omega arith in
    ap (λ (a : ℕ). part (entry_bytes e ++ joined (map entry_bytes es)) a 40) q
    ∙ part_behind (entry_bytes e) (joined (map entry_bytes es)) 40 (40 * j) 40 (l 0 (omega arith))
    ∙ joined_at es (λ k g. l (suc k) (omega arith)) j (le_of_suc-le-suc h)

joined_long : (es : List Entry) → ((j : ℕ) → j < length es → length (entry_bytes (get_or es j hole)) ≡ 40)
    → length (joined (map entry_bytes es)) ≡ 40 * length es
unfolding joined
joined_long [] l = refl
joined_long (e ∷ es) l =
    let a : length (entry_bytes e) ≡ 40 = l 0 (omega arith) in
    let b : length (joined (map entry_bytes es)) ≡ 40 * length es = joined_long es (λ k g. l (suc k) (omega arith)) in
    length-append (entry_bytes e) (joined (map entry_bytes es)) ∙ omega (arith, a, b)

map_bytes : (ss : List Step) → map (λ (s : Step). entry_bytes s.entry) ss ≡ map entry_bytes (map (λ (s : Step). s.entry) ss)
map_bytes [] = refl
map_bytes (s ∷ ss) = ap (λ (r : List (List ℕ)). entry_bytes s.entry ∷ r) (map_bytes ss)

map_many : (f : Step → Entry) (zs : List Step) → length (map f zs) ≡ length zs
map_many f [] = refl
map_many f (z ∷ zs) = ap suc (map_many f zs)

module _ (c : ℕ) (e : Entry) (ss : List Entry) (path is : List ℕ) (k : ℕ) (w : path ≡ path_row (steps_above node_hash 0 c e ss)) (u : k ≡ length ss)
    (x : is ≡ padded 0 (length ss) (above_row c (length ss))) (small : e.size + total (map (λ (y : Entry). y.size) ss) ≤ 68719476736) where
  ups : List Entry
  ups = map (λ (s : Step). s.entry) (steps_above node_hash 0 c e ss)

  ups_many : length ups ≡ length ss
  unfolding ups
  ups_many = map_many (λ (s : Step). s.entry) (steps_above node_hash 0 c e ss) ∙ steps_count node_hash 0 c e ss

  up_proper : (j : ℕ) → j < length ss → Proper (get_or ups j hole)
  unfolding ups
  up_proper j h =
      let l = steps_long 0 c e ss j h in
      record { long = l.0; bytes = l.1; fits = omega (arith, steps_small node_hash 0 c e ss j h) }

  up_long : (j : ℕ) → j < length ups → length (entry_bytes (get_or ups j hole)) ≡ 40
  up_long j h = entry_bytes_length (get_or ups j hole) (up_proper j (subst (λ (m : ℕ). j < m) ups_many h)).long

  -- the parents' bytes, and zeros behind them
  path_is : path ≡ joined (map entry_bytes ups) ++ drop (0 + length (joined (map entry_bytes ups))) (zeros 800)
  unfolding ups path_row step_bytes put
  path_is = w ∙ ap (λ (bs : List (List ℕ)). joined bs ++ drop (0 + length (joined bs)) (zeros 800)) (map_bytes (steps_above node_hash 0 c e ss))

  pub path_long : 40 * length ss ≤ length path
  path_long =
      let front = joined (map entry_bytes ups) in
      omega (arith, joined_long ups up_long, ups_many, ap length path_is ∙ length-append front (drop (0 + length front) (zeros 800)))

  up_at : (j : ℕ) → j < length ss → entry_in path (0 + 40 * j) ≡ get_or ups j hole
  up_at j h =
      let front = joined (map entry_bytes ups) in
      ap (entry_in path) (zero-add (40 * j))
      ∙ entry_in_lem path (40 * j) (get_or ups j hole) (up_proper j h)
      (ap (λ (l : List ℕ). part l (40 * j) 40) path_is
      ∙ part_left front (drop (0 + length front) (zeros 800)) (40 * j) 40 (omega (arith, joined_long ups up_long, ups_many))
      ∙ joined_at ups up_long j (subst (λ (m : ℕ). j < m) (sym ups_many) h))

  above_many : length (above_row c (length ss)) ≡ length ss
  unfolding above_row
  above_many = length_run _ 0 (length ss)

  indexes : map (λ (s : Step). s.at) (steps_above node_hash 0 c e ss) ≡ above_row c (length ss)
  unfolding above_row
  indexes = steps_at node_hash c 0 c e ss (sym (div-one c))

  rows_are : ups ≡ entries_in path 0 (length ss)
  unfolding entries_in
  rows_are =
      sym (run_get_or ups (length ss) hole ups_many)
      ∙ run_ext (λ j. get_or ups j hole) (λ j. entry_in path (0 + 40 * j)) 0 (length ss) (λ j a b. sym (up_at j (omega arith)))

  pub path_given : map led_to (steps_above node_hash 0 c e ss) ≡ row_given path 0 is k
  unfolding ups
  path_given =
      let entries : ups ≡ entries_in path 0 (length ss) = rows_are in
      led_given (steps_above node_hash 0 c e ss)
      ∙ ap₂ given_at indexes (entries ∙ ap (entries_in path 0) (sym above_many))
      ∙ row_given_lem path 0 (above_row c (length ss)) is k (u ∙ sym above_many) (x ∙ ap (λ (m : ℕ). padded 0 m (above_row c (length ss))) (sym above_many))
