-- What an append does to the bitfield file is the image of one chunk more. Assumes nothing.
use mathlib.Core.Path.{◌≡◌, refl, sym, ap, ◌∙◌}
use Prim.Native.Nat.{ℕ, zero, suc, ◌+◌, ◌-◌, ◌*◌, ◌/◌, ◌%◌, ◌^◌, ◌<◌, ◌≤◌}
use native.Mathlib.Nat.{zero-add, le_refl, add_assoc, pos_of_ne-zero}
use native.Mathlib.Omega.{arith}
use native.Mathlib.Numerals.{add-one}
use mathlib.Core.Bool.{Bool, true, false, ◌||◌}
use mathlib.Core.Logic.{⊎_elim}
use mathlib.Core.List.{List, [], ◌∷◌, ◌++◌, append_assoc}
use lib.Dec.{eqb, ltb}
use lib.Arith.{lt_of_le-ne}
use lib.Pow.{pow_pos}
use lib.ListN.{length, take, drop, length-replicate}
use lib.Seq.{length-take-le, take-add}
use borrow.Author.Tests.{eqb-true, eqb-false, lt-ltb, le-ltb, ltb-true, ltb-false}
use Rattle.byte_strings.specs.Lists.{part, put, zeros, run, joined, among}
use Rattle.byte_strings.proofs.Lists.{run_suc, run_ext, around, joined_run_suc}
use Rattle.byte_strings.proofs.Bools.{cases}
use Rattle.tree_index.specs.Tree.{index, completed, filled_by, filled}
use Rattle.tree_index.proofs.Appended.{filled_suc}
use Rattle.bitfield.specs.Bits.{with_digit, set_bit}
use Rattle.bitfield.specs.Index.{index_bytes}
use Rattle.bitfield.specs.Image.{data_bytes, tree_bytes, entry, entry_count, held_below, entries_for, entries_of}
use Rattle.bitfield.specs.Append.{bits_place, zeroed_if_new, set_data_bit, set_tree_bit, set_tree_bits, regenerated, with_bits, appended}
use Rattle.bitfield.proofs.Bits.{with_one_lem, sets}
use Rattle.bitfield.proofs.Levels.{same_or, length_index}
use Rattle.bitfield.proofs.Image.{entry_with, entry_is, data_other, data_file, tree_file, index_file, zero_entry, entry_ext, known_ext, length_entries}
use Rattle.bitfield.proofs.TreeFacts.{filled_place, width_le, filled_above}

-- ---- the two cases of a new chunk's entry

zeroed_at : (xs : List ℕ) (p r : ℕ) → r ≡ 0 → elim r [ zero ↦ put xs p (zeros 3328) | suc r ↦ xs ] ≡ put xs p (zeros 3328)
zeroed_at xs p zero e = refl
zeroed_at xs p (suc r) e = absurd (not_zero r e)
  where
    not_zero : (r : ℕ) → suc r ≡ 0 → ⊥
    not_zero r e = omega arith

kept_at : (xs : List ℕ) (p r : ℕ) → (r ≡ 0 → ⊥) → elim r [ zero ↦ put xs p (zeros 3328) | suc r ↦ xs ] ≡ xs
kept_at xs p zero e = absurd (e refl)
kept_at xs p (suc r) e = refl

pub zeroed_new : (xs : List ℕ) (n : ℕ) → n % 8192 ≡ 0 → zeroed_if_new xs n ≡ put xs (bits_place (n / 8192)) (zeros 3328)
unfolding zeroed_if_new
zeroed_new xs n e = zeroed_at xs (bits_place (n / 8192)) (n % 8192) e

pub zeroed_old : (xs : List ℕ) (n : ℕ) → (n % 8192 ≡ 0 → ⊥) → zeroed_if_new xs n ≡ xs
unfolding zeroed_if_new
zeroed_old xs n e = kept_at xs (bits_place (n / 8192)) (n % 8192) e

pub zeroed_there : (xs : List ℕ) (n at : ℕ) → n % 8192 ≡ 0 → at ≡ bits_place (n / 8192) → put xs at (zeros 3328) ≡ zeroed_if_new xs n
zeroed_there xs n at e p = ap (λ (x : ℕ). put xs x (zeros 3328)) p ∙ sym (zeroed_new xs n e)

-- ---- the tree bits one after the other

set_tree_bits_append : (xs : List ℕ) (is js : List ℕ) → set_tree_bits xs (is ++ js) ≡ set_tree_bits (set_tree_bits xs is) js
unfolding set_tree_bits
set_tree_bits_append xs [] js = refl
set_tree_bits_append xs (i ∷ is) js = set_tree_bits_append (set_tree_bit xs i) is js

-- the first d of the nodes that chunk n fills
unfoldable pub filled_first : ℕ → ℕ → List ℕ
filled_first n d = run (λ h. index h ((n + 1) / 2 ^ h - 1)) 0 d

one_bit : (xs : List ℕ) (i : ℕ) → set_tree_bits xs (i ∷ []) ≡ set_tree_bit xs i
unfolding set_tree_bits
one_bit xs i = refl

pub no_bits : (xs : List ℕ) (n : ℕ) → xs ≡ set_tree_bits xs (filled_first n 0)
unfolding set_tree_bits filled_first run
no_bits xs n = refl

pub next_bit : (xs : List ℕ) (n d : ℕ) → set_tree_bit (set_tree_bits xs (filled_first n d)) (index d ((n + 1) / 2 ^ d - 1)) ≡ set_tree_bits xs (filled_first n (d + 1))
unfolding filled_first
next_bit xs n d =
    let f : ℕ → ℕ = λ h. index h ((n + 1) / 2 ^ h - 1) in
    ap (set_tree_bit (set_tree_bits xs (run f 0 d))) (ap f (sym (zero-add d))) ∙ sym (one_bit (set_tree_bits xs (run f 0 d)) (f (0 + d)))
    ∙ sym (set_tree_bits_append xs (run f 0 d) (f (0 + d) ∷ []))
    ∙ ap (set_tree_bits xs) (sym (run_suc f 0 d) ∙ ap (run f 0) (sym (add-one d)))

all_nodes : (n : ℕ) → filled_first n (completed n + 1) ≡ filled_by n
unfolding filled_first filled_by
all_nodes n = refl

pub all_bits : (xs : List ℕ) (n d : ℕ) → d ≡ completed n → set_tree_bits xs (filled_first n (d + 1)) ≡ set_tree_bits xs (filled_by n)
all_bits xs n d e = ap (λ (k : ℕ). set_tree_bits xs (filled_first n (k + 1))) e ∙ ap (set_tree_bits xs) (all_nodes n)

-- ---- the bits of a file that holds the entries of n chunks

-- tree indexes whose bits lie in the first k entries
unfoldable pub Under : ℕ → List ℕ → Type 0
Under k [] = Unit {0}
Under k (i ∷ is) = (i / 16384 < k) × Under k is

under_run : (k : ℕ) (f : ℕ → ℕ) (i c : ℕ) → ((d : ℕ) → i ≤ d → d < i + c → f d / 16384 < k) → Under k (run f i c)
unfolding Under run
under_run k f i zero h = tt
under_run k f i (suc c) h = (h i (le_refl i) (omega arith), under_run k f (suc i) c (λ d a b. h d (omega arith) (omega arith)))

under_filled : (n : ℕ) → n + 1 < 2 ^ 64 → Under (n / 8192 + 1) (filled_by n)
unfolding filled_by
under_filled n small =
    under_run (n / 8192 + 1) (λ d. index d ((n + 1) / 2 ^ d - 1)) 0 (completed n + 1)
    (λ d a b. omega (arith, filled_place n d small (omega arith), width_le n d small (omega arith), pow_pos d))

-- a test, or one of the numbers is
abbrev pub or_among : (ℕ → Bool) → List ℕ → ℕ → Bool
or_among p is j = p j || among j is

or_none : (b : Bool) → b ≡ (b || false)
or_none true = refl
or_none false = refl

or_assoc : (a b c : Bool) → ((a || b) || c) ≡ (a || (b || c))
or_assoc true b c = refl
or_assoc false b c = refl

module _ (held : ℕ → Bool) (ix : ℕ → List ℕ) (long : (j : ℕ) → length (ix j) ≡ 256) (head tail : List ℕ) (front : length head ≡ 32) (k : ℕ) where
  -- the file with these entries
  file : (ℕ → Bool) → List ℕ
  file known = head ++ (joined (run (entry_with held known ix) 0 k) ++ tail)

  file_ext : (p q : ℕ → Bool) → ((j : ℕ) → p j ≡ q j) → file p ≡ file q
  unfolding file
  file_ext p q h = ap (λ (r : List (List ℕ)). head ++ (joined r ++ tail)) (run_ext (entry_with held p ix) (entry_with held q ix) 0 k (λ j a b. known_ext held p q ix h j))

  tree_bit : (known : ℕ → Bool) (i : ℕ) → i / 16384 < k → set_tree_bit (file known) i ≡ file (with_one_lem known i)
  unfolding set_tree_bit bits_place file
  tree_bit known i h =
      let e : 32 + 3328 * (i / 16384) + 1024 ≡ 32 + (i / 16384 * 3328 + 1024) = omega arith in
      ap (λ (p : ℕ). set_bit (file known) p (i % 16384)) e ∙ tree_file with_digit with_one_lem sets held known ix long head tail front k i h

  tree_bits_lem : (known : ℕ → Bool) (is : List ℕ) → Under k is → set_tree_bits (file known) is ≡ file (or_among known is)
  unfolding set_tree_bits Under among
  tree_bits_lem known [] u = file_ext known (or_among known []) (λ j. or_none (known j))
  tree_bits_lem known (i ∷ is) u =
      ap (λ (l : List ℕ). set_tree_bits l is) (tree_bit known i u.0) ∙ tree_bits_lem (with_one_lem known i) is u.1
      ∙ file_ext (or_among (with_one_lem known i) is) (or_among known (i ∷ is)) (λ j. or_assoc (known j) (eqb j i) (among j is))

-- all of n chunks and one more
pub held_next : (n j : ℕ) → with_one_lem (held_below n) n j ≡ held_below (n + 1) j
held_next n j =
    ⊎_elim
    (λ e. ap (λ (b : Bool). b || eqb j n) e ∙ sym (lt-ltb j (n + 1) (omega (arith, ltb-true j n e))))
    (λ e. ap (λ (b : Bool). b || eqb j n) e ∙ last (ltb-false j n e))
    (cases (ltb j n))
  where
    last : n ≤ j → eqb j n ≡ ltb j (n + 1)
    last l =
        ⊎_elim
        (λ z. z ∙ sym (lt-ltb j (n + 1) (omega (arith, eqb-true j n z))))
        (λ z. z ∙ sym (le-ltb j (n + 1) (omega (arith, lt_of_le-ne l (λ q. eqb-false j n z (sym q))))))
        (cases (eqb j n))

-- ---- an append to the image of n chunks gives the image of n + 1

entries_before : (n : ℕ) → (n % 8192 ≡ 0 → ⊥) → entry_count n ≡ n / 8192 + 1
unfolding entry_count
entries_before n h = omega (arith, pos_of_ne-zero h)

entries_new : (n : ℕ) → n % 8192 ≡ 0 → entry_count n ≡ n / 8192
unfolding entry_count
entries_new n h = omega arith

pub entries_after : (n : ℕ) → entry_count (n + 1) ≡ n / 8192 + 1
unfolding entry_count
entries_after n = omega arith

-- the entries of n chunks, of which there are c
pub entries_run : (held : ℕ → Bool) (n c : ℕ) → entry_count n ≡ c → entries_of held n ≡ joined (run (entry held (filled n)) 0 c)
unfolding entries_for
entries_run held n c e = ap (λ (t : ℕ). joined (run (entry held (filled n)) 0 t)) e

-- of tests that agree
pub entries_ext : (p q : ℕ → Bool) (n : ℕ) → ((j : ℕ) → p j ≡ q j) → entries_of p n ≡ entries_of q n
unfolding entries_for
entries_ext p q n h =
    ap joined (run_ext (entry p (filled n)) (entry q (filled n)) 0 (entry_count n) (λ e a b. entry_ext p q (filled n) (filled n) h (λ j. refl) e))

-- a place right behind a part
put_next : (xs zs ys : List ℕ) (a b c : ℕ) → part xs a b ≡ ys → length zs ≡ c → put xs (a + b) zs ≡ take a xs ++ ((ys ++ zs) ++ drop (a + (b + c)) xs)
unfolding put part
put_next xs zs ys a b c p l =
    ap (λ (r : List ℕ). r ++ (zs ++ drop (a + b + length zs) xs)) (take-add a b xs ∙ ap (λ (r : List ℕ). take a xs ++ r) p)
    ∙ ap (λ (t : ℕ). take a xs ++ ys ++ (zs ++ drop t xs)) (ap (λ (t : ℕ). a + b + t) l ∙ add_assoc a b c)
    ∙ simp append_assoc

-- no chunk from n on is held
abbrev pub NoneFrom : (ℕ → Bool) → ℕ → Type 0
NoneFrom held n = (j : ℕ) → n ≤ j → held j ≡ false

pub none_below : (n : ℕ) → NoneFrom (held_below n) n
none_below n j h = le-ltb j n h

new_entry : (held : ℕ → Bool) (n : ℕ) → NoneFrom held n → n % 8192 ≡ 0 → entry held (filled n) (n / 8192) ≡ zeros 3328
new_entry held n none e = zero_entry held (filled n) (n / 8192) (λ j h. none j (omega arith)) (λ j h. filled_above n j (omega arith))

pub ix_ext : (held known : ℕ → Bool) (ix iy : ℕ → List ℕ) (j : ℕ) → ix j ≡ iy j → entry_with held known ix j ≡ entry_with held known iy j
unfolding entry_with
ix_ext held known ix iy j e = ap (λ (r : List ℕ). data_bytes held j ++ (tree_bytes known j ++ r)) e

module _ (xs : List ℕ) (was : ℕ → Bool) (n : ℕ) (none : NoneFrom was n) (few : n < 1048576) (room : bits_place (n / 8192 + 1) ≤ length xs)
    (image : part xs 32 (3328 * entry_count n) ≡ entries_of was n) where
  abbrev k : ℕ
  k = n / 8192 + 1

  abbrev ix : ℕ → List ℕ
  ix j = index_bytes (data_bytes was j)

  abbrev tail : List ℕ
  tail = drop (32 + 3328 * k) xs

  abbrev before : ℕ → List ℕ
  before = entry was (filled n)

  -- the part of the entries of n chunks, of which there are c
  part_run : (c : ℕ) → entry_count n ≡ c → part xs 32 (3328 * c) ≡ joined (run before 0 c)
  part_run c e = ap (λ (t : ℕ). part xs 32 (3328 * t)) (sym e) ∙ image ∙ entries_run was n c e

  opened_old : (n % 8192 ≡ 0 → ⊥) → zeroed_if_new xs n ≡ take 32 xs ++ (joined (run before 0 k) ++ tail)
  opened_old e =
      zeroed_old xs n e ∙ sym (around xs 32 (3328 * k))
      ∙ ap (λ (r : List ℕ). take 32 xs ++ (r ++ tail)) (part_run k (entries_before n e))

  opened_new : n % 8192 ≡ 0 → zeroed_if_new xs n ≡ take 32 xs ++ (joined (run before 0 k) ++ tail)
  unfolding bits_place
  opened_new e =
      let q : ℕ = n / 8192 in
      zeroed_new xs n e
      ∙ put_next xs (zeros 3328) (joined (run before 0 q)) 32 (3328 * q) 3328 (part_run q (entries_new n e)) (length-replicate {A = ℕ} 3328 0)
      ∙ ap (λ (r : List ℕ). take 32 xs ++ ((joined (run before 0 q) ++ r) ++ drop (32 + (3328 * q + 3328)) xs)) (sym (new_entry was n none e) ∙ ap before (sym (zero-add q)))
      ∙ ap (λ (r : List ℕ). take 32 xs ++ (r ++ drop (32 + (3328 * q + 3328)) xs)) (sym (joined_run_suc before 0 q) ∙ ap (λ (t : ℕ). joined (run before 0 t)) (sym (add-one q)))
      ∙ ap (λ (t : ℕ). take 32 xs ++ (joined (run before 0 k) ++ drop (32 + t) xs)) (places q)
    where
      places : (q : ℕ) → 3328 * q + 3328 ≡ 3328 * (q + 1)
      places q = omega arith

  front : length (take 32 xs) ≡ 32
  unfolding bits_place
  front = length-take-le 32 xs (omega arith)

  -- the entry of the new chunk is there, with the bits of n chunks
  opened : zeroed_if_new xs n ≡ file was ix (λ j. length_index (data_bytes was j)) (take 32 xs) tail front k (filled n)
  unfolding file
  opened =
      ⊎_elim opened_new opened_old (same_or (n % 8192) 0)
      ∙ ap (λ (r : List (List ℕ)). take 32 xs ++ (joined r ++ tail)) (run_ext before (entry_with was (filled n) ix) 0 k (λ j a b. entry_is was (filled n) j))

  abbrev held : ℕ → Bool
  held = with_one_lem was n

  abbrev known : ℕ → Bool
  known = or_among (filled n) (filled_by n)

  long : (j : ℕ) → length (ix j) ≡ 256
  long j = length_index (data_bytes was j)

  data_set : set_data_bit (zeroed_if_new xs n) n ≡ file held ix long (take 32 xs) tail front k (filled n)
  unfolding set_data_bit bits_place file
  data_set =
      let e : 32 + 3328 * (n / 8192) ≡ 32 + (n / 8192 * 3328 + 0) = omega arith in
      ap (λ (l : List ℕ). set_bit l (32 + 3328 * (n / 8192)) (n % 8192)) opened
      ∙ ap (λ (p : ℕ). set_bit (take 32 xs ++ (joined (run (entry_with was (filled n) ix) 0 k) ++ tail)) p (n % 8192)) e
      ∙ data_file with_digit with_one_lem sets was (filled n) ix long (take 32 xs) tail front k n (omega arith)

  bits_set : set_tree_bits (set_data_bit (zeroed_if_new xs n) n) (filled_by n) ≡ file held ix long (take 32 xs) tail front k known
  bits_set =
      ap (λ (l : List ℕ). set_tree_bits l (filled_by n)) data_set
      ∙ tree_bits_lem held ix long (take 32 xs) tail front k (filled n) (filled_by n) (under_filled n (omega arith))

  regenerated_is : (g : ℕ → List ℕ) → entry held known (n / 8192) ≡ g (n / 8192) → ((j : ℕ) → (j ≡ n / 8192 → ⊥) → entry_with held known ix j ≡ g j)
      → regenerated (file held ix long (take 32 xs) tail front k known) (n / 8192) ≡ take 32 xs ++ (joined (run g 0 k) ++ tail)
  unfolding regenerated bits_place file
  regenerated_is g here other =
      let q : ℕ = n / 8192 in
      let e : 32 + 3328 * q + 3072 ≡ 32 + (q * 3328 + 3072) = omega arith in
      let f : 32 + 3328 * q ≡ 32 + q * 3328 = omega arith in
      let l : List ℕ = take 32 xs ++ (joined (run (entry_with held known ix) 0 k) ++ tail) in
      ap (λ (p : ℕ). put l p (index_bytes (part l (32 + 3328 * q) 1024))) e
      ∙ ap (λ (p : ℕ). put l (32 + (q * 3328 + 3072)) (index_bytes (part l p 1024))) f
      ∙ index_file held known ix long (take 32 xs) tail front k q (omega arith) g here other

  entry_next : (j : ℕ) → entry held known j ≡ entry held (filled (n + 1)) j
  entry_next j = entry_ext held held known (filled (n + 1)) (λ i. refl) (λ i. sym (filled_suc n i (omega arith))) j

  other_next : (j : ℕ) → (j ≡ n / 8192 → ⊥) → entry_with held known ix j ≡ entry held (filled (n + 1)) j
  other_next j h =
      ix_ext held known ix (λ i. index_bytes (data_bytes held i)) j (ap index_bytes (data_other with_digit with_one_lem sets was n j h))
      ∙ sym (entry_is held known j) ∙ entry_next j

  appended_run : appended xs n ≡ take 32 xs ++ (joined (run (entry held (filled (n + 1))) 0 k) ++ tail)
  unfolding appended with_bits
  appended_run =
      ap (λ (l : List ℕ). regenerated l (n / 8192)) bits_set
      ∙ regenerated_is (entry held (filled (n + 1))) (entry_next (n / 8192)) other_next

  -- the file after the append: what it was, with the entries of n + 1 chunks behind its header
  pub appended_image : appended xs n ≡ put xs 32 (entries_of (with_one_lem was n) (n + 1))
  unfolding put
  appended_image =
      let c : entry_count (n + 1) ≡ k = entries_after n in
      let l : length (entries_of held (n + 1)) ≡ 3328 * k = length_entries held (n + 1) ∙ ap (λ (t : ℕ). 3328 * t) c in
      appended_run ∙ ap (λ (r : List ℕ). take 32 xs ++ (r ++ tail)) (sym (entries_run held (n + 1) k c))
      ∙ ap (λ (t : ℕ). take 32 xs ++ (entries_of held (n + 1) ++ drop (32 + t) xs)) (sym l)
