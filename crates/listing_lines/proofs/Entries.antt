-- The lines as the stored tree gives them.
-- Assumes nothing.
use Prim.Native.Nat.{ℕ, zero, suc, ◌+◌, ◌-◌, ◌*◌, ◌^◌, ◌%◌, ◌≤◌, ◌<◌}
use mathlib.Core.Path.{◌≡◌, refl, sym, ap, ap₂, ◌∙◌}
use mathlib.Core.Bool.{Bool, true, false}
use mathlib.Core.List.{List, [], ◌∷◌, ◌++◌, map, map-append}
use native.Mathlib.Nat.{mod-eq_of_lt, zero-add, add-zero}
use native.Mathlib.Numerals.{add-one}
use native.Mathlib.Omega.{arith}
use lib.ListN.{length, take, get_or}
use lib.Seq.{take-suc, take_all}
use lib.Pow.{pow_pos}
use Rattle.byte_strings.specs.Lists.{run, joined, total}
use Rattle.byte_strings.proofs.Lists.{run_add, total_append}
use Rattle.tree_index.specs.Tree.{depth, block, filled, roots, entries}
use Rattle.tree_index.proofs.Index.{index_of}
use Rattle.tree_index.proofs.Filled.{block_end, filled_end}
use Rattle.tree_index.proofs.Words.{end_below}
use Rattle.tree_index.proofs.Roots.{length_roots_le}
use Rattle.writing.proofs.Written.{joined_snoc}
use Rattle.file_format.specs.Sizes.{entry_place}
use Rattle.file_format.specs.Stored.{stored_size, stored_start}
use Rattle.file_format.specs.Inner.{EntryIn}
use Rattle.listing_lines.specs.Lines.{decimal, line, leaf_word, parent_word, hole_word, kind_word, first_under}
use Rattle.listing_lines.specs.Inner.{Put, Printable, stored_line, stored_entries, roots_of}
use Rattle.listing_lines.proofs.Put.{nothing_put, both_put, wider_put, same_put}

-- the first j roots of the first line
unfoldable pub roots_up_to : ℕ → ℕ → List ℕ
roots_up_to n j = joined (map (λ i. 32 ∷ decimal i) (take j (roots n)))

run_one : (f : ℕ → List ℕ) (i : ℕ) → run f (0 + i) 1 ≡ f i ∷ []
unfolding run
run_one f i = ap (λ (k : ℕ). f k ∷ []) (zero-add i)

pub most : (n i : ℕ) → n ≤ 64 → i ≤ entries n → i ≤ 127
unfolding entries
most n i h l = omega arith

-- the first chunk under an index, as a word
pub first_word : (i d k : ℕ) → i < 127 → d ≡ depth i → k ≡ block i → k * 2 ^ d % 2 ^ 64 ≡ first_under i
unfolding first_under
first_word i d k h e f =
    ap₂ (λ (x y : ℕ). y * 2 ^ x % 2 ^ 64) e f ∙ mod-eq_of_lt (omega (arith, end_below i, block_end (depth i) (block i)))

pub start_none : (tree : List ℕ) → 0 ≡ stored_start tree 0
unfolding stored_start run total
start_none tree = refl

one_run : (f : ℕ → ℕ) (a : ℕ) → total (run f a 1) ≡ f a
unfolding run total
one_run f a = add-zero (f a)

pub start_more : (tree : List ℕ) (j sum size : ℕ) → sum ≡ stored_start tree j → size ≡ stored_size tree (2 * j) → sum + size ≡ stored_start tree (j + 1)
unfolding stored_start
start_more tree j sum size e f =
    ap₂ ◌+◌ e (f ∙ ap (λ (x : ℕ). stored_size tree (2 * x)) (sym (zero-add j)))
    ∙ sym (ap total (run_add (λ k. stored_size tree (2 * k)) 0 j 1)
    ∙ total_append (run (λ k. stored_size tree (2 * k)) 0 j) (run (λ k. stored_size tree (2 * k)) (0 + j) 1)
    ∙ ap (λ (x : ℕ). total (run (λ k. stored_size tree (2 * k)) 0 j) + x) (one_run (λ k. stored_size tree (2 * k)) (0 + j)))

-- the entries of n chunks lie within the tree file
pub entry_in_lem : (tree : List ℕ) (i : ℕ) → i < 127 → 5120 ≤ length tree → EntryIn tree i
unfolding entry_place
entry_in_lem tree i h l = record { small = omega arith; inside = omega arith }

-- ---- an entry's line

-- the first chunk under a filled index is one of the n
pub first_le : (n i : ℕ) → filled n i ≡ true → first_under i ≤ n
unfolding first_under
first_le n i h =
    omega (arith, block_end (depth i) (block i), filled_end n (depth i) (block i) (ap (filled n) (index_of i) ∙ h), pow_pos (depth i))

pub line_hole : (tree : List ℕ) (n i : ℕ) → filled n i ≡ false → line i hole_word 0 0 ≡ stored_line tree n i
unfolding stored_line
line_hole tree n i h = sym (ap (λ (b : Bool). elim b [ true ↦ line i (kind_word i) (stored_start tree (first_under i)) (stored_size tree i) | false ↦ line i hole_word 0 0 ]) h)

abbrev kind_by : ℕ → List ℕ
kind_by d = elim d [ zero ↦ leaf_word | suc d ↦ parent_word ]

line_filled : (tree : List ℕ) (n i start len : ℕ) (word : List ℕ) → filled n i ≡ true → kind_word i ≡ word → start ≡ stored_start tree (first_under i)
    → len ≡ stored_size tree i → line i word start len ≡ stored_line tree n i
unfolding stored_line
line_filled tree n i start len word h w e f =
    (λ t. line i (sym w t) (e t) (f t))
    ∙ sym (ap (λ (b : Bool). elim b [ true ↦ line i (kind_word i) (stored_start tree (first_under i)) (stored_size tree i) | false ↦ line i hole_word 0 0 ]) h)

pub line_leaf : (tree : List ℕ) (n i start len : ℕ) → filled n i ≡ true → depth i ≡ 0 → start ≡ stored_start tree (first_under i)
    → len ≡ stored_size tree i → line i leaf_word start len ≡ stored_line tree n i
unfolding kind_word
line_leaf tree n i start len h d e f = line_filled tree n i start len leaf_word h (ap kind_by d) e f

pub line_parent : (tree : List ℕ) (n i start len : ℕ) → filled n i ≡ true → (depth i ≡ 0 → ⊥) → start ≡ stored_start tree (first_under i)
    → len ≡ stored_size tree i → line i parent_word start len ≡ stored_line tree n i
unfolding kind_word
line_parent tree n i start len h d e f = line_filled tree n i start len parent_word h (deeper (depth i) d) e f
  where
    deeper : (x : ℕ) → (x ≡ 0 → ⊥) → kind_by x ≡ parent_word
    deeper zero g = absurd (g refl)
    deeper (suc x) g = refl

-- an entry's index is small
pub entry_small : (n i : ℕ) → n ≤ 64 → i < entries n → i < 127
unfolding entries
entry_small n i h l = omega arith

-- fewer chunks can be printed too
pub fewer_printable : {tree : List ℕ} {n : ℕ} (k : ℕ) → k ≤ n → Printable tree n → Printable tree k
fewer_printable k h p = record { few = omega (arith, p.few); room = p.room; small = λ j l. p.small j (omega arith) }

-- ---- the lines of all entries

pub entries_none : (f : ℕ → List ℕ) (xs : List ℕ) (at : ℕ) → Put xs at (70 * 0) (joined (run f 0 0)) at xs
unfolding joined run
entries_none f xs at = nothing_put xs at 0

pub entries_more : {xs ys zs : List ℕ} {at r s : ℕ} (f : ℕ → List ℕ) (i : ℕ) → Put xs at (70 * i) (joined (run f 0 i)) r ys → Put ys r 70 (f i) s zs
    → Put xs at (70 * (i + 1)) (joined (run f 0 (i + 1))) s zs
entries_more f i p q =
    same_put
    (sym (ap joined (run_add f 0 i 1 ∙ ap (λ (t : List (List ℕ)). run f 0 i ++ t) (run_one f i)) ∙ joined_snoc (run f 0 i) (f i)))
    (wider_put (70 * (i + 1)) (omega arith) (both_put p q))

pub entries_all : {xs ys : List ℕ} {at r : ℕ} (tree : List ℕ) (n i : ℕ) → n ≤ 64 → i ≡ entries n
    → Put xs at (70 * i) (joined (run (stored_line tree n) 0 i)) r ys → Put xs at 8890 (stored_entries tree n) r ys
unfolding stored_entries
entries_all tree n i h e p =
    same_put (ap (λ (k : ℕ). joined (run (stored_line tree n) 0 k)) e) (wider_put 8890 (omega (arith, most n i h (omega arith))) p)

-- ---- the roots

pub roots_none : (n : ℕ) (xs : List ℕ) (at : ℕ) → Put xs at (21 * 0) (roots_up_to n 0) at xs
unfolding joined roots_up_to
roots_none n xs at = nothing_put xs at 0

pub roots_more : {xs ys zs us : List ℕ} {at r s t i : ℕ} (n j : ℕ) → (j < length (roots n)) × (i ≡ get_or (roots n) j 0)
    → Put xs at (21 * j) (roots_up_to n j) r ys → Put ys r 1 (32 ∷ []) s zs → Put zs s 20 (decimal i) t us
    → Put xs at (21 * (j + 1)) (roots_up_to n (j + 1)) t us
unfolding roots_up_to
roots_more n j a p q s =
    same_put
    (ap (λ (x : ℕ). roots_up_to n j ++ (32 ∷ decimal x)) a.1
    ∙ sym (ap (λ (k : ℕ). joined (map (λ i. 32 ∷ decimal i) (take k (roots n)))) (add-one j)
    ∙ ap (λ (k : List ℕ). joined (map (λ i. 32 ∷ decimal i) k)) (take-suc (roots n) j 0 a.0)
    ∙ ap joined (map-append (λ i. 32 ∷ decimal i) (take j (roots n)) (get_or (roots n) j 0 ∷ []))
    ∙ joined_snoc (map (λ i. 32 ∷ decimal i) (take j (roots n))) (32 ∷ decimal (get_or (roots n) j 0))))
    (wider_put (21 * (j + 1)) (omega arith) (both_put p (both_put q s)))

pub roots_all : {xs ys : List ℕ} {at r : ℕ} (n j : ℕ) → n ≤ 64 → j ≡ length (roots n)
    → Put xs at (21 * j) (roots_up_to n j) r ys → Put xs at 420 (roots_of n) r ys
unfolding roots_up_to roots_of
roots_all n j h g p =
    same_put (ap (λ (k : List ℕ). joined (map (λ i. 32 ∷ decimal i) k)) (take_all j (roots n) (omega arith)))
    (wider_put 420 (omega (arith, length_roots_le n (omega arith))) p)
