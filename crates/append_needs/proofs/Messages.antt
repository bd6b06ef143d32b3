-- How long the messages are, and so how many runs they take. Assumes nothing.
use Prim.Native.Nat.{ℕ, suc, ◌+◌, ◌*◌, ◌≤◌, ◌<◌}
use mathlib.Core.Path.{◌≡◌, refl, sym, ap, ◌∙◌}
use mathlib.Core.Bool.{true}
use mathlib.Core.List.{List, [], ◌∷◌, ◌++◌, map}
use native.Mathlib.Omega.{arith}
use lib.ListN.{length, get_or, length-append}
use Rattle.byte_strings.specs.Lists.{joined}
use Rattle.byte_strings.specs.Numbers.{be}
use Rattle.byte_strings.proofs.Lists.{length_part}
use Rattle.byte_strings.proofs.Numbers.{length_be}
use Rattle.tree_index.specs.Tree.{roots, filled}
use Rattle.tree_index.proofs.Filled.{filled_below}
use Rattle.tree_index.proofs.Roots.{root_filled}
use Rattle.blake2b.specs.Hash.{blocks}
use Rattle.blake2b.specs.Runs.{runs}
use Rattle.blake2b.proofs.Runs.{runs_of_the_hash}
use Rattle.file_format.specs.Sizes.{entry_place, used_tree}
use Rattle.file_format.specs.Messages.{leaf_message, parent_message, root_item, root_message}
use Rattle.file_format.specs.Stored.{stored_hash, stored_size, stored_root_message}
use Rattle.file_format.proofs.OfImage.{entry_inside}
use Rattle.file_format.proofs.ByValue.{item_length}
use Rattle.append_needs.specs.Needs.{leaf_runs, parent_runs, root_runs}

-- ---- a message of m bytes takes `blocks m` runs

runs_long : (d : List ℕ) (m : ℕ) → length d ≡ m → runs [] d ≡ blocks m
runs_long d m e = runs_of_the_hash.keyless d ∙ ap blocks e

-- ---- leaves

leaf_runs_lem : (c : List ℕ) → runs [] (leaf_message c) ≡ blocks (9 + length c)
unfolding leaf_message
leaf_runs_lem c =
    runs_long (leaf_message c) (9 + length c) (ap suc (length-append (be 8 (length c)) c) ∙ omega (arith, length_be 8 (length c)))

pub leaf_runs_blocks : (l : ℕ) → leaf_runs l ≡ blocks (9 + l)
unfolding leaf_runs
leaf_runs_blocks l = refl

pub leaf_runs_of : (c : List ℕ) → leaf_runs (length c) ≡ runs [] (leaf_message c)
leaf_runs_of c = leaf_runs_blocks (length c) ∙ sym (leaf_runs_lem c)

-- ---- parents

pub parent_runs_lem : (sum : ℕ) (l r : List ℕ) → length l ≡ 32 → length r ≡ 32 → runs [] (parent_message sum l r) ≡ 1
unfolding parent_message blocks
parent_runs_lem sum l r e f =
    runs_long (parent_message sum l r) 73
    (ap suc (length-append (be 8 sum) (l ++ r)) ∙ omega (arith, length-append l r, length_be 8 sum))

pub parent_runs_one : parent_runs ≡ 1
unfolding parent_runs blocks
parent_runs_one = refl

-- ---- the root hash

items_long : (f : ℕ → List ℕ) (is : List ℕ) → ((j : ℕ) → j < length is → length (f (get_or is j 0)) ≡ 48) → length (joined (map f is)) ≡ 48 * length is
unfolding joined
items_long f [] h = refl
items_long f (i ∷ is) h =
    length-append (f i) (joined (map f is)) ∙ omega (arith, h 0 (omega arith), items_long f is (λ j l. h (suc j) (omega arith)))

root_runs_lem : (f : ℕ → List ℕ) (g : ℕ → ℕ) (n : ℕ) → ((j : ℕ) → j < length (roots n) → length (f (get_or (roots n) j 0)) ≡ 32)
    → runs [] (root_message (map (λ i. root_item (f i) i (g i)) (roots n))) ≡ blocks (1 + 48 * length (roots n))
unfolding root_message
root_runs_lem f g n h =
    runs_long (2 ∷ joined (map (λ i. root_item (f i) i (g i)) (roots n))) (1 + 48 * length (roots n))
    (ap suc (items_long (λ i. root_item (f i) i (g i)) (roots n) (λ j l. item_length (f (get_or (roots n) j 0)) (get_or (roots n) j 0) (g (get_or (roots n) j 0)) (h j l)))
    ∙ omega arith)

pub root_runs_blocks : (n : ℕ) → root_runs n ≡ blocks (1 + 48 * length (roots n))
unfolding root_runs
root_runs_blocks n = refl

-- a hash stored at a filled index has 32 bytes
pub stored_long : (tree : List ℕ) (n i : ℕ) → used_tree n ≤ length tree → filled n i ≡ true → length (stored_hash tree i) ≡ 32
unfolding stored_hash
stored_long tree n i room h = length_part tree (entry_place i) 32 (omega (arith, entry_inside i n (filled_below n i h)))

pub root_runs_of : (tree : List ℕ) (n : ℕ) → used_tree n ≤ length tree → root_runs n ≡ runs [] (stored_root_message tree n)
unfolding stored_root_message
root_runs_of tree n room =
    root_runs_blocks n
    ∙ sym (root_runs_lem (stored_hash tree) (stored_size tree) n (λ j l. stored_long tree n (get_or (roots n) j 0) room (root_filled n j l)))
