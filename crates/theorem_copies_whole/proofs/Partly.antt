-- What a copy of a sequence has: the sequence's entries where it knows them, zeros elsewhere, and the sequence's chunks where it holds them.
-- Assumes nothing.
use Prim.Native.Nat.{ℕ, ◌/◌, ◌≤◌, ◌<◌}
use mathlib.Core.Path.{◌≡◌, sym, ap, ◌∙◌}
use mathlib.Core.Bool.{Bool, true, false}
use mathlib.Core.List.{List, []}
use native.Mathlib.Omega.{arith}
use lib.ListN.{length, get_or, take}
use Rattle.byte_strings.specs.Lists.{part, zeros}
use Rattle.tree_index.specs.Tree.{filled, entries}
use Rattle.bitfield.specs.Image.{entry_count}
use Rattle.bitfield.specs.Release.{stored_held}
use Rattle.bitfield.specs.Known.{stored_known}
use Rattle.file_format.specs.Headers.{tree_header}
use Rattle.file_format.specs.Sizes.{entry_place, used_tree}
use Rattle.file_format.specs.Entries.{Entry, entry_bytes, node_at}
use Rattle.file_format.specs.Images.{leaves, data_size}
use Rattle.file_format.specs.Slots.{all_held}
use Rattle.file_format.proofs.Spans.{span}
use Rattle.copy_checks.specs.Copy.{Copy}
use Rattle.theorem_taking_laws.proofs.Ways.{way_index}
use Rattle.file_format.proofs.Shown.{shown, shown_held, shown_known}

-- the bit of a tree index of n chunks lies in the entries of n chunks
pub tree_bit_in : (n j : ℕ) → j < entries n → j / 16384 < entry_count n
unfolding entries entry_count
tree_bit_in n j h = omega arith

module _ (F : List ℕ → List ℕ) (cs : List (List ℕ)) where
  abbrev es : List Entry
  es = leaves F (all_held cs)

  pub record Partly (c : Copy) (has knows : ℕ → Bool) (tail : List ℕ) : Type 0 where
    pub count : c.n ≡ length cs
    pub total : c.size ≡ data_size cs
    pub front : take 32 c.tree ≡ tree_header
    pub nodes : used_tree c.n ≤ length c.tree
    pub bytes : c.size ≤ length c.content
    pub bits : c.bitfield ≡ shown has knows c.n tail
    pub known_only : (j : ℕ) → knows j ≡ true → filled c.n j ≡ true
    pub entry : (j : ℕ) → knows j ≡ true → part c.tree (entry_place j) 40 ≡ entry_bytes (node_at F es j)
    pub empty : (j : ℕ) → j < entries c.n → knows j ≡ false → part c.tree (entry_place j) 40 ≡ zeros 40
    pub has_only : (k : ℕ) → has k ≡ true → k < c.n
    pub chunk : (k : ℕ) → has k ≡ true → part c.content (span cs 0 k) (length (get_or cs k [])) ≡ get_or cs k []
    pub way : (k : ℕ) → has k ≡ true → (d : ℕ) → filled c.n (way_index k d) ≡ true → knows (way_index k d) ≡ true

-- ---- what its bits say

module _ {F : List ℕ → List ℕ} {cs : List (List ℕ)} {c : Copy} {has knows : ℕ → Bool} {tail : List ℕ} (q : Partly F cs c has knows tail) where
  pub stored : (k : ℕ) → k < c.n → stored_held c.bitfield k ≡ has k
  stored k l = ap (λ (x : List ℕ). stored_held x k) q.bits ∙ shown_held has knows c.n tail k l

  pub held_lies : (k : ℕ) → k < c.n → stored_held c.bitfield k ≡ true → part c.content (span cs 0 k) (length (get_or cs k [])) ≡ get_or cs k []
  held_lies k l e = q.chunk k (sym (stored k l) ∙ e)

  pub known_is : (j : ℕ) → j < entries c.n → stored_known c.bitfield j ≡ true → part c.tree (entry_place j) 40 ≡ entry_bytes (node_at F (leaves F (all_held cs)) j)
  known_is j l e =
      q.entry j (sym (ap (λ (x : List ℕ). stored_known x j) q.bits ∙ shown_known has knows c.n tail j (tree_bit_in c.n j l)) ∙ e)
