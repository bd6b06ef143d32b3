-- An append to any tree file: its length and its header stay, it holds bytes, and the lengths of its roots add up to those of the roots before and
-- the chunk's. Over any F that makes hashes of 32 bytes there. Assumes nothing.
use Prim.Native.Nat.{ℕ, ◌+◌, ◌-◌, ◌/◌, ◌^◌, ◌≤◌, ◌<◌}
use mathlib.Core.Path.{◌≡◌, refl, sym, ap, ◌∙◌, subst}
use mathlib.Core.Bool.{Bool, true, false}
use mathlib.Core.List.{List, [], ◌∷◌, map, map-append}
use native.Mathlib.Nat.{le_refl}
use native.Mathlib.Omega.{arith}
use lib.ListN.{length, get_or, take}
use Rattle.byte_strings.specs.Lists.{part, among, total, Bytes}
use Rattle.byte_strings.specs.Numbers.{be, number}
use Rattle.byte_strings.proofs.Lists.{part_part, total_append, bytes_append}
use Rattle.byte_strings.proofs.Numbers.{bytes_be}
use Rattle.tree_index.specs.Tree.{index, depth, filled, completed, filled_by, roots}
use Rattle.tree_index.proofs.Index.{depth_index}
use Rattle.tree_index.proofs.Filled.{filled_below}
use Rattle.tree_index.proofs.Appended.{newly_hole, filled_by_at, filled_by_in}
use Rattle.tree_index.proofs.Roots.{Carried, carried}
use Rattle.file_format.specs.Sizes.{most_chunks, entry_place, used_tree}
use Rattle.file_format.specs.Entries.{Entry, entry_bytes, leaf}
use Rattle.file_format.specs.Stored.{stored_size, stored_root_sizes}
use Rattle.file_format.proofs.Nodes.{entry_bytes_length}
use Rattle.file_format.proofs.OfImage.{entry_size_lem}
use Rattle.file_format.proofs.Spans.{map_ext}
use Rattle.writing.specs.Append.{with_hole, appended_tree}
use Rattle.writing.specs.Inner.{made}
use Rattle.writing.proofs.Made.{new_made}
use Rattle.writing.proofs.Climbed.{top_size, kept_filled}
use Rattle.writing.proofs.Tree.{never, tree_entries_lem, tree_length_lem, tree_front, tree_new, tree_old}
use Rattle.writing.proofs.Lent.{with_bytes, hole_bytes}

-- what is filled before is not filled anew
old_kept : (n i : ℕ) → n < most_chunks → filled n i ≡ true → among i (filled_by n) ≡ false
old_kept n i few f = split (among i (filled_by n)) refl
  where
    split : (b : Bool) → among i (filled_by n) ≡ b → b ≡ false
    split true e =
        let a = filled_by_at n i e in
        absurd (never (filled n i) f (ap (filled n) a.2 ∙ newly_hole n a.0 (omega arith) a.1))
    split false e = refl

-- a length follows from the entry's bytes
same_size : (t u : List ℕ) (i : ℕ) → part t (entry_place i) 40 ≡ part u (entry_place i) 40 → stored_size t i ≡ stored_size u i
unfolding stored_size
same_size t u i e =
    ap number
    (sym (part_part t (entry_place i) 40 32 8 (omega arith)) ∙ ap (λ (l : List ℕ). part l 32 8) e ∙ part_part u (entry_place i) 40 32 8 (omega arith))

module _ (F : List ℕ → List ℕ) (t : List ℕ) (n : ℕ) (c : List ℕ)
    (sound : (d : ℕ) → (length (made F t n (leaf F c) d).hash ≡ 32) × Bytes (made F t n (leaf F c) d).hash) where
  abbrev entry : ℕ → Entry
  entry i = made F t n (leaf F c) (depth i)

  long : (i : ℕ) → length (entry_bytes (entry i)) ≡ 40
  long i = entry_bytes_length (entry i) (sound (depth i)).0

  module _ (few : n < most_chunks) (room : used_tree (n + 1) ≤ length t) where
    pub grown : length (appended_tree F t n c) ≡ length t
    grown = tree_length_lem F t n c entry long (new_made F t n c) few room

    pub headed : take 32 (appended_tree F t n c) ≡ take 32 t
    headed = tree_front F t n c entry long (new_made F t n c) few room

    pub holds_bytes : Bytes t → Bytes (appended_tree F t n c)
    unfolding entry_bytes
    holds_bytes p =
        subst Bytes (sym (tree_entries_lem F t n c entry long (new_made F t n c) few room))
        (with_bytes entry (λ i. bytes_append (entry i).hash (be 8 (entry i).size) (sound (depth i)).1 (bytes_be 8 (entry i).size)) (with_hole t n) (filled_by n)
        (hole_bytes t n p))

    abbrev after : List ℕ
    after = appended_tree F t n c

    -- a root that stays
    kept_size : (r : Carried n) (j : ℕ) → j < length r.kept → stored_size after (get_or r.kept j 0) ≡ stored_size t (get_or r.kept j 0)
    kept_size r j l =
        let i : ℕ = get_or r.kept j 0 in
        let f : filled n i ≡ true = kept_filled n r j l in
        same_size after t i (tree_old F t n c entry long (new_made F t n c) few room i (old_kept n i few f) (filled_below n i f))

    abbrev z : ℕ
    z = completed n

    abbrev top : ℕ
    top = index z ((n + 1) / 2 ^ z - 1)

    -- the root that comes
    new_size : (made F t n (leaf F c) z).size < 2 ^ 64 → stored_size after top ≡ (made F t n (leaf F c) z).size
    new_size fits =
        let d : depth top ≡ z = depth_index z ((n + 1) / 2 ^ z - 1) in
        entry_size_lem after top (made F t n (leaf F c) z) (record { long = (sound z).0; bytes = (sound z).1; fits = fits })
        (tree_new F t n c entry long (new_made F t n c) few room top (filled_by_in n z (le_refl z)) ∙ ap (λ (x : ℕ). entry_bytes (made F t n (leaf F c) x)) d)

    pub roots_add : total (stored_root_sizes t n) + length c < 2 ^ 64 → total (stored_root_sizes after (n + 1)) ≡ total (stored_root_sizes t n) + length c
    unfolding stored_root_sizes total leaf
    roots_add fits =
        let r : Carried n = carried n few in
        let s = top_size F t n (leaf F c) r in
        let same : map (stored_size after) r.kept ≡ map (stored_size t) r.kept = map_ext (stored_size after) (stored_size t) r.kept (kept_size r) in
        let last : stored_size after top ≡ (made F t n (leaf F c) z).size = new_size (omega (arith, s)) in
        let all : total (map (stored_size after) (roots (n + 1))) ≡ total (map (stored_size after) r.kept) + (stored_size after top + 0) =
        ap (λ (l : List ℕ). total (map (stored_size after) l)) r.after
        ∙ ap total (map-append (stored_size after) r.kept (top ∷ []))
        ∙ total_append (map (stored_size after) r.kept) (stored_size after top ∷ [])
        in
        omega (arith, all, ap total same, last, s)
