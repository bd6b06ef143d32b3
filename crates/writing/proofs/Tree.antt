-- The tree file after an append is the image of the chunk sequence with the chunk at its end.
-- Assumes nothing.
use Prim.Native.Nat.{ℕ, ◌+◌, ◌-◌, ◌*◌, ◌^◌, ◌≤◌, ◌<◌}
use mathlib.Core.Path.{◌≡◌, refl, sym, ap, ◌∙◌}
use mathlib.Core.Bool.{Bool, true, false, cond, ◌||◌}
use mathlib.Core.List.{List, [], ◌∷◌, ◌++◌, map}
use native.Mathlib.Omega.{arith}
use borrow.Author.Tests.{ltb-true, ltb-false, lt-ltb}
use lib.Dec.{ltb}
use lib.ListN.{length, take, drop, length-replicate}
use Rattle.byte_strings.specs.Lists.{part, put, zeros, among}
use Rattle.tree_index.specs.Tree.{filled, filled_by, entries}
use Rattle.tree_index.proofs.Filled.{filled_below, filled_leaf, hole_past}
use Rattle.tree_index.proofs.Appended.{filled_by_filled, filled_suc}
use Rattle.file_format.specs.Headers.{tree_header}
use Rattle.file_format.specs.Sizes.{most_chunks, entry_place, used_tree}
use Rattle.file_format.specs.Messages.{HashFunction}
use Rattle.file_format.specs.Entries.{Entry, entry_bytes, entry_at, tree_entries}
use Rattle.file_format.specs.Images.{tree_image, leaves}
use Rattle.file_format.specs.Slots.{Slot, held, Within}
use Rattle.file_format.specs.Belongs.{Register, Belongs}
use Rattle.file_format.proofs.Slots.{leaves_length}
use Rattle.file_format.proofs.Nodes.{entry_at_filled, entry_at_hole, entry_length}
use Rattle.file_format.proofs.OfImage.{tree_header_length, entry_inside, stored_entry_lem}
use Rattle.file_format.proofs.Written.{entry_header, other_entry, same_entry, entry_length as put_length}
use Rattle.file_format.proofs.ToImage.{header_cut, hole_zeros, tree_of_entries}
use Rattle.writing.specs.Append.{with_hole, with_entries, new_entries, appended_tree}
use Rattle.writing.proofs.Written.{length_snoc}
use Rattle.writing.proofs.Entries.{put_entry_rest, with_length, with_front, with_rest, with_among, with_other}
use Rattle.writing.proofs.Climb.{node_at_snoc, new_entries_lem}

-- the two cases of the new hole
pub by_hole : (P : List ℕ → Type 0) (t : List ℕ) (n : ℕ) → (filled (n + 1) (2 * n - 1) ≡ true → P t)
    → (filled (n + 1) (2 * n - 1) ≡ false → P (put t (entry_place (2 * n - 1)) (zeros 40))) → P (with_hole t n)
unfolding with_hole
by_hole P t n there empty = split (filled (n + 1) (2 * n - 1)) refl
  where
    split : (b : Bool) → filled (n + 1) (2 * n - 1) ≡ b → P (cond b t (put t (entry_place (2 * n - 1)) (zeros 40)))
    split true e = there e
    split false e = empty e

pub forty : length (zeros 40) ≡ 40
forty = length-replicate {A = ℕ} 40 0

hole_inside : (n : ℕ) → entry_place (2 * n - 1) + 40 ≤ used_tree (n + 1)
unfolding entry_place used_tree entries
hole_inside n = omega arith

or_false : (a b : Bool) → b ≡ false → (a || b) ≡ a
or_false true b e = refl
or_false false b e = e

pub never : (b : Bool) → b ≡ true → b ≡ false → ⊥
never b e f = let z : ◌≡◌ {A = ℕ} 0 1 = cc in omega arith

module _ (t : List ℕ) (n : ℕ) (room : used_tree (n + 1) ≤ length t) where
  pub hole_room : entry_place (2 * n - 1) + 40 ≤ length t
  hole_room = omega (arith, hole_inside n)

  pub hole_length : length (with_hole t n) ≡ length t
  hole_length =
      by_hole (λ u. length u ≡ length t) t n (λ _. refl) (λ _. put_length t (2 * n - 1) (zeros 40) forty hole_room)

  hole_front : take 32 (with_hole t n) ≡ take 32 t
  hole_front = by_hole (λ u. take 32 u ≡ take 32 t) t n (λ _. refl) (λ _. entry_header t (2 * n - 1) (zeros 40) forty hole_room)

  hole_rest : drop (used_tree (n + 1)) (with_hole t n) ≡ drop (used_tree (n + 1)) t
  hole_rest =
      by_hole (λ u. drop (used_tree (n + 1)) u ≡ drop (used_tree (n + 1)) t) t n (λ _. refl)
      (λ _. put_entry_rest t (2 * n - 1) (used_tree (n + 1)) (zeros 40) forty hole_room (hole_inside n))

  -- an old entry stays
  hole_other : (i : ℕ) → i < entries n → part (with_hole t n) (entry_place i) 40 ≡ part t (entry_place i) 40
  unfolding entries
  hole_other i h =
      by_hole (λ u. part u (entry_place i) 40 ≡ part t (entry_place i) 40) t n (λ _. refl)
      (λ _. other_entry t (2 * n - 1) (zeros 40) forty hole_room i (λ e. omega arith))

  -- the new entry is a hole where it is not filled
  hole_here : filled (n + 1) (2 * n - 1) ≡ false → part (with_hole t n) (entry_place (2 * n - 1)) 40 ≡ zeros 40
  hole_here e =
      by_hole (λ u. part u (entry_place (2 * n - 1)) 40 ≡ zeros 40) t n (λ f. absurd (never (filled (n + 1) (2 * n - 1)) f e))
      (λ _. same_entry t (2 * n - 1) (zeros 40) forty hole_room)

  -- where the new entries lie
  new_inside : n + 1 < 2 ^ 64 → (x : ℕ) → among x (filled_by n) ≡ true → entry_place x + 40 ≤ used_tree (n + 1)
  new_inside small x e = entry_inside x (n + 1) (filled_below (n + 1) x (filled_by_filled n x small e))

-- an entry behind those of n chunks that the append does not fill is the new hole
only_hole : (n i : ℕ) → entries n ≤ i → i < entries (n + 1) → filled (n + 1) i ≡ false → i ≡ 2 * n - 1
unfolding entries
only_hole n i h l e =
    let d : i ≡ 2 * n → ⊥ = λ q. never (filled (n + 1) (2 * n)) (filled_leaf (n + 1) n ∙ lt-ltb n (n + 1) (omega arith)) (ap (filled (n + 1)) (sym q) ∙ e) in
    go (ltb i (2 * n)) refl d
  where
    go : (b : Bool) → ltb i (2 * n) ≡ b → (i ≡ 2 * n → ⊥) → i ≡ 2 * n - 1
    go true q d = omega (arith, ltb-true i (2 * n) q)
    go false q d = absurd (d (omega (arith, ltb-false i (2 * n) q)))

-- ---- the file on any register, where the new entries are those that a function f gives for their indexes, of 40 bytes each

module _ (F : List ℕ → List ℕ) (t : List ℕ) (n : ℕ) (c : List ℕ) (f : ℕ → Entry) (long : (i : ℕ) → length (entry_bytes (f i)) ≡ 40)
    (new : new_entries F t n c ≡ map f (filled_by n)) (few : n < most_chunks) (room : used_tree (n + 1) ≤ length t) where
  hole_long : length (with_hole t n) ≡ length t
  hole_long = hole_length t n room

  inside : (x : ℕ) → among x (filled_by n) ≡ true → entry_place x + 40 ≤ length (with_hole t n)
  inside x e = omega (arith, new_inside t n room (omega arith) x e, hole_long)

  pub tree_entries_lem : appended_tree F t n c ≡ with_entries (with_hole t n) (filled_by n) (map f (filled_by n))
  unfolding appended_tree
  tree_entries_lem = ap (with_entries (with_hole t n) (filled_by n)) new

  pub tree_length_lem : length (appended_tree F t n c) ≡ length t
  tree_length_lem = ap length tree_entries_lem ∙ with_length f long (with_hole t n) (filled_by n) inside ∙ hole_long

  -- the bytes behind the entries of n + 1 chunks stay
  pub tree_rest : drop (used_tree (n + 1)) (appended_tree F t n c) ≡ drop (used_tree (n + 1)) t
  tree_rest =
      ap (drop (used_tree (n + 1))) tree_entries_lem
      ∙ with_rest f long (used_tree (n + 1)) (with_hole t n) (filled_by n) (omega (arith, hole_long)) (new_inside t n room (omega arith))
      ∙ hole_rest t n room

  pub tree_front : take 32 (appended_tree F t n c) ≡ take 32 t
  tree_front = ap (take 32) tree_entries_lem ∙ with_front f long (with_hole t n) (filled_by n) inside ∙ hole_front t n room

  -- what is not filled anew
  pub unchanged : (i : ℕ) → among i (filled_by n) ≡ false → filled (n + 1) i ≡ filled n i
  unchanged i e = filled_suc n i (omega arith) ∙ or_false (filled n i) (among i (filled_by n)) e

  -- an entry is new, old, or the new hole
  pub tree_new : (i : ℕ) → among i (filled_by n) ≡ true → part (appended_tree F t n c) (entry_place i) 40 ≡ entry_bytes (f i)
  tree_new i e = ap (λ (u : List ℕ). part u (entry_place i) 40) tree_entries_lem ∙ with_among f long (with_hole t n) (filled_by n) i inside e

  kept : (i : ℕ) → among i (filled_by n) ≡ false → part (appended_tree F t n c) (entry_place i) 40 ≡ part (with_hole t n) (entry_place i) 40
  kept i e = ap (λ (u : List ℕ). part u (entry_place i) 40) tree_entries_lem ∙ with_other f long (with_hole t n) (filled_by n) i inside e

  pub tree_old : (i : ℕ) → among i (filled_by n) ≡ false → i < entries n → part (appended_tree F t n c) (entry_place i) 40 ≡ part t (entry_place i) 40
  tree_old i e l = kept i e ∙ hole_other t n room i l

  pub tree_hole : (i : ℕ) → among i (filled_by n) ≡ false → entries n ≤ i → i < entries (n + 1) → part (appended_tree F t n c) (entry_place i) 40 ≡ zeros 40
  tree_hole i e l h =
      let q : filled (n + 1) i ≡ false = unchanged i e ∙ hole_past n i l in
      let at : i ≡ 2 * n - 1 = only_hole n i l h q in
      kept i e ∙ ap (λ (j : ℕ). part (with_hole t n) (entry_place j) 40) at ∙ hole_here t n room (ap (filled (n + 1)) (sym at) ∙ q)

-- ---- on a register that belongs to a chunk sequence

module _ (F : List ℕ → List ℕ) (hf : HashFunction F) (ss : List Slot) (w : Within ss) (r : Register) (b : Belongs F r ss) (c : List ℕ)
    (v : Within (ss ++ (held c ∷ []))) (room : used_tree (r.n + 1) ≤ length r.tree) where
  count : r.n + 1 ≡ length (ss ++ (held c ∷ []))
  count = ap (λ (m : ℕ). m + 1) b.count ∙ sym (length_snoc ss (held c))

  few : r.n < most_chunks
  few = omega (arith, count, v.count)

  -- the entries that the image has at the new indexes
  abbrev entry : ℕ → Entry
  entry = entry_at F (leaves F (ss ++ (held c ∷ [])))

  long : (i : ℕ) → length (entry_bytes (entry i)) ≡ 40
  long = entry_length F hf (ss ++ (held c ∷ [])) v

  new : new_entries F r.tree r.n c ≡ map entry (filled_by r.n)
  new = new_entries_lem F hf ss w r b c (omega (arith, few))

  pub appended_entries : appended_tree F r.tree r.n c ≡ with_entries (with_hole r.tree r.n) (filled_by r.n) (map entry (filled_by r.n))
  appended_entries = tree_entries_lem F r.tree r.n c entry long new few room

  pub appended_length : length (appended_tree F r.tree r.n c) ≡ length r.tree
  appended_length = tree_length_lem F r.tree r.n c entry long new few room

  appended_front : take 32 (appended_tree F r.tree r.n c) ≡ tree_header
  unfolding tree_image used_tree
  appended_front =
      tree_front F r.tree r.n c entry long new few room
      ∙ (header_cut r.tree tree_header (tree_entries F (leaves F ss)) 32 (40 * entries r.n) tree_header_length (omega arith) b.tree).0

  -- which indexes are filled, over each of the two sequences
  filled_old : (i : ℕ) (t : Bool) → filled r.n i ≡ t → filled (length (leaves F ss)) i ≡ t
  filled_old i t e = ap (λ (m : ℕ). filled m i) (leaves_length F ss ∙ sym b.count) ∙ e

  filled_new : (i : ℕ) (t : Bool) → filled (r.n + 1) i ≡ t → filled (length (leaves F (ss ++ (held c ∷ [])))) i ≡ t
  filled_new i t e = ap (λ (m : ℕ). filled m i) (leaves_length F (ss ++ (held c ∷ [])) ∙ sym count) ∙ e

  still : (i : ℕ) → among i (filled_by r.n) ≡ false → filled (r.n + 1) i ≡ filled r.n i
  still = unchanged F r.tree r.n c entry long new few room

  old_entry : (i : ℕ) → among i (filled_by r.n) ≡ false → entry_at F (leaves F ss) i ≡ entry i
  old_entry i e = split (filled r.n i) refl
    where
      split : (t : Bool) → filled r.n i ≡ t → entry_at F (leaves F ss) i ≡ entry i
      split true q =
          entry_at_filled F (leaves F ss) i (filled_old i true q)
          ∙ sym (node_at_snoc F ss c i (ap (λ (m : ℕ). filled m i) (sym b.count) ∙ q))
          ∙ sym (entry_at_filled F (leaves F (ss ++ (held c ∷ []))) i (filled_new i true (still i e ∙ q)))
      split false q =
          entry_at_hole F (leaves F ss) i (filled_old i false q) ∙ sym (entry_at_hole F (leaves F (ss ++ (held c ∷ []))) i (filled_new i false (still i e ∙ q)))

  -- an entry that is not filled anew
  kept_entry : (i : ℕ) → i < entries (r.n + 1) → among i (filled_by r.n) ≡ false
      → part (appended_tree F r.tree r.n c) (entry_place i) 40 ≡ entry_bytes (entry i)
  kept_entry i h e = split (ltb i (entries r.n)) refl
    where
      split : (t : Bool) → ltb i (entries r.n) ≡ t → part (appended_tree F r.tree r.n c) (entry_place i) 40 ≡ entry_bytes (entry i)
      split true q =
          let l : i < entries r.n = ltb-true i (entries r.n) q in
          tree_old F r.tree r.n c entry long new few room i e l ∙ stored_entry_lem F hf ss w r b i l ∙ ap entry_bytes (old_entry i e)
      split false q =
          let l : entries r.n ≤ i = ltb-false i (entries r.n) q in
          tree_hole F r.tree r.n c entry long new few room i e l h
          ∙ sym (ap entry_bytes (entry_at_hole F (leaves F (ss ++ (held c ∷ []))) i (filled_new i false (still i e ∙ hole_past r.n i l))) ∙ hole_zeros)

  appended_entry : (i : ℕ) → i < entries (r.n + 1) → part (appended_tree F r.tree r.n c) (entry_place i) 40 ≡ entry_bytes (entry i)
  appended_entry i h = split (among i (filled_by r.n)) refl
    where
      split : (t : Bool) → among i (filled_by r.n) ≡ t → part (appended_tree F r.tree r.n c) (entry_place i) 40 ≡ entry_bytes (entry i)
      split true e = tree_new F r.tree r.n c entry long new few room i e
      split false e = kept_entry i h e

  pub appended_tree_lem : take (used_tree (r.n + 1)) (appended_tree F r.tree r.n c) ≡ tree_image F (ss ++ (held c ∷ []))
  appended_tree_lem = tree_of_entries F (ss ++ (held c ∷ [])) (appended_tree F r.tree r.n c) (r.n + 1) count appended_front appended_entry
