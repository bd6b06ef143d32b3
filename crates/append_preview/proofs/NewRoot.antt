-- The root message of n + 1 chunks, from the stored roots of n and the node that the chunk n completes last. Assumes nothing.
use Prim.Native.Nat.{ℕ, zero, suc, ◌+◌, ◌-◌, ◌/◌, ◌^◌, ◌≤◌, ◌<◌}
use mathlib.Core.Path.{◌≡◌, refl, sym, ap, ap₂, ◌∙◌, subst}
use mathlib.Core.Bool.{true}
use mathlib.Core.List.{List, [], ◌∷◌, ◌++◌, map, map-append}
use native.Mathlib.Nat.{le_refl, add-zero, zero-add}
use native.Mathlib.Numerals.{add-one}
use native.Mathlib.Omega.{arith}
use lib.ListN.{length, get_or, set, take, replicate, length-append, length-map, length-replicate, get_or-append}
use lib.Seq.{take_at, get_or-set_same, get_or-set_other}
use Rattle.byte_strings.specs.Lists.{part, put, total, zeros}
use Rattle.byte_strings.proofs.Lists.{run_suc, run_ext, get_or_behind}
use Rattle.tree_index.specs.Tree.{index, filled, completed, filled_by, entries, roots}
use Rattle.tree_index.proofs.Roots.{Carried, carried, siblings, length_roots_le}
use Rattle.blake2b.specs.Hash.{node_hash}
use Rattle.blake2b.proofs.Laws.{node_length}
use Rattle.file_format.specs.Sizes.{most_chunks, entry_place, used_tree}
use Rattle.file_format.specs.Messages.{leaf_message, root_item, root_message}
use Rattle.file_format.specs.Entries.{Entry, entry_bytes, leaf, parent_of}
use Rattle.file_format.specs.Stored.{stored_hash, stored_size, stored_root_sizes, stored_root_message}
use Rattle.file_format.specs.RootsByValue.{padded, items_of}
use Rattle.file_format.proofs.Nodes.{Proper, entry_bytes_length}
use Rattle.file_format.proofs.OfImage.{entry_hash_lem, entry_size_lem}
use Rattle.file_format.proofs.Spans.{map_ext}
use Rattle.file_format.proofs.Written.{same_entry}
use Rattle.file_format.proofs.ByValue.{gathered, mapped_at}
use Rattle.writing.specs.Append.{stored_entry, sibling, with_hole, with_entries, climb, appended_tree}
use Rattle.writing.specs.Inner.{place, made, FilledFits, AboveFits}
use Rattle.writing.proofs.Tree.{hole_length}
use Rattle.writing.proofs.Made.{node_hashed}
use Rattle.writing.proofs.Climbed.{place_new, sibling_filled, filled_in, sum_le, kept_filled, Going, going_none, going_next, going_all}
use Rattle.writing.proofs.Stored.{hole_hash, hole_size, leaf_put, leaf_tree}
use Rattle.append_preview.specs.Preview.{kept_roots, message_with}

-- ---- the node that the chunk n completes last

-- no node over the leaf is longer than the stored roots and the leaf together
made_le : (t : List ℕ) (n : ℕ) (e : Entry) (d : ℕ) → n < most_chunks → d ≤ completed n → (made node_hash t n e d).size ≤ total (stored_root_sizes t n) + e.size
unfolding made parent_of stored_entry
made_le t n e zero few h = omega arith
made_le t n e (suc d) few h = sum_le node_hash t n e d few h

-- and its length fits, where those do
pub above_fits : (t : List ℕ) (n : ℕ) (e : Entry) (d : ℕ) (x : Entry) → FilledFits t n e.size → d < completed n → x ≡ made node_hash t n e d
    → AboveFits t n d x.size
above_fits t n e d x w h p =
    let s : x.size ≡ (made node_hash t n e d).size = ap (λ (y : Entry). y.size) p in
    record { few = w.few; depth = h; room = w.room; sum = omega (arith, sum_le node_hash t n e d w.few h, w.sum) }

pub above_made : (t : List ℕ) (n : ℕ) (e : Entry) (d : ℕ) (x y : Entry) → x ≡ made node_hash t n e d → y ≡ parent_of node_hash (stored_entry t (sibling n d)) x
    → y ≡ made node_hash t n e (d + 1)
unfolding made
above_made t n e d x y p q = q ∙ ap (parent_of node_hash (stored_entry t (sibling n d))) p ∙ ap (made node_hash t n e) (sym (add-one d))

-- ---- the file after the append

-- u holds what t does wherever n chunks fill the tree, and the entry x at the node that the chunk n completes last
record Topped (t : List ℕ) (n : ℕ) (x : Entry) (u : List ℕ) : Type 0 where
  hash : (i : ℕ) → filled n i ≡ true → stored_hash u i ≡ stored_hash t i
  size : (i : ℕ) → filled n i ≡ true → stored_size u i ≡ stored_size t i
  top : part u (entry_place (place n (completed n))) 40 ≡ entry_bytes x

module _ (t : List ℕ) (n : ℕ) (chunk : List ℕ) (few : n < most_chunks) (room : used_tree (n + 1) ≤ length t) where
  abbrev e : Entry
  e = leaf node_hash chunk

  leaf_long : length e.hash ≡ 32
  unfolding leaf
  leaf_long = node_length _

  reached : (d : ℕ) → d ≤ completed n → (u : List ℕ) × Going t n e d u
  reached zero h = (t, going_none)
  reached (suc d) h =
      let r = reached d (omega arith) in
      let u : List ℕ = put r.0 (entry_place (place n d)) (entry_bytes (made node_hash t n e d)) in
      (u, subst (λ (x : ℕ). Going t n e x u) (add-one d) (going_next r.1 few (omega arith) room leaf_long refl))

  with_top : Topped t n (made node_hash t n e (completed n)) (with_entries t (filled_by n) (climb node_hash t n 0 (completed n) e))
  with_top =
      let z : ℕ = completed n in
      let r = reached z (le_refl z) in
      let x : Entry = made node_hash t n e z in
      let v : List ℕ = put r.0 (entry_place (place n z)) (entry_bytes x) in
      let g : Going t n e (z + 1) v = going_next r.1 few (le_refl z) room leaf_long refl in
      let inside : entry_place (place n z) + 40 ≤ length r.0 =
      (filled_in r.0 n (place n z) few (omega (arith, r.1.long)) (place_new n z few (le_refl z))).inside
      in
      subst (Topped t n x) (going_all z refl g)
      (record { hash = g.hash; size = g.size; top = same_entry r.0 (place n z) (entry_bytes x) (entry_bytes_length x (node_hashed t n chunk z).0) inside })

  -- the new hole is none of the siblings that the nodes are made of
  made_hole : (d : ℕ) → d ≤ completed n → made node_hash (with_hole t n) n e d ≡ made node_hash t n e d
  unfolding made stored_entry
  made_hole zero h = refl
  made_hole (suc d) h =
      let f : filled n (sibling n d) ≡ true = sibling_filled n d few h in
      ap₂ (parent_of node_hash)
      (ap₂ (λ (a : List ℕ) (b : ℕ). record { hash = a; size = b }) (hole_hash t n room (sibling n d) f) (hole_size t n room (sibling n d) f))
      (made_hole d (omega arith))

module _ (t : List ℕ) (n : ℕ) (chunk : List ℕ) (few : n < most_chunks) (room : used_tree (n + 1) ≤ length t) where
  abbrev top : Entry
  top = made node_hash t n (leaf node_hash chunk) (completed n)

  -- the tree file with the chunk appended
  appended_top : Topped t n top (appended_tree node_hash t n chunk)
  appended_top =
      let w : Topped (with_hole t n) n (made node_hash (with_hole t n) n (leaf node_hash chunk) (completed n)) _ =
      with_top (with_hole t n) n chunk few (omega (arith, hole_length t n room))
      in
      subst (Topped t n top) (leaf_tree t _ n chunk (leaf node_hash chunk) refl (leaf_put t n room (with_hole t n) _ (leaf node_hash chunk) few refl refl))
      (record {
        hash = λ i f. w.hash i f ∙ hole_hash t n room i f;
        size = λ i f. w.size i f ∙ hole_size t n room i f;
        top = w.top ∙ ap entry_bytes (made_hole t n chunk few room (completed n) (le_refl (completed n)));
      })

-- ---- the roots

abbrev item : List ℕ → ℕ → List ℕ
item t i = root_item (stored_hash t i) i (stored_size t i)

module _ (n : ℕ) (few : n < most_chunks) (c : Carried n) where
  new_count : length (roots (n + 1)) ≡ suc (length c.kept)
  new_count = ap length c.after ∙ length-append c.kept (_ ∷ []) ∙ add-one (length c.kept)

  old_count : length (roots n) ≡ length c.kept + length (siblings n 0 (completed n))
  old_count = ap length c.before ∙ length-append c.kept (siblings n 0 (completed n))

  kept_roots_lem : kept_roots n ≡ c.kept
  unfolding kept_roots
  kept_roots_lem =
      let k : length (roots (n + 1)) - 1 ≡ length c.kept = omega (arith, new_count) in
      ap₂ take k c.before ∙ take_at c.kept (siblings n 0 (completed n)) (length c.kept) refl

  -- the stored root message of a file that holds x at the new root
  message_topped : (t u : List ℕ) (x : Entry) → Proper x → Topped t n x u → message_with t n x ≡ stored_root_message u (n + 1)
  unfolding message_with stored_root_message place
  message_topped t u x p w =
      let i : ℕ = index (completed n) ((n + 1) / 2 ^ completed n - 1) in
      let same : map (item t) c.kept ≡ map (item u) c.kept =
      map_ext (item t) (item u) c.kept
      (λ j l. let f = kept_filled n c j l in sym (ap₂ (λ (a : List ℕ) (b : ℕ). root_item a (get_or c.kept j 0) b) (w.hash (get_or c.kept j 0) f) (w.size (get_or c.kept j 0) f)))
      in
      let last : root_item x.hash i x.size ≡ item u i =
      sym (ap₂ (λ (a : List ℕ) (b : ℕ). root_item a i b) (entry_hash_lem u i x p w.top) (entry_size_lem u i x p w.top))
      in
      ap root_message
      (ap (λ (xs : List ℕ). map (item t) xs ++ (root_item x.hash i x.size ∷ [])) kept_roots_lem
      ∙ ap₂ (λ (a : List (List ℕ)) (b : List ℕ). a ++ (b ∷ [])) same last
      ∙ sym (ap (map (item u)) c.after ∙ map-append (item u) c.kept (i ∷ [])))

-- the root message that an append would leave
pub message_after : (t : List ℕ) (n : ℕ) (chunk : List ℕ) → FilledFits t n (length chunk)
    → message_with t n (made node_hash t n (leaf node_hash chunk) (completed n)) ≡ stored_root_message (appended_tree node_hash t n chunk) (n + 1)
unfolding leaf
message_after t n chunk w =
    let z : ℕ = completed n in
    let le = made_le t n (leaf node_hash chunk) z w.few (le_refl z) in
    message_topped n w.few (carried n w.few) t (appended_tree node_hash t n chunk) (made node_hash t n (leaf node_hash chunk) z)
    (record { long = (node_hashed t n chunk z).0; bytes = (node_hashed t n chunk z).1; fits = omega (arith, le, w.sum) })
    (appended_top t n chunk w.few w.room)

-- the same of a node that was made over the leaf's hash
pub root_after : (t : List ℕ) (n : ℕ) (chunk hash root : List ℕ) (x : Entry) → FilledFits t n (length chunk) → hash ≡ node_hash (leaf_message chunk)
    → x ≡ made node_hash t n (record { hash = hash; size = length chunk }) (completed n) → root ≡ node_hash (message_with t n x)
    → root ≡ node_hash (stored_root_message (appended_tree node_hash t n chunk) (n + 1))
unfolding leaf
root_after t n chunk hash root x w p q e =
    e
    ∙ ap node_hash
    (ap (message_with t n) (q ∙ ap (λ (h : List ℕ). made node_hash t n (record { hash = h; size = length chunk }) (completed n)) p) ∙ message_after t n chunk w)

pub room_before : (t : List ℕ) (n : ℕ) → used_tree (n + 1) ≤ length t → used_tree n ≤ length t
unfolding used_tree entries
room_before t n h = omega arith

-- ---- the arrays of the code

padded_long : {A : Type 0} (x : A) (f : ℕ → A) (is : List ℕ) → length is ≤ 20 → length (padded x (length is) (map f is)) ≡ 20
unfolding padded
padded_long x f is h =
    length-append (map f is) (replicate (20 - length is) x) ∙ omega (arith, length-map is f, length-replicate (20 - length is) x)

module _ (t : List ℕ) (n : ℕ) (x : Entry) (few : n < most_chunks) (c : Carried n) (hashes : List (List ℕ)) (is sizes : List ℕ)
    (eh : hashes ≡ padded (zeros 32) (length (roots n)) (map (stored_hash t) (roots n)))
    (ei : is ≡ roots (n + 1) ++ replicate (20 - length (roots (n + 1))) 0)
    (es : sizes ≡ padded 0 (length (roots n)) (stored_root_sizes t n)) where
  abbrev k : ℕ
  k = length c.kept

  abbrev taken : List ℕ
  taken = siblings n 0 (completed n)

  k_few : k < 20
  k_few = omega (arith, new_count n few c, length_roots_le (n + 1) (omega arith))

  -- an index of the new roots
  index_at : (j : ℕ) → j ≤ k → get_or is j 0 ≡ get_or (c.kept ++ (index (completed n) ((n + 1) / 2 ^ completed n - 1) ∷ [])) j 0
  index_at j l =
      ap (λ (ys : List ℕ). get_or ys j 0) ei ∙ get_or-append (roots (n + 1)) _ 0 j (omega (arith, new_count n few c))
      ∙ ap (λ (ys : List ℕ). get_or ys j 0) c.after

  abbrev at : ℕ → List ℕ
  at j = root_item (get_or (set hashes k x.hash) j []) (get_or is j 0) (get_or (set sizes k x.size) j 0)

  stays : (j : ℕ) → j < k → at j ≡ item t (get_or (c.kept ++ taken) j 0)
  unfolding padded stored_root_sizes
  stays j l =
      let i : ℕ = get_or (c.kept ++ taken) j 0 in
      let b : get_or (roots n) j 0 ≡ i = ap (λ (ys : List ℕ). get_or ys j 0) c.before in
      let inside : j < length (roots n) = omega (arith, old_count n few c) in
      let h : get_or (set hashes k x.hash) j [] ≡ stored_hash t i =
      get_or-set_other hashes k j x.hash [] (λ q. omega arith) ∙ ap (λ (ys : List (List ℕ)). get_or ys j []) eh
      ∙ mapped_at (stored_hash t) (roots n) _ [] j inside ∙ ap (stored_hash t) b
      in
      let s : get_or (set sizes k x.size) j 0 ≡ stored_size t i =
      get_or-set_other sizes k j x.size 0 (λ q. omega arith) ∙ ap (λ (ys : List ℕ). get_or ys j 0) es
      ∙ mapped_at (stored_size t) (roots n) _ 0 j inside ∙ ap (stored_size t) b
      in
      let p : get_or is j 0 ≡ i =
      index_at j (omega arith) ∙ get_or-append c.kept _ 0 j l ∙ sym (get_or-append c.kept taken 0 j l)
      in
      ap (λ (y : List ℕ). root_item y (get_or is j 0) (get_or (set sizes k x.size) j 0)) h ∙ ap₂ (root_item (stored_hash t i)) p s

  comes : at k ≡ root_item x.hash (place n (completed n)) x.size
  unfolding place stored_root_sizes
  comes =
      let few-roots : length (roots n) ≤ 20 = length_roots_le n (omega arith) in
      let h : get_or (set hashes k x.hash) k [] ≡ x.hash =
      get_or-set_same hashes k x.hash [] (omega (arith, k_few, ap length eh, padded_long (zeros 32) (stored_hash t) (roots n) few-roots))
      in
      let s : get_or (set sizes k x.size) k 0 ≡ x.size =
      get_or-set_same sizes k x.size 0 (omega (arith, k_few, ap length es, padded_long 0 (stored_size t) (roots n) few-roots))
      in
      let p : get_or is k 0 ≡ index (completed n) ((n + 1) / 2 ^ completed n - 1) =
      index_at k (le_refl k)
      ∙ ap (λ (j : ℕ). get_or (c.kept ++ (index (completed n) ((n + 1) / 2 ^ completed n - 1) ∷ [])) j 0) (sym (add-zero k))
      ∙ get_or_behind c.kept (index (completed n) ((n + 1) / 2 ^ completed n - 1) ∷ []) k 0 0 refl
      in
      ap (λ (y : List ℕ). root_item y (get_or is k 0) (get_or (set sizes k x.size) k 0)) h ∙ ap₂ (root_item x.hash) p s

  message_at : root_message (items_of (set hashes k x.hash) is (set sizes k x.size) (suc k)) ≡ message_with t n x
  unfolding items_of message_with
  message_at =
      ap root_message
      (run_suc at 0 k
      ∙ ap₂ (λ (a : List (List ℕ)) (b : List ℕ). a ++ (b ∷ []))
      (run_ext at (λ j. item t (get_or (c.kept ++ taken) j 0)) 0 k (λ j _ u. stays j (omega arith)) ∙ gathered (item t) c.kept taken)
      (ap at (zero-add k) ∙ comes)
      ∙ sym (ap (λ (ys : List ℕ). map (item t) ys ++ (root_item x.hash (place n (completed n)) x.size ∷ [])) (kept_roots_lem n few c)))

-- there is a root with the chunk n
pub some_roots : (n count : ℕ) → n < most_chunks → count ≡ length (roots (n + 1)) → 1 ≤ count
some_roots n count few e = omega (arith, new_count n few (carried n few))

pub message_with_lem : (t : List ℕ) (n : ℕ) (x : Entry) (few : n < most_chunks) (hashes : List (List ℕ)) (is sizes : List ℕ) (count : ℕ)
    → hashes ≡ padded (zeros 32) (length (roots n)) (map (stored_hash t) (roots n)) → is ≡ roots (n + 1) ++ replicate (20 - length (roots (n + 1))) 0
    → sizes ≡ padded 0 (length (roots n)) (stored_root_sizes t n) → count ≡ length (roots (n + 1))
    → root_message (items_of (set hashes (count - 1) x.hash) is (set sizes (count - 1) x.size) count) ≡ message_with t n x
message_with_lem t n x few hashes is sizes count eh ei es e =
    let c : Carried n = carried n few in
    let m : count ≡ suc (length c.kept) = e ∙ new_count n few c in
    ap₂ (λ (i j : ℕ). root_message (items_of (set hashes i x.hash) is (set sizes i x.size) j)) (omega arith) m
    ∙ message_at t n x few c hashes is sizes eh ei es
