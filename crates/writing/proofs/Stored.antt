-- The steps of the part of an append that writes. Assumes nothing.
use Prim.Native.Nat.{ℕ, ◌+◌, ◌-◌, ◌*◌, ◌/◌, ◌^◌, ◌≤◌, ◌<◌}
use mathlib.Core.Path.{◌≡◌, refl, sym, ap, ap₂, ◌∙◌, subst}
use mathlib.Core.Bool.{Bool, true, false, cond}
use mathlib.Core.List.{List, ◌++◌}
use native.Mathlib.Omega.{arith}
use lib.ListN.{length, get_or, take, drop}
use Rattle.byte_strings.specs.Lists.{part, put, total, zeros}
use Rattle.byte_strings.specs.Numbers.{be}
use Rattle.byte_strings.proofs.Lists.{part_put}
use Rattle.tree_index.specs.Tree.{index, filled, completed, filled_by, entries, roots}
use Rattle.tree_index.proofs.Filled.{filled_below, filled_leaf}
use Rattle.tree_index.proofs.Roots.{root_filled}
use Rattle.bitfield.specs.Append.{bits_place, appended}
use Rattle.bitfield.proofs.Append.{entries_after}
use Rattle.blake2b.specs.Hash.{node_hash}
use Rattle.file_format.specs.Sizes.{most_chunks, entry_place, used_tree, used_bitfield}
use Rattle.file_format.specs.Headers.{tree_header, signatures_header, bitfield_header}
use Rattle.file_format.specs.Messages.{leaf_message, parent_message}
use Rattle.file_format.specs.Inner.{EntryIn}
use Rattle.file_format.proofs.OfImage.{entry_inside}
use Rattle.file_format.specs.Entries.{Entry, entry_bytes, leaf, parent_of}
use Rattle.file_format.specs.Stored.{stored_hash, stored_size, stored_root_sizes, stored_root_message}
use Rattle.file_format.proofs.Spans.{map_ext}
use Rattle.file_format.proofs.Written.{other_hash, other_size}
use Rattle.writing.specs.Append.{stored_entry, sibling, with_hole, with_entries, climb, new_entries, appended_tree}
use Rattle.writing.proofs.Tree.{by_hole, forty, hole_room, hole_length}
use Rattle.writing.specs.Inner.{place, with_leaf, HeadersPut, FilledFits, StoreFits, StorePost}
use Rattle.writing.proofs.Made.{climb_same}
use Rattle.writing.proofs.Climbed.{sibling_filled, place_new, filled_in}

-- ---- the new hole

-- the first chunk makes none, and no more does one that completes the entry
pub no_hole_first : (t : List ℕ) (n : ℕ) → n ≡ 0 → t ≡ with_hole t n
unfolding with_hole
no_hole_first t n e =
    let f : filled (n + 1) (2 * n - 1) ≡ true = ap₂ filled (omega arith) (omega arith) ∙ filled_leaf 1 0 in
    sym (ap (λ (b : Bool). cond b t (put t (entry_place (2 * n - 1)) (zeros 40))) f)

module _ (t : List ℕ) (n i : ℕ) (b : Bool) (at : i ≡ 2 * n - 1) (e : b ≡ filled (n + 1) i) where
  new_filled : filled (n + 1) (2 * n - 1) ≡ b
  new_filled = ap (filled (n + 1)) (sym at) ∙ sym e

  pub no_hole : b ≡ true → t ≡ with_hole t n
  unfolding with_hole
  no_hole f = sym (ap (λ (x : Bool). cond x t (put t (entry_place (2 * n - 1)) (zeros 40))) (new_filled ∙ f))

  pub a_hole : (u : List ℕ) → b ≡ false → u ≡ put t (entry_place i) (zeros 40) → u ≡ with_hole t n
  unfolding with_hole
  a_hole u f p =
      p ∙ ap (λ (j : ℕ). put t (entry_place j) (zeros 40)) at
      ∙ sym (ap (λ (x : Bool). cond x t (put t (entry_place (2 * n - 1)) (zeros 40))) (new_filled ∙ f))

-- what is filled among n chunks stands as it did
module _ (t : List ℕ) (n : ℕ) (room : used_tree (n + 1) ≤ length t) where
  apart : (i : ℕ) → filled n i ≡ true → i ≡ 2 * n - 1 → ⊥
  unfolding entries
  apart i f e = let h : i < 2 * n - 1 = filled_below n i f in omega arith

  pub hole_hash : (i : ℕ) → filled n i ≡ true → stored_hash (with_hole t n) i ≡ stored_hash t i
  hole_hash i f =
      by_hole (λ u. stored_hash u i ≡ stored_hash t i) t n (λ _. refl) (λ _. other_hash t (2 * n - 1) (zeros 40) forty (hole_room t n room) i (apart i f))

  pub hole_size : (i : ℕ) → filled n i ≡ true → stored_size (with_hole t n) i ≡ stored_size t i
  hole_size i f =
      by_hole (λ u. stored_size u i ≡ stored_size t i) t n (λ _. refl) (λ _. other_size t (2 * n - 1) (zeros 40) forty (hole_room t n room) i (apart i f))

  -- so the stored roots do
  pub hole_roots : total (stored_root_sizes (with_hole t n) n) ≡ total (stored_root_sizes t n)
  unfolding stored_root_sizes
  hole_roots =
      ap total (map_ext (stored_size (with_hole t n)) (stored_size t) (roots n) (λ j l. hole_size (get_or (roots n) j 0) (root_filled n j l)))

  -- and what is made of the siblings
  hole_climb : n < most_chunks → (k d : ℕ) (e : Entry) → d + k ≤ completed n → climb node_hash (with_hole t n) n d k e ≡ climb node_hash t n d k e
  unfolding stored_entry
  hole_climb few =
      climb_same node_hash (with_hole t n) t n
      (λ d h.
      let f : filled n (sibling n d) ≡ true = sibling_filled n d few h in
      ap₂ (λ (a : List ℕ) (b : ℕ). record { hash = a; size = b }) (hole_hash (sibling n d) f) (hole_size (sibling n d) f))

  -- the hole, and then the entries
  pub leaf_put : (u v : List ℕ) (e : Entry) → n < most_chunks → u ≡ with_hole t n
      → v ≡ with_entries u (filled_by n) (climb node_hash u n 0 (completed n) e) → v ≡ with_leaf t n e
  unfolding with_leaf
  leaf_put u v e few q w =
      w ∙ ap (λ (x : List ℕ). with_entries x (filled_by n) (climb node_hash x n 0 (completed n) e)) q
      ∙ ap (with_entries (with_hole t n) (filled_by n)) (hole_climb few (completed n) 0 e (omega arith))

  -- they fit where they did before the hole
  pub hole_fits : (u : List ℕ) (size : ℕ) → FilledFits t n size → u ≡ with_hole t n → FilledFits u n size
  hole_fits u size w e =
      let same : total (stored_root_sizes u n) ≡ total (stored_root_sizes t n) = ap (λ (x : List ℕ). total (stored_root_sizes x n)) e ∙ hole_roots in
      let long : length u ≡ length t = ap length e ∙ hole_length t n room in
      record { few = w.few; room = omega (arith, w.room); sum = omega (arith, w.sum) }

-- the leaf of a chunk gives the tree file with the chunk
pub leaf_tree : (t v : List ℕ) (n : ℕ) (chunk : List ℕ) (e : Entry) → e ≡ leaf node_hash chunk → v ≡ with_leaf t n e → v ≡ appended_tree node_hash t n chunk
unfolding appended_tree new_entries with_leaf
leaf_tree t v n chunk e p w = w ∙ ap (with_leaf t n) p

-- ---- the chunk

-- the leaf of the chunk, hashed from its place in the data
pub leaf_there : (c d chunk h : List ℕ) (size end : ℕ) → d ≡ put c size chunk → size + length chunk ≡ end → end ≤ length c
    → h ≡ node_hash (leaf_message (take (end - size) (drop size d))) → ◌≡◌ {A = Entry} (record { hash = h; size = length chunk }) (leaf node_hash chunk)
unfolding leaf part
leaf_there c d chunk h size end p q l e =
    let k : end - size ≡ length chunk = omega arith in
    let same : take (end - size) (drop size d) ≡ chunk =
    ap₂ (λ (x : ℕ) (y : List ℕ). take x (drop size y)) k p ∙ part_put c size (length chunk) chunk refl (omega arith)
    in
    ap (λ (x : List ℕ). record { hash = x; size = length chunk }) (e ∙ ap (λ (m : List ℕ). node_hash (leaf_message m)) same)

-- ---- room

pub bits_room : (b : List ℕ) (n : ℕ) → used_bitfield (n + 1) ≤ length b → bits_place (n / 8192 + 1) ≤ length b
unfolding used_bitfield bits_place
bits_room b n h = omega (arith, entries_after n)

pub hole_in : (t : List ℕ) (n i : ℕ) → n < most_chunks → used_tree (n + 1) ≤ length t → i ≡ 2 * n - 1 → EntryIn t i
hole_in t n i few room at =
    subst (EntryIn t) (sym at) (record { small = omega arith; inside = hole_room t n room })

-- ---- one node, at the index i that the code made

pub place_in_lem : (t : List ℕ) (n d i : ℕ) → n < most_chunks → d ≤ completed n → used_tree (n + 1) ≤ length t → i ≡ index d ((n + 1) / 2 ^ d - 1) → EntryIn t i
unfolding place
place_in_lem t n d i few h room e = filled_in t n i few room (ap (filled (n + 1)) e ∙ place_new n d few h)

pub node_put : (t u hash : List ℕ) (n d size i : ℕ) → i ≡ index d ((n + 1) / 2 ^ d - 1) → u ≡ put t (entry_place i) (hash ++ be 8 size)
    → u ≡ put t (entry_place (place n d)) (entry_bytes (record { hash = hash; size = size }))
unfolding place entry_bytes
node_put t u hash n d size i e p = p ∙ ap (λ (j : ℕ). put t (entry_place j) (hash ++ be 8 size)) e

pub sibling_in : (t : List ℕ) (n d i : ℕ) → n < most_chunks → d < completed n → used_tree (n + 1) ≤ length t → i ≡ index d ((n + 1) / 2 ^ d - 2) → EntryIn t i
unfolding sibling entries
sibling_in t n d i few h room e =
    let b : i < 2 * n - 1 = filled_below n i (ap (filled n) e ∙ sibling_filled n d few h) in
    record { small = omega arith; inside = omega (arith, entry_inside i (n + 1) (omega arith)) }

pub sum_fits : (t : List ℕ) (n d i s size : ℕ) → i ≡ index d ((n + 1) / 2 ^ d - 2) → s ≡ stored_size t i
    → stored_size t (sibling n d) + size < 2 ^ 64 → s + size < 2 ^ 64
unfolding sibling
sum_fits t n d i s size e p h = omega (arith, p ∙ ap (stored_size t) e)

pub node_above : (t left right hash : List ℕ) (n d i s size : ℕ) → i ≡ index d ((n + 1) / 2 ^ d - 2) → left ≡ stored_hash t i → s ≡ stored_size t i
    → hash ≡ node_hash (parent_message (s + size) left right)
    → ◌≡◌ {A = Entry} (record { hash = hash; size = s + size }) (parent_of node_hash (stored_entry t (sibling n d)) (record { hash = right; size = size }))
unfolding parent_of stored_entry sibling
node_above t left right hash n d i s size e p q w =
    let l : left ≡ stored_hash t (index d ((n + 1) / 2 ^ d - 2)) = p ∙ ap (stored_hash t) e in
    let z : s ≡ stored_size t (index d ((n + 1) / 2 ^ d - 2)) = q ∙ ap (stored_size t) e in
    ap (λ (x : List ℕ). record { hash = x; size = s + size }) w
    ∙ ap₂ (λ (x : ℕ) (y : List ℕ). record { hash = node_hash (parent_message (x + size) y right); size = x + size }) z l

-- ---- the headers of a start

pub headers_put : (t g b t' g' b' h₁ h₂ h₃ : List ℕ) → h₁ ≡ tree_header → h₂ ≡ signatures_header → h₃ ≡ bitfield_header
    → t' ≡ put t 0 h₁ → g' ≡ put g 0 h₂ → b' ≡ put b 0 h₃ → HeadersPut t g b t' g' b'
headers_put t g b t' g' b' h₁ h₂ h₃ p q r x y z =
    record { tree = x ∙ ap (put t 0) p; signatures = y ∙ ap (put g 0) q; bitfield = z ∙ ap (put b 0) r }

-- ---- all of it

pub filled_fits : (t b c chunk : List ℕ) (n size : ℕ) → StoreFits t b c n size chunk → length c < 2 ^ 64 → FilledFits t n (length chunk)
filled_fits t b c chunk n size w l = record { few = w.few; room = w.tree; sum = omega (arith, w.content, w.sum) }

pub store_post : (t b c v b' c' chunk h root : List ℕ) (n size end : ℕ) → StoreFits t b c n size chunk → size + length chunk ≡ end
    → c' ≡ put c size chunk → h ≡ node_hash (leaf_message (take (end - size) (drop size c'))) → v ≡ with_leaf t n (record { hash = h; size = length chunk })
    → b' ≡ appended b n → root ≡ node_hash (stored_root_message v (n + 1)) → StorePost t b c n size chunk root v b' c'
store_post t b c v b' c' chunk h root n size end w m p q s x y =
    let e : v ≡ appended_tree node_hash t n chunk =
    leaf_tree t v n chunk (record { hash = h; size = length chunk }) (leaf_there c c' chunk h size end p m (omega (arith, w.content)) q) s
    in
    record { tree = e; bitfield = x; content = p; root = y ∙ ap (λ (l : List ℕ). node_hash (stored_root_message l (n + 1))) e }
