-- The entries of an append as the code writes them, one after the other upward, and what is read in between.
-- Assumes nothing.
use Prim.Native.Nat.{ℕ, zero, suc, ◌+◌, ◌-◌, ◌*◌, ◌/◌, ◌^◌, ◌≤◌, ◌<◌}
use mathlib.Core.Path.{◌≡◌, refl, sym, ap, ap₂, ◌∙◌}
use mathlib.Core.Bool.{true, false}
use mathlib.Core.List.{List, [], ◌∷◌, map, map-append}
use native.Mathlib.Nat.{add-zero, zero-add, add-suc, suc-add}
use native.Mathlib.Numerals.{add-one}
use native.Mathlib.Omega.{arith}
use lib.ListN.{length, get_or, length-append, get_or-append}
use lib.Pow.{pow_pos}
use Rattle.byte_strings.specs.Lists.{put, run, total}
use Rattle.tree_index.specs.Tree.{index, filled, completed, filled_by, entries, roots}
use Rattle.tree_index.proofs.Filled.{block_end, end_filled, filled_below}
use Rattle.tree_index.proofs.Appended.{completed_end, newly_filled_lem, newly_hole}
use Rattle.tree_index.proofs.Roots.{Carried, siblings, completed_half, carried, root_filled}
use Rattle.file_format.specs.Sizes.{most_chunks, entry_place, used_tree}
use Rattle.file_format.specs.Entries.{Entry, entry_bytes, parent_of}
use Rattle.file_format.specs.Stored.{stored_hash, stored_size, stored_root_sizes}
use Rattle.file_format.specs.Inner.{EntryIn}
use Rattle.file_format.proofs.Nodes.{entry_bytes_length}
use Rattle.file_format.proofs.OfImage.{entry_inside}
use Rattle.file_format.proofs.Spans.{total_append}
use Rattle.file_format.proofs.Written.{entry_length, other_hash, other_size}
use Rattle.blake2b.specs.Hash.{node_hash}
use Rattle.blake2b.proofs.Laws.{node_length}
use Rattle.writing.specs.Append.{stored_entry, sibling, with_entries, climb}
use Rattle.writing.specs.Inner.{place, made}
use Rattle.writing.proofs.Made.{climb_made}
use Rattle.writing.proofs.Tree.{never}

-- ---- where the nodes stand

module _ (n d : ℕ) (few : n < most_chunks) where
  small : n + 1 < 2 ^ 64
  small = omega arith

  -- there is a block before the one that ends with the chunk n, where a parent of both is completed
  pub block_two : d < completed n → 2 ≤ (n + 1) / 2 ^ d
  block_two h = omega (arith, completed_half n d small h)

  -- the node is filled with the chunk n, and not before
  pub place_new : d ≤ completed n → filled (n + 1) (place n d) ≡ true
  unfolding place
  place_new h = newly_filled_lem n d small h

  pub place_hole : d ≤ completed n → filled n (place n d) ≡ false
  unfolding place
  place_hole h = newly_hole n d small h

  -- its left sibling is filled before
  pub sibling_filled : d < completed n → filled n (sibling n d) ≡ true
  unfolding sibling
  sibling_filled h =
      let q : ℕ = (n + 1) / 2 ^ d in
      let two : 2 ≤ (n + 1) / 2 ^ d = block_two h in
      let e : (q - 2 + 1 + 1) * 2 ^ d ≡ n + 1 = ap (λ (x : ℕ). x * 2 ^ d) (omega arith) ∙ completed_end n d small (omega arith) in
      end_filled n d ((n + 1) / 2 ^ d - 2) (omega (arith, e, block_end d (q - 2 + 1), pow_pos d))

-- an entry that is filled among n + 1 chunks lies within a file that has room for them
pub filled_in : (t : List ℕ) (n i : ℕ) → n < most_chunks → used_tree (n + 1) ≤ length t → filled (n + 1) i ≡ true → EntryIn t i
unfolding entries
filled_in t n i few room f =
    let b : i < 2 * (n + 1) - 1 = filled_below (n + 1) i f in
    record { small = omega arith; inside = omega (arith, entry_inside i (n + 1) (filled_below (n + 1) i f)) }

-- ---- the entries

pub made_first : (t : List ℕ) (n : ℕ) (e : Entry) → e ≡ made node_hash t n e 0
unfolding made
made_first t n e = refl

-- each is an entry of 40 bytes where the leaf is
made_long : (t : List ℕ) (n : ℕ) (e : Entry) → length e.hash ≡ 32 → (d : ℕ) → length (entry_bytes (made node_hash t n e d)) ≡ 40
unfolding made parent_of
made_long t n e l d = entry_bytes_length (made node_hash t n e d) (hash_long d)
  where
    hash_long : (d : ℕ) → length (made node_hash t n e d).hash ≡ 32
    hash_long zero = l
    hash_long (suc d) = node_length _

-- ---- their lengths

-- the stored lengths of k siblings from the depth d upward
beside : List ℕ → ℕ → ℕ → ℕ → ℕ
beside t n d k = total (map (stored_size t) (siblings n d k))

beside_none : (t : List ℕ) (n d : ℕ) → beside t n d 0 ≡ 0
unfolding beside siblings total
beside_none t n d = refl

beside_suc : (t : List ℕ) (n d k : ℕ) → beside t n d (suc k) ≡ beside t n (suc d) k + stored_size t (sibling n d)
unfolding beside siblings sibling total
beside_suc t n d k =
    let f : ℕ → ℕ = stored_size t in
    ap total (map-append f (siblings n (suc d) k) (index d ((n + 1) / 2 ^ d - 2) ∷ []))
    ∙ total_append (map f (siblings n (suc d) k)) (f (index d ((n + 1) / 2 ^ d - 2)) ∷ [])
    ∙ ap (λ (x : ℕ). total (map f (siblings n (suc d) k)) + x) (add-zero (f (index d ((n + 1) / 2 ^ d - 2))))

made_size : (F : List ℕ → List ℕ) (t : List ℕ) (n : ℕ) (e : Entry) (d k : ℕ) → (made F t n e d).size + beside t n d k ≡ e.size + beside t n 0 (d + k)
unfolding made parent_of stored_entry
made_size F t n e zero k = ap (λ (x : ℕ). e.size + beside t n 0 x) (sym (zero-add k))
made_size F t n e (suc d) k =
    let rec : (made F t n e d).size + beside t n d (suc k) ≡ e.size + beside t n 0 (d + suc k) = made_size F t n e d (suc k) in
    let same : beside t n 0 (d + suc k) ≡ beside t n 0 (suc d + k) = ap (beside t n 0) (add-suc d k ∙ sym (suc-add d k)) in
    omega (arith, rec, same, beside_suc t n d k)

-- the stored roots are those that stay roots with the chunk n, and the siblings
all_roots : (t : List ℕ) (n : ℕ) (r : Carried n) → total (stored_root_sizes t n) ≡ total (map (stored_size t) r.kept) + beside t n 0 (completed n)
unfolding beside stored_root_sizes
all_roots t n r =
    ap (λ (l : List ℕ). total (map (stored_size t) l)) r.before
    ∙ ap total (map-append (stored_size t) r.kept (siblings n 0 (completed n)))
    ∙ total_append (map (stored_size t) r.kept) (map (stored_size t) (siblings n 0 (completed n)))

-- "by 6 their sum fits": a parent is no longer than the stored roots and the leaf together
pub sum_le : (F : List ℕ → List ℕ) (t : List ℕ) (n : ℕ) (e : Entry) (d : ℕ) → n < most_chunks → d < completed n
    → stored_size t (sibling n d) + (made F t n e d).size ≤ total (stored_root_sizes t n) + e.size
sum_le F t n e d few h =
    let k : ℕ = completed n - suc d in
    let same : beside t n 0 (d + suc k) ≡ beside t n 0 (completed n) = ap (beside t n 0) (omega arith) in
    omega (arith, all_roots t n (carried n few), same, made_size F t n e d (suc k), beside_suc t n d k)

-- the roots that stay and the node that the chunk completes last are as long as the stored roots and the leaf together
pub top_size : (F : List ℕ → List ℕ) (t : List ℕ) (n : ℕ) (e : Entry) (r : Carried n)
    → total (map (stored_size t) r.kept) + (made F t n e (completed n)).size ≡ total (stored_root_sizes t n) + e.size
top_size F t n e r =
    let z : ℕ = completed n in
    let same : beside t n 0 (z + 0) ≡ beside t n 0 z = ap (beside t n 0) (add-zero z) in
    let none : beside t n z 0 ≡ 0 = beside_none t n z in
    omega (arith, all_roots t n r, same, none, made_size F t n e z 0)

-- a root that stays is filled before
pub kept_filled : (n : ℕ) (r : Carried n) (j : ℕ) → j < length r.kept → filled n (get_or r.kept j 0) ≡ true
kept_filled n r j l =
    let start = r.before in
    let long : length (roots n) ≡ length r.kept + length (siblings n 0 (completed n)) =
    ap length start ∙ length-append r.kept (siblings n 0 (completed n))
    in
    ap (filled n) (sym (get_or-append r.kept (siblings n 0 (completed n)) 0 j l) ∙ ap (λ (xs : List ℕ). get_or xs j 0) (sym start))
    ∙ root_filled n j (omega arith)

-- ---- the file on the way

-- u is the file t with the entries of the depths below d; what is filled among n chunks stands as it did
pub record Going (t : List ℕ) (n : ℕ) (e : Entry) (d : ℕ) (u : List ℕ) : Type 0 where
  pub rest : with_entries u (run (place n) d (completed n + 1 - d)) (run (made node_hash t n e) d (completed n + 1 - d))
      ≡ with_entries t (filled_by n) (climb node_hash t n 0 (completed n) e)
  pub hash : (i : ℕ) → filled n i ≡ true → stored_hash u i ≡ stored_hash t i
  pub size : (i : ℕ) → filled n i ≡ true → stored_size u i ≡ stored_size t i
  pub long : length u ≡ length t

pub going_none : {t : List ℕ} {n : ℕ} {e : Entry} → Going t n e 0 t
unfolding filled_by made place
going_none {t} {n} {e} =
    let all : completed n + 1 - 0 ≡ completed n + 1 = omega arith in
    record {
      rest =
          ap (λ (c : ℕ). with_entries t (run (λ d. index d ((n + 1) / 2 ^ d - 1)) 0 c) (run (made node_hash t n e) 0 c)) all
          ∙ ap (with_entries t (run (λ d. index d ((n + 1) / 2 ^ d - 1)) 0 (completed n + 1)))
          (ap (run (made node_hash t n e) 0) (add-one (completed n)) ∙ sym (climb_made node_hash t n e 0 (completed n)));
      hash = λ i f. refl;
      size = λ i f. refl;
      long = refl;
    }

pub going_next : {t : List ℕ} {n : ℕ} {e : Entry} {d : ℕ} {u v : List ℕ} → Going t n e d u → n < most_chunks → d ≤ completed n → used_tree (n + 1) ≤ length t
    → length e.hash ≡ 32 → v ≡ put u (entry_place (place n d)) (entry_bytes (made node_hash t n e d)) → Going t n e (d + 1) v
unfolding with_entries run
going_next {t} {n} {e} {d} {u} {v} g few h room l q =
    let long : length (entry_bytes (made node_hash t n e d)) ≡ 40 = made_long t n e l d in
    let inside : entry_place (place n d) + 40 ≤ length u =
    (filled_in u n (place n d) few (omega (arith, g.long)) (place_new n d few h)).inside
    in
    let apart : (i : ℕ) → filled n i ≡ true → i ≡ place n d → ⊥ =
    λ i f same. never (filled n (place n d)) (ap (filled n) (sym same) ∙ f) (place_hole n d few h)
    in
    let k : ℕ = completed n - d in
    let left : completed n + 1 - d ≡ suc k = omega arith in
    let left' : completed n + 1 - (d + 1) ≡ k = omega arith in
    record {
      rest =
          ap₂ (λ (x c : ℕ). with_entries v (run (place n) x c) (run (made node_hash t n e) x c)) (add-one d) left'
          ∙ ap (λ (x : List ℕ). with_entries x (run (place n) (suc d) k) (run (made node_hash t n e) (suc d) k)) q
          ∙ sym (ap (λ (c : ℕ). with_entries u (run (place n) d c) (run (made node_hash t n e) d c)) left)
          ∙ g.rest;
      hash = λ i f. ap (λ (x : List ℕ). stored_hash x i) q ∙ other_hash u (place n d) (entry_bytes (made node_hash t n e d)) long inside i (apart i f) ∙ g.hash i f;
      size = λ i f. ap (λ (x : List ℕ). stored_size x i) q ∙ other_size u (place n d) (entry_bytes (made node_hash t n e d)) long inside i (apart i f) ∙ g.size i f;
      long = ap length q ∙ entry_length u (place n d) (entry_bytes (made node_hash t n e d)) long inside ∙ g.long;
    }

pub going_all : {t : List ℕ} {n : ℕ} {e : Entry} (d : ℕ) {u : List ℕ} → d ≡ completed n → Going t n e (d + 1) u
    → u ≡ with_entries t (filled_by n) (climb node_hash t n 0 (completed n) e)
unfolding with_entries run
going_all {t} {n} {e} d {u} h g =
    let none : completed n + 1 - (d + 1) ≡ 0 = omega arith in
    sym (ap (λ (c : ℕ). with_entries u (run (place n) (d + 1) c) (run (made node_hash t n e) (d + 1) c)) none) ∙ g.rest

-- the entry above, read out of the file on the way
pub above_made : {t : List ℕ} {n : ℕ} {e : Entry} (d : ℕ) {u : List ℕ} {x y : Entry} → n < most_chunks → d < completed n → Going t n e (d + 1) u
    → x ≡ made node_hash t n e d → y ≡ parent_of node_hash (stored_entry u (sibling n d)) x → y ≡ made node_hash t n e (d + 1)
unfolding stored_entry made
above_made {t} {n} {e} d few h g p q =
    let f : filled n (sibling n d) ≡ true = sibling_filled n d few h in
    q
    ∙ ap₂ (parent_of node_hash)
    (ap₂ (λ (a : List ℕ) (b : ℕ). record { hash = a; size = b }) (g.hash (sibling n d) f) (g.size (sibling n d) f)) p
    ∙ ap (made node_hash t n e) (sym (add-one d))

-- and its length fits
pub above_fits : {t : List ℕ} {n : ℕ} {e : Entry} (d : ℕ) {u : List ℕ} {x : Entry} → n < most_chunks → d < completed n
    → total (stored_root_sizes t n) + e.size < 2 ^ 64 → Going t n e (d + 1) u → x ≡ made node_hash t n e d → stored_size u (sibling n d) + x.size < 2 ^ 64
above_fits {t} {n} {e} d {x = x} few h m g p =
    let s : x.size ≡ (made node_hash t n e d).size = ap (λ (y : Entry). y.size) p in
    omega (arith, sum_le node_hash t n e d few h, g.size (sibling n d) (sibling_filled n d few h), s)

-- one entry more, of the value x
pub going_step : {t : List ℕ} {n : ℕ} {e : Entry} {d : ℕ} {u v : List ℕ} {x : Entry} → Going t n e d u → n < most_chunks → d ≤ completed n
    → used_tree (n + 1) ≤ length t → length e.hash ≡ 32 → x ≡ made node_hash t n e d → v ≡ put u (entry_place (place n d)) (entry_bytes x) → Going t n e (d + 1) v
going_step {n = n} {d = d} {u = u} g few h room l p q =
    going_next g few h room l (q ∙ ap (λ (y : Entry). put u (entry_place (place n d)) (entry_bytes y)) p)
