-- The walk along two packets that pass the check, from the code's tests.
-- Assumes nothing.
use Prim.Native.Nat.{ℕ, ◌+◌, ◌*◌, ◌≤◌}
use mathlib.Core.Path.{◌≡◌, sym, ap, ap₂, ◌∙◌, subst}
use mathlib.Core.Logic.{◌≢◌}
use mathlib.Core.Bool.{Bool, true, false}
use mathlib.Core.List.{List, ◌∷◌, map}
use native.Mathlib.Omega.{arith}
use lib.ListN.{length}
use Rattle.byte_strings.specs.Lists.{Bytes, total, same_list}
use Rattle.byte_strings.proofs.Lists.{length_part, same_eq}
use Rattle.tree_index.specs.Tree.{index}
use Rattle.blake2b.specs.Hash.{node_hash}
use Rattle.file_format.specs.Messages.{leaf_message}
use Rattle.file_format.specs.Entries.{Entry, leaf}
use Rattle.file_format.proofs.Hashed.{hash_function}
use Rattle.compare.proofs.Local.{same_false}
use Rattle.compare.proofs.Apart.{leaf_injective}
use Rattle.packet.specs.Packet.{siblings}
use Rattle.packet.specs.Check.{Step, chunk_length, siblings_place, packet_chunk, entry_in, entries_in, sibling_entries, packet_total, steps_above, steps, last_entry, packet_root}
use Rattle.packet.specs.Inner.{sizes_in, Climbable}
use Rattle.packet.proofs.Above.{few_siblings}
use Rattle.packet.proofs.Right.{map_run}
use Rattle.packet.proofs.Rows.{siblings_count}
use Rattle.packet_compare.specs.Walk.{Walk, same_chunk, at_index, at_roots, first_pair, root_pair, walk}
use Rattle.packet_compare.specs.Inner.{Framed, Whole, Climbable2, up_along}
use Rattle.packet_compare.proofs.Up.{Outcome, found, through, stops, passes_on, walk_up}
use Rattle.packet_compare.proofs.Roots.{siblings_whole}
use Rattle.packet_compare.proofs.Tells.{Held, low_whole, root_named, walks, same_said}

-- ---- one packet

module _ (p : List ℕ) (n c : ℕ) (root : List ℕ) (h : Held node_hash p n c root) where
  pub framed : Framed p
  framed = let z = h.sizes in record { front = z.front; chunk = z.chunk; inside = omega (arith, z.whole) }

  pub chunk_long : length (packet_chunk p) ≡ chunk_length p
  unfolding packet_chunk
  chunk_long = length_part p 4 (chunk_length p) (omega (arith, h.sizes.whole))

  sizes_are : total (map (λ (e : Entry). e.size) (sibling_entries p n c)) ≡ total (sizes_in p (4 + chunk_length p + 1) (length (siblings n c)))
  unfolding sibling_entries entries_in sizes_in siblings_place
  sizes_are = ap total (map_run (λ (e : Entry). e.size) (λ j. entry_in p (4 + chunk_length p + 1 + 40 * j)) 0 (length (siblings n c)))

  sums : chunk_length p + total (sizes_in p (4 + chunk_length p + 1) (length (siblings n c))) ≤ 68719476736
  unfolding packet_total
  sums = omega (arith, h.sum, sizes_are)

  pub leaf_climbs : Climbable p (4 + chunk_length p + 1) (length (siblings n c)) (leaf node_hash (packet_chunk p)).size
  unfolding leaf
  leaf_climbs =
      record {
        row = record { few = few_siblings n c h.chunk; inside = omega (arith, h.sizes.whole) };
        sum = subst (λ (x : ℕ). x + total (sizes_in p (4 + chunk_length p + 1) (length (siblings n c))) ≤ 68719476736) (sym chunk_long) sums;
      }

-- the same, at the place and with the count that the code has
climbs_at : (p : List ℕ) {l u : ℕ} (at count : ℕ) {e : Entry} (x : Entry) → Climbable p l u e.size → at ≡ l → count ≡ u → x ≡ e
    → Climbable p at count x.size
climbs_at p {l} {u} at count {e} x k ea ec ex =
    subst (λ (a : ℕ). Climbable p a count x.size) (sym ea)
    (subst (λ (m : ℕ). Climbable p l m x.size) (sym ec) (subst (λ (y : Entry). Climbable p l u y.size) (sym ex) k))

-- ---- both

module _ (p q : List ℕ) (n c : ℕ) (root : List ℕ) (h : Held node_hash p n c root) (g : Held node_hash q n c root) (b : Bytes p) (d : Bytes q) where
  pub said_same : (r : Bool) → r ≡ same_list (packet_chunk p) (packet_chunk q) → r ≡ true → same_chunk ≡ walk node_hash p q n c
  said_same r t u = sym (same_said node_hash p q n c root (same_eq (packet_chunk p) (packet_chunk q) (sym t ∙ u)))

  module _ (r : Bool) (t : r ≡ same_list (packet_chunk p) (packet_chunk q)) (u : r ≡ false) where
    ne : packet_chunk p ≢ packet_chunk q
    ne = same_false (packet_chunk p) (packet_chunk q) (sym t ∙ u)

    messages : leaf_message (packet_chunk p) ≢ leaf_message (packet_chunk q)
    messages x = ne (leaf_injective (packet_chunk p) (packet_chunk q) x)

    abbrev e : Entry
    e = leaf node_hash (packet_chunk p)

    abbrev f : Entry
    f = leaf node_hash (packet_chunk q)

    abbrev over : List Step
    over = steps_above node_hash 0 c e (sibling_entries p n c)

    abbrev over2 : List Step
    over2 = steps_above node_hash 0 c f (sibling_entries q n c)

    low : Step
    low = record { at = index 0 c; message = leaf_message (packet_chunk p); entry = e }

    low2 : Step
    low2 = record { at = index 0 c; message = leaf_message (packet_chunk q); entry = f }

    begun : walk node_hash p q n c ≡ first_pair node_hash (low ∷ over) (low2 ∷ over2) (root_pair node_hash p q n c)
    unfolding steps low low2
    begun = walks node_hash hash_function n c p q b d root h g ne

    module _ (x y : Entry) (ex : x ≡ e) (ey : y ≡ f) (s : Bool) (v : s ≡ same_list x.hash y.hash) where
      same_hash_lem : s ≡ true → node_hash low.message ≡ node_hash low2.message
      unfolding low low2 leaf
      same_hash_lem w = ap (λ (z : Entry). z.hash) (sym ex) ∙ same_eq x.hash y.hash (sym v ∙ w) ∙ ap (λ (z : Entry). z.hash) ey

      pub said_leaf : s ≡ true → (i : ℕ) → i ≡ index 0 c → at_index i ≡ walk node_hash p q n c
      unfolding low low2
      said_leaf w i z =
          ap at_index z ∙ sym (begun ∙ stops node_hash low low2 over over2 e f messages (same_hash_lem w) (root_pair node_hash p q n c))

      differ : s ≡ false → e.hash ≢ f.hash
      differ w z = same_false x.hash y.hash (sym v ∙ w) (ap (λ (a : Entry). a.hash) ex ∙ z ∙ ap (λ (a : Entry). a.hash) (sym ey))

      pub two_climb : (count at at2 : ℕ) → count ≡ length (siblings n c) → at ≡ 4 + chunk_length p + 1 → at2 ≡ 4 + chunk_length q + 1 → s ≡ false
          → Climbable2 p at x q at2 y count c
      two_climb count at at2 ec ea eb w =
          let wp = low_whole node_hash hash_function n c p b in
          let wq = low_whole node_hash hash_function n c q d in
          record {
            first = climbs_at p at count x (leaf_climbs p n c root h) ea ec ex;
            second = climbs_at q at2 count y (leaf_climbs q n c root g) eb ec ey;
            bytes = (b, d);
            whole = (subst Whole (sym ex) wp, subst Whole (sym ey) wq);
            small = omega (arith, h.chunk.count, h.chunk.below);
            differ = λ z. differ w (ap (λ (a : Entry). a.hash) (sym ex) ∙ z ∙ ap (λ (a : Entry). a.hash) ey);
          }

      -- the entry at the top is the packet's root
      at_tops : (last_entry e over).hash ≢ (last_entry f over2).hash → (packet_root node_hash p n c).hash ≢ (packet_root node_hash q n c).hash
      unfolding packet_root steps last_entry
      at_tops z = z

      -- the same answer whether the roots are judged or not
      ended : s ≡ false → first_pair node_hash over over2 (root_pair node_hash p q n c) ≡ first_pair node_hash over over2 at_roots
      ended apart = go way
        where
          way : Outcome node_hash over over2 (last_entry e over) (last_entry f over2)
          way =
              walk_up node_hash hash_function 0 c e f (sibling_entries p n c) (sibling_entries q n c) (low_whole node_hash hash_function n c p b)
              (low_whole node_hash hash_function n c q d) (siblings_whole p n c b h.sizes) (siblings_whole q n c d g.sizes)
              (siblings_count p n c ∙ sym (siblings_count q n c)) (differ apart)

          go : Outcome node_hash over over2 (last_entry e over) (last_entry f over2)
              → first_pair node_hash over over2 (root_pair node_hash p q n c) ≡ first_pair node_hash over over2 at_roots
          go (found j w a o) = w (root_pair node_hash p q n c) ∙ sym (w at_roots)
          go (through w o z) =
              ap (first_pair node_hash over over2) (root_named node_hash hash_function n c p q b d root h g ne (at_tops z))

      -- what is left is the climb, and at its end the roots are a pair
      pub said_up : (count at at2 : ℕ) → count ≡ length (siblings n c) → at ≡ 4 + chunk_length p + 1 → at2 ≡ 4 + chunk_length q + 1 → s ≡ false
          → (w : Walk) → w ≡ up_along p at x q at2 y count c → w ≡ walk node_hash p q n c
      unfolding low low2 leaf up_along sibling_entries siblings_place
      said_up count at at2 ec ea eb apart w z =
          let first : steps_above node_hash 0 c x (entries_in p at count) ≡ over =
          λ t. steps_above node_hash 0 c (ex t) (entries_in p (ea t) (ec t)) in
          let second : steps_above node_hash 0 c y (entries_in q at2 count) ≡ over2 =
          λ t. steps_above node_hash 0 c (ey t) (entries_in q (eb t) (ec t)) in
          z ∙ ap₂ (λ (k l : List Step). first_pair node_hash k l at_roots) first second
          ∙ sym (begun ∙ passes_on node_hash low low2 over over2 e f (differ apart) (root_pair node_hash p q n c) ∙ ended apart)
