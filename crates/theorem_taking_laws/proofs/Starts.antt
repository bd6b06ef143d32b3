-- Of a tree file that holds what a packet brings: the descent to its chunk comes to the leaf, at the start that the packet gives; what it reads is brought;
-- and the roots' lengths add up to the packet's total.
-- Assumes nothing.
use Prim.Native.Nat.{ℕ, zero, suc, ◌+◌, ◌-◌, ◌*◌, ◌/◌, ◌%◌, ◌^◌, ◌≤◌, ◌<◌}
use mathlib.Core.Path.{◌≡◌, refl, sym, ap, ap₂, ◌∙◌, subst}
use mathlib.Core.Bool.{Bool, true, false, cond}
use mathlib.Core.Logic.{◌⊎◌, inl, inr}
use mathlib.Core.List.{List, [], ◌∷◌, map, map-append}
use native.Mathlib.Nat.{zero-add, add-zero, div-one}
use native.Mathlib.Omega.{arith}
use borrow.Author.Tests.{eqb-true, eqb-false}
use lib.Dec.{ltb, eqb}
use lib.ListN.{length, get_or}
use Rattle.byte_strings.specs.Lists.{run, total, Bytes}
use Rattle.byte_strings.proofs.Lists.{length_part, get_or_run, run_add, run_suc, run_get_or, total_append, bytes_part}
use Rattle.byte_strings.proofs.Numbers.{eight_lt}
use Rattle.byte_strings.proofs.Bools.{chosen}
use Rattle.tree_index.specs.Tree.{index, roots}
use Rattle.tree_index.proofs.Roots.{bit}
use Rattle.file_format.specs.Sizes.{longest_chunk}
use Rattle.file_format.specs.Messages.{HashFunction, leaf_message, parent_message}
use Rattle.file_format.specs.Entries.{Entry, hole, leaf, parent_of}
use Rattle.file_format.specs.Stored.{stored_hash, stored_size, stored_root_sizes}
use Rattle.file_format.proofs.Nodes.{Proper, leaf_message_bytes, parent_message_bytes}
use Rattle.lookup.specs.Descent.{reached, chunk_within, descent, always}
use Rattle.lookup.specs.Theorems.{Right}
use Rattle.packet.specs.Packet.{root_above, siblings, without, other_roots}
use Rattle.packet.specs.Check.{chunk_length, siblings_place, others_place, packet_chunk, entry_in, entries_in, sibling_entries, other_entries, packet_total, ordered}
use Rattle.packet.specs.Inner.{ChunkOf, Shaped}
use Rattle.packet.proofs.Above.{Distinct, roots_distinct}
use Rattle.packet.proofs.Climb.{ordered_size, left_first, right_first}
use Rattle.packet.proofs.Right.{map_run}
use Rattle.packet.proofs.Rows.{siblings_count}
use Rattle.packet_compare.proofs.Stands.{sibling_is}
use Rattle.lookup.proofs.ReadOrder.{reads}
use Rattle.copy_take_in.specs.TakeIn.{Given, given_at, lying, left_size, packet_start, brought}
use Rattle.copy_take_in.specs.Inner.{Fits}
use Rattle.copy_take_in.proofs.Places.{placed, chunk_long}
use Rattle.byte_strings.proofs.Members.{In}
use Rattle.theorem_taking_laws.proofs.Distinct.{apart_out}
use Rattle.theorem_taking_laws.proofs.Ways.{way_index, side_index}
use Rattle.theorem_taking_laws.proofs.Brought.{way_entry, side_entry_lem, other_entry_lem, Brings, on_way, beside_way, other_root_lem}
use Rattle.theorem_taking_laws.proofs.Made.{made, way_leaf}
use Rattle.theorem_taking_laws.proofs.Made.{way_next}
use Rattle.theorem_taking_laws.proofs.Brought.{brings, way_brought, side_brought, other_brought, others_count}
use Rattle.theorem_taking_laws.proofs.Ways.{top_root, above_root}
use Rattle.theorem_taking_laws.proofs.Among.{root_brought}
use Rattle.theorem_taking_laws.proofs.ReadsNear.{NearWay, reads_near}
use Rattle.theorem_taking_laws.proofs.Reaches.{left_at, chunk_start, WayRight, reaches}

-- a tree file holds an entry at its index
pub record HoldsEntry (t : List ℕ) (g : Given) : Type 0 where
  pub hash : stored_hash t g.at ≡ g.entry.hash
  pub size : stored_size t g.at ≡ g.entry.size

abbrev pub HoldsAll : List ℕ → List Given → Type 0
HoldsAll t gs = (g : Given) → In g gs → HoldsEntry t g

-- ---- sums

pub without_none : (x : ℕ) (is : List ℕ) → (In x is → ⊥) → without x is ≡ is
unfolding without In
without_none x [] h = refl
without_none x (i ∷ is) h = pick (eqb i x) refl (without_none x is (λ m. h (inr m)))
  where
    pick : (b : Bool) → eqb i x ≡ b → without x is ≡ is → chosen b (without x is) (i ∷ without x is) ≡ i ∷ is
    pick true e r = absurd (h (inl (eqb-true i x e)))
    pick false e r = ap (λ (l : List ℕ). i ∷ l) r

pub total_without : (f : ℕ → ℕ) (x : ℕ) (is : List ℕ) → Distinct is → In x is → total (map f is) ≡ f x + total (map f (without x is))
unfolding without In Distinct total
total_without f x [] a h = absurd h
total_without f x (i ∷ is) a h = pick (eqb i x) refl (total_without f x is a.1) h
  where
    pick : (b : Bool) → eqb i x ≡ b → (In x is → total (map f is) ≡ f x + total (map f (without x is))) → (i ≡ x) ⊎ In x is
        → f i + total (map f is) ≡ f x + total (map f (chosen b (without x is) (i ∷ without x is)))
    pick true e rec m =
        let q : i ≡ x = eqb-true i x e in
        let out : In x is → ⊥ = λ l. apart_out i is a.0 (subst (λ (y : ℕ). In y is) (sym q) l) in
        ap₂ (λ (u v : ℕ). u + v) (ap f q) (ap (λ (l : List ℕ). total (map f l)) (sym (without_none x is out)))
    pick false e rec (inl q) = absurd (eqb-false i x e q)
    pick false e rec (inr l) = omega (arith, rec l)

module _ (f : ℕ → ℕ) where
  -- lengths at indexes that a tree file holds
  sums_given : (is : List ℕ) (es : List Entry) → length es ≡ length is → ((j : ℕ) → j < length is → f (get_or is j 0) ≡ (get_or es j hole).size)
      → total (map f is) ≡ total (map (λ (e : Entry). e.size) es)
  unfolding total
  sums_given [] [] l h = refl
  sums_given [] (e ∷ es) l h = absurd (omega arith)
  sums_given (i ∷ is) [] l h = absurd (omega arith)
  sums_given (i ∷ is) (e ∷ es) l h =
      ap₂ (λ (u v : ℕ). u + v) (h 0 (omega arith)) (sums_given is es (omega arith) (λ j m. h (suc j) (omega arith)))

left_given : (t : List ℕ) (c : ℕ) (is : List ℕ) (es : List Entry) → length es ≡ length is
    → ((j : ℕ) → j < length is → stored_size t (get_or is j 0) ≡ (get_or es j hole).size)
    → total (map (left_size (index 0 c)) (given_at is es)) ≡ total (map (left_at t c) is)
unfolding total given_at left_size left_at
left_given t c [] es l h = refl
left_given t c (i ∷ is) [] l h = absurd (omega arith)
left_given t c (i ∷ is) (e ∷ es) l h =
    ap₂ (λ (u v : ℕ). u + v) (ap (λ (x : ℕ). cond (ltb i (index 0 c)) x 0) (sym (h 0 (omega arith))))
    (left_given t c is es (omega arith) (λ j m. h (suc j) (omega arith)))

-- ---- lengths on the way

module _ (F : List ℕ → List ℕ) (p : List ℕ) (n c : ℕ) where
  abbrev side_sizes : ℕ → List ℕ
  side_sizes d = run (λ j. (side_entry_lem p n c j).size) 0 d

  -- an entry of the way is as long as the chunk and the siblings below it
  pub way_size : (d : ℕ) → d ≤ length (siblings n c) → (way_entry F p n c d).size ≡ length (packet_chunk p) + total (side_sizes d)
  unfolding leaf run total
  way_size zero l = ap (λ (e : Entry). e.size) (way_leaf F p n c) ∙ sym (add-zero (length (packet_chunk p)))
  way_size (suc d) l =
      let f : ℕ → ℕ = λ j. (side_entry_lem p n c j).size in
      let more : total (run f 0 (suc d)) ≡ total (run f 0 d) + f d =
      ap total (run_suc f 0 d) ∙ total_append (run f 0 d) (f (0 + d) ∷ []) ∙ ap (λ (x : ℕ). total (run f 0 d) + x) (add-zero (f (0 + d)) ∙ ap f (zero-add d)) in
      let next : (way_entry F p n c (suc d)).size ≡ (way_entry F p n c d).size + f d =
      ap (λ (e : Entry). e.size) (way_next F p n c d l) ∙ ordered_size F (c / 2 ^ d) (way_entry F p n c d) (side_entry_lem p n c d) in
      omega (arith, way_size d (omega arith))

  all_sides : total (side_sizes (length (siblings n c))) ≡ total (map (λ (e : Entry). e.size) (sibling_entries p n c))
  all_sides =
      ap total (sym (map_run (λ (e : Entry). e.size) (λ j. get_or (sibling_entries p n c) j hole) 0 (length (siblings n c))
      ∙ refl) ∙ ap (map (λ (e : Entry). e.size)) (run_get_or (sibling_entries p n c) (length (siblings n c)) hole (siblings_count p n c)))

  some_sides : (d : ℕ) → d ≤ length (siblings n c) → total (side_sizes d) ≤ total (side_sizes (length (siblings n c)))
  some_sides d l =
      let f : ℕ → ℕ = λ j. (side_entry_lem p n c j).size in
      let e : length (siblings n c) ≡ d + (length (siblings n c) - d) = omega arith in
      omega (arith, ap (λ (x : ℕ). total (run f 0 x)) e ∙ ap total (run_add f 0 d (length (siblings n c) - d)) ∙ total_append (run f 0 d) (run f (0 + d) (length (siblings n c) - d)))

  -- the root above the chunk is as long as the chunk and all siblings
  pub top_size : (way_entry F p n c (length (siblings n c))).size ≡ length (packet_chunk p) + total (map (λ (e : Entry). e.size) (sibling_entries p n c))
  top_size = way_size (length (siblings n c)) (omega arith) ∙ ap (λ (x : ℕ). length (packet_chunk p) + x) all_sides

  pub way_small : Shaped p n c → (d : ℕ) → d ≤ length (siblings n c) → (way_entry F p n c d).size ≤ packet_total p n c
  unfolding packet_total
  way_small s d l = omega (arith, way_size d l, some_sides d l, all_sides, chunk_long p n c s)

-- ---- where the tree file holds it

module _ (F : List ℕ → List ℕ) (p : List ℕ) (n c : ℕ) (h : ChunkOf n c) (t : List ℕ) (holds : HoldsAll t (brought F p n c)) where
  pub leaf_size : stored_size t (index 0 c) ≡ length (packet_chunk p)
  unfolding leaf
  leaf_size =
      ap (λ (x : ℕ). stored_size t (index 0 x)) (sym (div-one c)) ∙ (holds _ (way_brought F p n c 0 (omega arith))).size
      ∙ ap (λ (e : Entry). e.size) (way_leaf F p n c)

  pub way_right : length (packet_chunk p) ≤ longest_chunk → WayRight t c (length (siblings n c))
  unfolding parent_of
  way_right l = (
    (λ e m.
        let q = made F p n c e m in
        (holds _ (way_brought F p n c (suc e) m)).size ∙ ap (λ (x : Entry). x.size) q.same
        ∙ sym (ap₂ (λ (x y : ℕ). x + y) (holds _ q.left_in_lem).size (holds _ q.right_in).size)),
    subst (λ (x : ℕ). x ≤ longest_chunk) (sym leaf_size) l,
  )

  pub start_is : chunk_start t n c ≡ packet_start p n c
  unfolding chunk_start packet_start lying
  start_is =
      sym (ap total (map-append (left_size (index 0 c)) (given_at (siblings n c) (sibling_entries p n c)) (given_at (other_roots n c) (other_entries p n c)))
      ∙ total_append (map (left_size (index 0 c)) (given_at (siblings n c) (sibling_entries p n c))) (map (left_size (index 0 c)) (given_at (other_roots n c) (other_entries p n c)))
      ∙ ap₂ (λ (x y : ℕ). x + y)
      (left_given t c (siblings n c) (sibling_entries p n c) (siblings_count p n c)
      (λ j l. ap (stored_size t) (sibling_is F p n c j l) ∙ (holds _ (side_brought F p n c j l)).size))
      (left_given t c (other_roots n c) (other_entries p n c) (others_count p n c) (λ j l. (holds _ (other_brought F p n c j l)).size)))

  -- the descent to the packet's chunk
  pub packet_descent : length (packet_chunk p) ≤ longest_chunk → descent always (chunk_within c) t n ≡ reached c (packet_start p n c)
  packet_descent l = reaches t c n h (way_right l) ∙ ap (reached c) start_is

  -- everything that it reads is brought
  pub reads_brought : (x : ℕ) → In x (reads (chunk_within c) t n) → (e : Entry) × In (record { at = x; entry = e }) (brought F p n c)
  reads_brought x m = pick (reads_near t c n h x m)
    where
      near : (d : ℕ) → d < length (siblings n c) → (x ≡ way_index c d) ⊎ (x ≡ side_index c d) → (e : Entry) × In (record { at = x; entry = e }) (brought F p n c)
      near d l (inl q) = (
        way_entry F p n c d,
        subst (λ (y : ℕ). In (record { at = y; entry = way_entry F p n c d }) (brought F p n c)) (sym q) (way_brought F p n c d (omega arith)),
      )
      near d l (inr q) = (
        side_entry_lem p n c d,
        subst (λ (y : ℕ). In (record { at = y; entry = side_entry_lem p n c d }) (brought F p n c)) (sym q) (side_brought F p n c d l),
      )

      pick : In x (roots n) ⊎ NearWay c (length (siblings n c)) x → (e : Entry) × In (record { at = x; entry = e }) (brought F p n c)
      pick (inl r) = root_brought n c h F p x r
      pick (inr q) = near q.0 q.1 q.2

  -- the roots' lengths
  pub roots_total : Shaped p n c → total (stored_root_sizes t n) ≡ packet_total p n c
  unfolding stored_root_sizes packet_total other_roots
  roots_total s =
      let r : ℕ = root_above (roots n) c in
      let split : total (map (stored_size t) (roots n)) ≡ stored_size t r + total (map (stored_size t) (other_roots n c)) =
      total_without (stored_size t) r (roots n) (roots_distinct n) (above_root n c h) in
      let top : stored_size t r ≡ (way_entry F p n c (length (siblings n c))).size =
      ap (stored_size t) (sym (top_root n c h)) ∙ (holds _ (way_brought F p n c (length (siblings n c)) (omega arith))).size in
      let others : total (map (stored_size t) (other_roots n c)) ≡ total (map (λ (e : Entry). e.size) (other_entries p n c)) =
      sums_given (stored_size t) (other_roots n c) (other_entries p n c) (others_count p n c) (λ j l. (holds _ (other_brought F p n c j l)).size) in
      omega (arith, top_size F p n c, chunk_long p n c s)

-- ---- each entry that is brought fits its 40 bytes

module _ (F : List ℕ → List ℕ) (hash : HashFunction F) (p : List ℕ) (bytes : Bytes p) (n c : ℕ) (f : Fits p n c) where
  in_proper : (at : ℕ) → at + 40 ≤ length p → Proper (entry_in p at)
  unfolding entry_in
  in_proper at l =
      record { long = length_part p at 32 (omega arith); bytes = bytes_part p at 32 bytes; fits = eight_lt p (at + 32) bytes (omega arith) }

  side_proper : (d : ℕ) → d < length (siblings n c) → Proper (side_entry_lem p n c d)
  unfolding sibling_entries entries_in siblings_place
  side_proper d l =
      let z = placed p n c f.shaped in
      subst Proper (sym (get_or_run (λ j. entry_in p (4 + chunk_length p + 1 + 40 * j)) 0 (length (siblings n c)) d hole l))
      (in_proper (4 + chunk_length p + 1 + 40 * (0 + d)) (omega arith))

  other_proper : (j : ℕ) → j < length (other_roots n c) → Proper (other_entry_lem p n c j)
  unfolding other_entries entries_in others_place siblings_place
  other_proper j l =
      let z = placed p n c f.shaped in
      subst Proper (sym (get_or_run (λ i. entry_in p (4 + chunk_length p + 1 + 40 * length (siblings n c) + 1 + 40 * i)) 0 (length (other_roots n c)) j hole l))
      (in_proper (4 + chunk_length p + 1 + 40 * length (siblings n c) + 1 + 40 * (0 + j)) (omega arith))

  parent_proper : (l r : Entry) → Proper l → Proper r → l.size + r.size ≤ 68719476736 → Proper (parent_of F l r)
  unfolding parent_of
  parent_proper l r a b s =
      let m : Bytes (parent_message (l.size + r.size) l.hash r.hash) = parent_message_bytes (l.size + r.size) l.hash r.hash a.bytes b.bytes in
      record { long = hash.size _ m; bytes = hash.byte _ m; fits = omega arith }

  pub way_proper : (d : ℕ) → d ≤ length (siblings n c) → Proper (way_entry F p n c d)
  unfolding leaf packet_chunk
  way_proper zero l =
      let m : Bytes (leaf_message (packet_chunk p)) = leaf_message_bytes (packet_chunk p) (bytes_part p 4 (chunk_length p) bytes) in
      let z = placed p n c f.shaped in
      subst Proper (sym (way_leaf F p n c)) (record { long = hash.size _ m; bytes = hash.byte _ m; fits = omega (arith, chunk_long p n c f.shaped) })
  way_proper (suc d) l = subst Proper (sym (way_next F p n c d l)) (pick (bit (c / 2 ^ d)) (way_proper d (omega arith)))
    where
      small : (way_entry F p n c d).size + (side_entry_lem p n c d).size ≤ 68719476736
      small =
          omega (
            arith,
            way_small F p n c f.shaped (suc d) l,
            f.small,
            ap (λ (e : Entry). e.size) (way_next F p n c d l) ∙ ordered_size F (c / 2 ^ d) (way_entry F p n c d) (side_entry_lem p n c d),
          )

      pick : (c / 2 ^ d % 2 ≡ 0) ⊎ (c / 2 ^ d % 2 ≡ 1) → Proper (way_entry F p n c d) → Proper (ordered (c / 2 ^ d) (parent_of F) (way_entry F p n c d) (side_entry_lem p n c d))
      pick (inl z) w =
          subst Proper (sym (left_first F (c / 2 ^ d) (way_entry F p n c d) (side_entry_lem p n c d) z))
          (parent_proper (way_entry F p n c d) (side_entry_lem p n c d) w (side_proper d l) small)
      pick (inr z) w =
          subst Proper (sym (right_first F (c / 2 ^ d) (way_entry F p n c d) (side_entry_lem p n c d) z))
          (parent_proper (side_entry_lem p n c d) (way_entry F p n c d) (side_proper d l) w (omega (arith, small)))

  pub brought_proper : (g : Given) → In g (brought F p n c) → Proper g.entry
  brought_proper g i = pick (brings F p n c g i)
    where
      pick : Brings F p n c g → Proper g.entry
      pick (on_way d l a e) = subst Proper (sym e) (way_proper d l)
      pick (beside_way d l a e) = subst Proper (sym e) (side_proper d l)
      pick (other_root_lem j l a e) = subst Proper (sym e) (other_proper j l)
