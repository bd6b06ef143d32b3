-- The packet of a held chunk of a register that belongs to chunks, held or released, passes the check, and gives the chunk back.
-- Assumes nothing.
use Prim.Native.Nat.{ℕ, zero, suc, ◌+◌, ◌-◌, ◌*◌, ◌/◌, ◌%◌, ◌^◌, ◌≤◌, ◌<◌}
use mathlib.Core.Path.{◌≡◌, refl, sym, ap, ap₂, ◌∙◌, subst}
use mathlib.Core.Bool.{Bool, true, false, cond}
use mathlib.Core.Logic.{◌⊎◌, inl, inr}
use mathlib.Core.List.{List, [], ◌∷◌, ◌++◌, map}
use native.Mathlib.Nat.{zero-add, add-zero, add-suc, suc-add, add_assoc, div-one, div-eq_of_lt-le, le_of_suc-le-suc, not-suc-le-zero}
use native.Mathlib.Omega.{arith}
use lib.Dec.{ltb, eqb}
use lib.ListN.{length, get_or, take, drop, length-map}
use lib.Seq.{ext_get_or}
use borrow.Author.Tests.{ltb-true, ltb-false, le-ltb, eqb-true, eqb-false, le-leb}
use Rattle.answer_types.specs.Verdict.{Verdict, done, and_then}
use Rattle.byte_strings.specs.Lists.{part, run, total, same_list}
use Rattle.byte_strings.proofs.Lists.{length_run, get_or_run, run_ext, same_refl}
use Rattle.byte_strings.proofs.Bools.{true_both}
use Rattle.tree_index.specs.Tree.{index, depth, filled, roots}
use Rattle.tree_index.proofs.Filled.{filled_below}
use Rattle.tree_index.proofs.Roots.{bit, root_filled}
use Rattle.file_format.specs.Sizes.{entry_place}
use Rattle.file_format.specs.Messages.{HashFunction, root_item, root_message}
use Rattle.file_format.specs.Entries.{Entry, hole, entry_bytes, leaf, parent_of, node, node_at, root_message_of}
use Rattle.file_format.specs.Images.{leaves, data_size, root_message_for, root_hash_for}
use Rattle.file_format.specs.Stored.{stored_size, stored_root_sizes}
use Rattle.file_format.specs.Slots.{Slot, contents, held_in, Within}
use Rattle.file_format.specs.Belongs.{Register, Belongs}
use Rattle.file_format.proofs.Spans.{span_le, span_all, map_ext}
use Rattle.file_format.proofs.Slots.{contents_length, leaves_length, leaf_held}
use Rattle.file_format.proofs.Nodes.{node_at_index, entry_at_filled, node_at_proper}
use Rattle.file_format.proofs.OfImage.{stored_entry_lem, stored_node_size, stored_total}
use Rattle.checks.specs.Checks.{judged, register_checks, holds}
use Rattle.lookup.specs.Read.{chunk_bytes, read_verdict}
use Rattle.lookup.specs.Theorems.{Answers}
use Rattle.lookup.proofs.Answers.{answers}
use Rattle.packet.specs.Packet.{root_above, beside, siblings, other_roots, packet_of, room_or14, make_verdict, packet_with, place_above}
use Rattle.packet.specs.Check.{chunk_length, siblings_place, others_place, shape_right, packet_chunk, entry_in, entries_in, sibling_entries, other_entries}
use Rattle.packet.specs.Check.{packet_total, ordered, in_turn, items, steps, last_entry, packet_root, packet_root_message, root_right, packet_verdict}
use Rattle.packet.specs.Inner.{skipped, other_row, turned, turn_entry, Readable, climbed}
use Rattle.packet.specs.Theorems.{PacketAnswers, PacketAnswersForAll}
use Rattle.packet.proofs.Above.{place_root, place_below, root_spans, other_count_lem}
use Rattle.packet.proofs.Climb.{left_first, right_first, ordered_size, steps_climb, turned_before, turned_here, turned_behind}
use Rattle.packet.proofs.InTurn.{all, length_all, entry_at_lem}
use Rattle.packet.proofs.Right.{checked_by, verdict_done}
use Rattle.packet.proofs.Rows.{beside_even, beside_odd, half, siblings_filled, others_filled, others_row, packet_long}
use Rattle.packet.proofs.Makes.{readable, read_bytes}
use Rattle.packet.proofs.Pieces.{entry_in_lem, length_back, chunk_back, shape_right_lem, sibling_at, other_at}

-- ---- the climb along the nodes

module _ (F : List ℕ → List ℕ) (es : List Entry) where
  pub step_node : (d k : ℕ) → ordered k (parent_of F) (node F es d k) (node F es d (beside k)) ≡ node F es (suc d) (k / 2)
  unfolding node
  step_node d k = pick (bit k)
    where
      pick : (k % 2 ≡ 0) ⊎ (k % 2 ≡ 1) → ordered k (parent_of F) (node F es d k) (node F es d (beside k)) ≡ parent_of F (node F es d (2 * (k / 2))) (node F es d (2 * (k / 2) + 1))
      pick (inl e) =
          let a : k ≡ 2 * (k / 2) = omega arith in
          let b : beside k ≡ 2 * (k / 2) + 1 = sym (beside_even k e) ∙ omega arith in
          left_first F k (node F es d k) (node F es d (beside k)) e ∙ ap₂ (λ (x y : ℕ). parent_of F (node F es d x) (node F es d y)) a b
      pick (inr e) =
          let a : k ≡ 2 * (k / 2) + 1 = omega arith in
          let b : beside k ≡ 2 * (k / 2) = sym (beside_odd k e) ∙ omega arith in
          right_first F k (node F es d k) (node F es d (beside k)) e ∙ ap₂ (λ (x y : ℕ). parent_of F (node F es d y) (node F es d x)) a b

  climb_nodes : (c d m : ℕ) → climbed F (c / 2 ^ d) (node F es d (c / 2 ^ d)) (run (λ h. node F es h (beside (c / 2 ^ h))) d m)
      ≡ node F es (d + m) (c / 2 ^ (d + m))
  unfolding climbed run
  climb_nodes c d zero = ap (λ (x : ℕ). node F es x (c / 2 ^ x)) (sym (add-zero d))
  climb_nodes c d (suc m) =
      ap (λ (e : Entry). climbed F (c / 2 ^ d / 2) e (run (λ h. node F es h (beside (c / 2 ^ h))) (suc d) m)) (step_node d (c / 2 ^ d))
      ∙ ap (λ (k : ℕ). climbed F k (node F es (suc d) k) (run (λ h. node F es h (beside (c / 2 ^ h))) (suc d) m)) (half c d)
      ∙ climb_nodes c (suc d) m ∙ ap (λ (x : ℕ). node F es x (c / 2 ^ x)) (suc-add d m ∙ sym (add-suc d m))

climb_size : (F : List ℕ → List ℕ) (k : ℕ) (e : Entry) (ss : List Entry) → (climbed F k e ss).size ≡ e.size + total (map (λ (x : Entry). x.size) ss)
unfolding climbed total
climb_size F k e [] = sym (add-zero e.size)
climb_size F k e (s ∷ ss) =
    climb_size F (k / 2) (ordered k (parent_of F) e s) ss
    ∙ ap (λ (x : ℕ). x + total (map (λ (x : Entry). x.size) ss)) (ordered_size F k e s)
    ∙ add_assoc e.size s.size (total (map (λ (x : Entry). x.size) ss))

-- ---- lists

mapped_at : {A : Type 0} (f : ℕ → A) (xs : List ℕ) (d : A) (j : ℕ) → j < length xs → get_or (map f xs) j d ≡ f (get_or xs j 0)
mapped_at f [] d j h = absurd (not-suc-le-zero h)
mapped_at f (x ∷ xs) d zero h = refl
mapped_at f (x ∷ xs) d (suc j) h = mapped_at f xs d j (le_of_suc-le-suc h)

items_map : (f : ℕ → Entry) (is : List ℕ) → items is (map f is) ≡ map (λ i. root_item (f i).hash i (f i).size) is
unfolding items
items_map f [] = refl
items_map f (i ∷ is) = ap (λ (l : List (List ℕ)). root_item (f i).hash i (f i).size ∷ l) (items_map f is)

map_map : {A B : Type 0} (g : A → B) (f : ℕ → A) (is : List ℕ) → map g (map f is) ≡ map (λ i. g (f i)) is
map_map g f [] = refl
map_map {A} {B} g f (i ∷ is) = ap (λ (l : List B). g (f i) ∷ l) (map_map g f is)

total_insert : (x : Entry) (es : List Entry) (k : ℕ) → k ≤ length es
    → total (map (λ (e : Entry). e.size) (take k es ++ (x ∷ drop k es))) ≡ x.size + total (map (λ (e : Entry). e.size) es)
unfolding total
total_insert x es zero h = refl
total_insert x [] (suc k) h = absurd (not-suc-le-zero h)
total_insert x (e ∷ es) (suc k) h = omega (arith, total_insert x es k (le_of_suc-le-suc h))

-- ---- the theorem

module _ (F : List ℕ → List ℕ) (hf : HashFunction F) (ss : List Slot) (w : Within ss) (r : Register) (b : Belongs F r ss)
    (ok : judged (register_checks r) done ≡ done) (c : ℕ) (h : held_in ss c ≡ true) where
  abbrev cs : List (List ℕ)
  cs = contents ss

  abbrev es : List Entry
  es = leaves F ss

  abbrev p : List ℕ
  p = packet_of r c

  abbrev bytes : List ℕ
  bytes = chunk_bytes r c

  abbrev at : ℕ
  at = 4 + length (chunk_bytes r c) + 1 + 40 * length (siblings r.n c) + 1

  told : Answers F r ss cs
  told = answers F hf ss w r b ok

  is_read : done ≡ read_verdict F r c
  is_read = sym (told.read_done c h)

  read : Readable r.tree r.n c (chunk_bytes r c)
  read = readable F r c is_read (chunk_bytes r c) refl

  the_chunk : chunk_bytes r c ≡ get_or cs c []
  the_chunk = sym (read_bytes F r c is_read (get_or cs c []) (sym (told.read c h)))

  packet_is : packet_with r.tree r.n c (chunk_bytes r c) ≡ p
  unfolding packet_with packet_of
  packet_is = refl

  -- the entry that stands at a place of the packet, where it is that of a filled index
  node_in_lem : (i a : ℕ) → filled r.n i ≡ true → part p a 40 ≡ part r.tree (entry_place i) 40 → entry_in p a ≡ node_at F es i
  node_in_lem i a f e =
      let g : filled (length ss) i ≡ true = subst (λ (m : ℕ). filled m i ≡ true) b.count f in
      let k : filled (length es) i ≡ true = subst (λ (m : ℕ). filled m i ≡ true) (sym (leaves_length F ss)) g in
      entry_in_lem p a (node_at F es i) (node_at_proper F hf ss w i g)
      (e ∙ stored_entry_lem F hf ss w r b i (filled_below r.n i f) ∙ ap entry_bytes (entry_at_filled F es i k))

  sibling_node : (j : ℕ) → j < length (siblings r.n c) → entry_in p (4 + length bytes + 1 + 40 * j) ≡ node_at F es (get_or (siblings r.n c) j 0)
  sibling_node j l =
      node_in_lem (get_or (siblings r.n c) j 0) (4 + length bytes + 1 + 40 * j) (siblings_filled r.n c read.chunk j l)
      (subst (λ (q : List ℕ). part q (4 + length bytes + 1 + 40 * j) 40 ≡ part r.tree (entry_place (get_or (siblings r.n c) j 0)) 40) packet_is
      (sibling_at r.tree r.n c (chunk_bytes r c) read j l))

  pub other_node : (j : ℕ) → j < length (other_roots r.n c) → entry_in p (at + 40 * j) ≡ node_at F es (get_or (other_roots r.n c) j 0)
  other_node j l =
      node_in_lem (get_or (other_roots r.n c) j 0) (at + 40 * j) (others_filled r.n c read.chunk j l)
      (subst (λ (q : List ℕ). part q (at + 40 * j) 40 ≡ part r.tree (entry_place (get_or (other_roots r.n c) j 0)) 40) packet_is
      (other_at r.tree r.n c (chunk_bytes r c) read j l))

  -- the siblings in the packet are the nodes beside the way up
  abbrev up : ℕ
  up = depth (root_above (roots r.n) c)

  the_siblings : entries_in p (4 + length bytes + 1) (length (siblings r.n c)) ≡ run (λ d. node F es d (beside (c / 2 ^ d))) 0 up
  unfolding entries_in siblings
  the_siblings =
      let e : length (run (λ d. index d (beside (c / 2 ^ d))) 0 up) ≡ up = length_run (λ d. index d (beside (c / 2 ^ d))) 0 up in
      run_ext (λ j. entry_in p (4 + length bytes + 1 + 40 * j)) (λ d. node F es d (beside (c / 2 ^ d))) 0 (length (run (λ d. index d (beside (c / 2 ^ d))) 0 up))
      (λ j x y. sibling_node j (omega arith)
      ∙ ap (node_at F es) (get_or_run (λ d. index d (beside (c / 2 ^ d))) 0 up j 0 (omega arith) ∙ ap (λ (d : ℕ). index d (beside (c / 2 ^ d))) (zero-add j))
      ∙ node_at_index F es j (beside (c / 2 ^ j)))
      ∙ ap (run (λ d. node F es d (beside (c / 2 ^ d))) 0) e

  pub chunk_is : packet_chunk p ≡ get_or (contents ss) c []
  chunk_is = subst (λ (q : List ℕ). packet_chunk q ≡ bytes) packet_is (chunk_back r.tree r.n c (chunk_bytes r c) read) ∙ the_chunk

  pub chunk_leaf : leaf F (packet_chunk p) ≡ node F es 0 (c / 2 ^ 0)
  unfolding node
  chunk_leaf =
      ap (leaf F) chunk_is
      ∙ sym (leaf_held F ss c (subst (λ (m : ℕ). c < m) b.count read.chunk.below) h) ∙ ap (λ (k : ℕ). get_or es k hole) (sym (div-one c))

  size_back : chunk_length p ≡ length bytes
  size_back = subst (λ (q : List ℕ). chunk_length q ≡ length bytes) packet_is (length_back r.tree r.n c (chunk_bytes r c) read)

  pub siblings_are : sibling_entries p r.n c ≡ run (λ d. node F es d (beside (c / 2 ^ d))) 0 up
  unfolding sibling_entries siblings_place
  siblings_are = ap (λ (l : ℕ). entries_in p (4 + l + 1) (length (siblings r.n c))) size_back ∙ the_siblings

  climb_root : climbed F c (leaf F (packet_chunk p)) (sibling_entries p r.n c) ≡ node_at F es (root_above (roots r.n) c)
  unfolding node_at
  climb_root =
      let s = root_spans r.n c read.chunk in
      ap₂ (climbed F c) chunk_leaf siblings_are
      ∙ ap (λ (k : ℕ). climbed F k (node F es 0 (c / 2 ^ 0)) (run (λ d. node F es d (beside (c / 2 ^ d))) 0 up)) (sym (div-one c))
      ∙ climb_nodes F es c 0 up ∙ ap (λ (x : ℕ). node F es x (c / 2 ^ x)) (zero-add up)
      ∙ ap (node F es up) (div-eq_of_lt-le (2 ^ up) s.from s.to)

  the_root : packet_root F p r.n c ≡ node_at F es (root_above (roots r.n) c)
  unfolding packet_root steps last_entry
  the_root = steps_climb F 0 c (leaf F (packet_chunk p)) (sibling_entries p r.n c) ∙ climb_root

  -- ---- the roots

  abbrev top : Entry
  top = node_at F es (root_above (roots r.n) c)

  abbrev k : ℕ
  k = place_above (roots r.n) c

  other_root : (j : ℕ) → j < length (other_roots r.n c) → get_or (other_roots r.n c) j 0 ≡ get_or (roots r.n) (skipped k j) 0
  unfolding other_row
  other_root j l =
      ap (λ (is : List ℕ). get_or is j 0) (sym (others_row r.n c k read.chunk refl))
      ∙ get_or_run (λ i. get_or (roots r.n) (skipped k i) 0) 0 (length (roots r.n) - 1) j 0 (subst (λ (m : ℕ). j < m) (other_count_lem r.n c read.chunk) l)
      ∙ ap (λ (i : ℕ). get_or (roots r.n) (skipped k i) 0) (zero-add j)

  in_its_turn : (j : ℕ) → j < length (roots r.n) → turn_entry p at k top j ≡ node_at F es (get_or (roots r.n) j 0)
  unfolding turn_entry
  in_its_turn j l = pick (ltb j k) (eqb j k) refl refl
    where
      few : length (other_roots r.n c) ≡ length (roots r.n) - 1
      few = other_count_lem r.n c read.chunk

      under : k < length (roots r.n)
      under = place_below r.n c read.chunk

      pick : (a q : Bool) → ltb j k ≡ a → eqb j k ≡ q → turned (λ i. entry_in p (at + 40 * i)) k top j ≡ node_at F es (get_or (roots r.n) j 0)
      pick true q e f =
          let g : j < k = ltb-true j k e in
          let m : j < length (other_roots r.n c) = omega (arith, few, under) in
          turned_before (λ i. entry_in p (at + 40 * i)) k top j g ∙ other_node j m
          ∙ ap (node_at F es) (other_root j m ∙ ap (λ (t : Bool). get_or (roots r.n) (cond t j (j + 1)) 0) e)
      pick false true e f =
          turned_here (λ i. entry_in p (at + 40 * i)) k top j (eqb-true j k f)
          ∙ ap (node_at F es) (place_root (roots r.n) c ∙ ap (λ (i : ℕ). get_or (roots r.n) i 0) (sym (eqb-true j k f)))
      pick false false e f =
          let g : k ≤ j = ltb-false j k e in
          let z : j ≡ k → ⊥ = eqb-false j k f in
          let m : j - 1 < length (other_roots r.n c) = omega (arith, few, under) in
          let y : ltb (j - 1) k ≡ false = le-ltb (j - 1) k (omega arith) in
          let v : j - 1 + 1 ≡ j = omega arith in
          turned_behind (λ i. entry_in p (at + 40 * i)) k top j g z ∙ other_node (j - 1) m
          ∙ ap (node_at F es) (other_root (j - 1) m ∙ ap (λ (t : Bool). get_or (roots r.n) (cond t (j - 1) (j - 1 + 1)) 0) y ∙ ap (λ (i : ℕ). get_or (roots r.n) i 0) v)

  all_roots : all p at r.n c top read.chunk ≡ map (node_at F es) (roots r.n)
  all_roots =
      ext_get_or hole (all p at r.n c top read.chunk) (map (node_at F es) (roots r.n))
      (length_all p at r.n c top read.chunk ∙ sym (length-map (roots r.n) (node_at F es)))
      (λ j l. let g : j < length (roots r.n) = subst (λ (m : ℕ). j < m) (length_all p at r.n c top read.chunk) l in
      entry_at_lem p at r.n c top read.chunk j g ∙ in_its_turn j g ∙ sym (mapped_at (node_at F es) (roots r.n) hole j g))

  pub others_place_lem : others_place p r.n c + 1 ≡ at
  unfolding others_place siblings_place
  others_place_lem = ap (λ (l : ℕ). 4 + l + 1 + 40 * length (siblings r.n c) + 1) size_back

  pub the_message : packet_root_message F p r.n c ≡ root_message_for F ss
  unfolding packet_root_message other_entries in_turn root_message_for root_message_of
  the_message =
      ap₂ (λ (x : Entry) (a : ℕ). root_message (items (roots r.n) (in_turn (place_above (roots r.n) c) x (entries_in p a (length (other_roots r.n c))))))
      the_root others_place_lem
      ∙ ap (λ (l : List Entry). root_message (items (roots r.n) l)) all_roots
      ∙ ap root_message (items_map (node_at F es) (roots r.n))
      ∙ ap (λ (m : ℕ). root_message (map (λ i. root_item (node_at F es i).hash i (node_at F es i).size) (roots m))) (b.count ∙ sym (leaves_length F ss))

  -- ---- the sum

  abbrev sizes : List Entry → List ℕ
  sizes = map (λ (e : Entry). e.size)

  root_size : chunk_length p + total (sizes (sibling_entries p r.n c)) ≡ top.size
  unfolding leaf
  root_size =
      ap (λ (x : ℕ). x + total (sizes (sibling_entries p r.n c)))
      (size_back ∙ ap length (sym (subst (λ (q : List ℕ). packet_chunk q ≡ bytes) packet_is (chunk_back r.tree r.n c (chunk_bytes r c) read))))
      ∙ sym (climb_size F c (leaf F (packet_chunk p)) (sibling_entries p r.n c)) ∙ ap (λ (e : Entry). e.size) climb_root

  others_size : top.size + total (sizes (other_entries p r.n c)) ≡ r.size
  unfolding other_entries stored_root_sizes entries_in
  others_size =
      let o : ℕ = length (other_roots r.n c) in
      let q : k ≤ length (entries_in p at (length (other_roots r.n c))) =
      omega (arith, length_run (λ j. entry_in p (at + 40 * j)) 0 (length (other_roots r.n c)), place_below r.n c read.chunk, other_count_lem r.n c read.chunk) in
      ap (λ (a : ℕ). top.size + total (sizes (entries_in p a (length (other_roots r.n c))))) others_place_lem
      ∙ sym (total_insert top (entries_in p at (length (other_roots r.n c))) k q)
      ∙ ap (λ (l : List Entry). total (sizes l)) all_roots
      ∙ ap total (map_map (λ (e : Entry). e.size) (node_at F es) (roots r.n)
      ∙ map_ext (λ i. (node_at F es i).size) (stored_size r.tree) (roots r.n)
      (λ j l. sym (stored_node_size F hf ss w r b (get_or (roots r.n) j 0) (root_filled r.n j l))))
      ∙ stored_total F hf ss w r b

  sum_fits : packet_total p r.n c ≤ 68719476736
  unfolding packet_total
  sum_fits =
      let s : data_size cs ≤ length cs * 65536 = subst (λ (x : ℕ). x ≤ length cs * 65536) (span_all cs) (span_le cs 65536 0 (length cs) w.short) in
      let m : length cs ≤ 1048576 = subst (λ (x : ℕ). x ≤ 1048576) (sym (contents_length ss)) w.count in
      omega (arith, root_size, others_size, b.total)

  pub passes : done ≡ packet_verdict F p r.n c (root_hash_for F ss)
  unfolding root_right root_hash_for
  passes =
      verdict_done F p r.n c (root_hash_for F ss) done read.chunk.count read.chunk.below
      (subst (λ (q : List ℕ). shape_right q r.n c ≡ true) packet_is (shape_right_lem r.tree r.n c (chunk_bytes r c) read))
      (true_both _ _ (le-leb (packet_total p r.n c) 68719476736 sum_fits)
      (ap (λ (m : List ℕ). same_list (F m) (F (root_message_for F ss))) the_message ∙ same_refl (F (root_message_for F ss)))) refl

  pub answered : PacketAnswers F r ss c
  unfolding make_verdict
  answered =
      record {
        made = λ out l. ap (λ (v : Verdict). and_then v (room_or14 (holds out (length (packet_of r c))))) (sym is_read)
            ∙ ap room_or14 (le-leb (length (packet_of r c)) (length out) l);
        long = sym (packet_long r.tree r.n c (chunk_bytes r c) read (length (siblings r.n c)) (length (other_roots r.n c)) refl refl ∙ ap length packet_is)
            ∙ ap (λ (x : List ℕ). 4 + length x + 1 + 40 * length (siblings r.n c) + 1 + 40 * length (other_roots r.n c)) the_chunk;
        passes = sym passes;
        gives = sym (checked_by F p r.n c (root_hash_for F ss) done passes) ∙ chunk_is;
      }

pub packet_answers : PacketAnswersForAll
packet_answers F hf ss w r b ok i h = answered F hf ss w r b ok i h
