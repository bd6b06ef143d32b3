-- The root message of a packet is the one that the roots of a tree file give, where the file holds what the packet brings. Assumes nothing.
use Prim.Native.Nat.{ℕ, zero, suc, ◌+◌, ◌<◌}
use mathlib.Core.Path.{◌≡◌, refl, sym, ap, ap₂, ◌∙◌}
use mathlib.Core.Bool.{Bool, true, false}
use mathlib.Core.List.{List, [], ◌∷◌, map}
use native.Mathlib.Nat.{not-suc-le-zero, le_of_suc-le-suc}
use native.Mathlib.Omega.{arith}
use borrow.Author.Tests.{eqb-true}
use lib.Dec.{eqb}
use lib.ListN.{length, get_or, length-map}
use lib.Seq.{ext_get_or}
use Rattle.tree_index.specs.Tree.{roots}
use Rattle.file_format.specs.Messages.{root_item, root_message}
use Rattle.file_format.specs.Entries.{Entry, hole, leaf}
use Rattle.file_format.specs.Stored.{stored_hash, stored_size, stored_root_message}
use Rattle.packet.specs.Packet.{root_above, siblings, without, other_roots}
use Rattle.packet.specs.Check.{packet_chunk, sibling_entries, other_entries, in_turn, others_place, items, Step, steps_above, steps, last_entry, packet_root, packet_root_message}
use Rattle.packet.specs.Inner.{ChunkOf}
use Rattle.packet.proofs.InTurn.{turning, whole}
use Rattle.packet.proofs.Climb.{steps_count}
use Rattle.packet.proofs.Rows.{siblings_count}
use Rattle.packet_compare.specs.Theorems.{step_at}
use Rattle.copy_take_in.specs.TakeIn.{Given, brought}
use Rattle.byte_strings.proofs.Members.{In}
use Rattle.theorem_taking_laws.proofs.Brought.{way_entry, others_count, way_brought, other_brought}
use Rattle.theorem_taking_laws.proofs.Ways.{top_root}
use Rattle.theorem_taking_laws.proofs.Starts.{HoldsAll}
use Rattle.byte_strings.proofs.Bools.{chosen}

-- ---- lists

module _ (f : ℕ → Entry) (r : ℕ) where
  turn_here : (i : ℕ) (is : List ℕ) (es : List Entry) → eqb i r ≡ true → turning r (f r) (i ∷ is) es ≡ f r ∷ turning r (f r) is es
  unfolding turning
  turn_here i is [] e = ap (λ (b : Bool). chosen b (f r ∷ turning r (f r) is []) (turning r (f r) is [])) e
  turn_here i is (x ∷ es) e = ap (λ (b : Bool). chosen b (f r ∷ turning r (f r) is (x ∷ es)) (x ∷ turning r (f r) is es)) e

  turn_other : (i : ℕ) (is : List ℕ) (x : Entry) (es : List Entry) → eqb i r ≡ false → turning r (f r) (i ∷ is) (x ∷ es) ≡ x ∷ turning r (f r) is es
  unfolding turning
  turn_other i is x es e = ap (λ (b : Bool). chosen b (f r ∷ turning r (f r) is (x ∷ es)) (x ∷ turning r (f r) is es)) e

  without_by : (i : ℕ) (is : List ℕ) (b : Bool) → eqb i r ≡ b → without r (i ∷ is) ≡ chosen b (without r is) (i ∷ without r is)
  unfolding without
  without_by i is b e = ap (λ (x : Bool). chosen x (without r is) (i ∷ without r is)) e

  -- the one that was left out, put back in its turn
  in_turn_lem : (is : List ℕ) → turning r (f r) is (map f (without r is)) ≡ map f is
  unfolding turning without
  in_turn_lem [] = refl
  in_turn_lem (i ∷ is) = pick (eqb i r) refl (in_turn_lem is)
    where
      pick : (b : Bool) → eqb i r ≡ b → turning r (f r) is (map f (without r is)) ≡ map f is
          → turning r (f r) (i ∷ is) (map f (without r (i ∷ is))) ≡ f i ∷ map f is
      pick true e rec =
          ap (λ (l : List ℕ). turning r (f r) (i ∷ is) (map f l)) (without_by i is true e) ∙ turn_here i is (map f (without r is)) e
          ∙ ap₂ (λ (x : Entry) (l : List Entry). x ∷ l) (ap f (sym (eqb-true i r e))) rec
      pick false e rec =
          ap (λ (l : List ℕ). turning r (f r) (i ∷ is) (map f l)) (without_by i is false e) ∙ turn_other i is (f i) (map f (without r is)) e
          ∙ ap (λ (l : List Entry). f i ∷ l) rec

  items_map : (is : List ℕ) → items is (map f is) ≡ map (λ i. root_item (f i).hash i (f i).size) is
  unfolding items
  items_map [] = refl
  items_map (i ∷ is) = ap (λ (l : List (List ℕ)). root_item (f i).hash i (f i).size ∷ l) (items_map is)

  mapped_at : (xs : List ℕ) (j : ℕ) → j < length xs → get_or (map f xs) j hole ≡ f (get_or xs j 0)
  mapped_at [] j h = absurd (not-suc-le-zero h)
  mapped_at (x ∷ xs) zero h = refl
  mapped_at (x ∷ xs) (suc j) h = mapped_at xs j (le_of_suc-le-suc h)

-- ---- the root above the chunk

last_step : (e : Entry) (s : Step) (ss : List Step) → last_entry e (s ∷ ss) ≡ (step_at (s ∷ ss) (length ss)).entry
unfolding last_entry
last_step e s [] = refl
last_step e s (t ∷ ss) = last_step s.entry t ss

top_entry : (F : List ℕ → List ℕ) (p : List ℕ) (n c : ℕ) → packet_root F p n c ≡ way_entry F p n c (length (siblings n c))
unfolding packet_root steps
top_entry F p n c =
    last_step (leaf F (packet_chunk p)) _ (steps_above F 0 c (leaf F (packet_chunk p)) (sibling_entries p n c))
    ∙ ap (λ (k : ℕ). (step_at (steps F p n c) k).entry) (steps_count F 0 c (leaf F (packet_chunk p)) (sibling_entries p n c) ∙ siblings_count p n c)

-- ---- a tree file that holds what the packet brings

abbrev pub stored_entry : List ℕ → ℕ → Entry
stored_entry t i = record { hash = stored_hash t i; size = stored_size t i }

module _ (F : List ℕ → List ℕ) (p : List ℕ) (n c : ℕ) (h : ChunkOf n c) (t : List ℕ) (holds : HoldsAll t (brought F p n c)) where
  there : (g : Given) → In g (brought F p n c) → g.entry ≡ stored_entry t g.at
  there g m = ap₂ (λ (x : List ℕ) (y : ℕ). record { hash = x; size = y }) (sym (holds g m).hash) (sym (holds g m).size)

  root_there : packet_root F p n c ≡ stored_entry t (root_above (roots n) c)
  root_there =
      top_entry F p n c ∙ there _ (way_brought F p n c (length (siblings n c)) (omega arith)) ∙ ap (stored_entry t) (top_root n c h)

  others_there : other_entries p n c ≡ map (stored_entry t) (other_roots n c)
  others_there =
      ext_get_or hole (other_entries p n c) (map (stored_entry t) (other_roots n c))
      (others_count p n c ∙ sym (length-map (other_roots n c) (stored_entry t)))
      (λ j l.
      let m : j < length (other_roots n c) = omega (arith, others_count p n c) in
      there _ (other_brought F p n c j m) ∙ sym (mapped_at (stored_entry t) 0 (other_roots n c) j m))

  pub message_there : packet_root_message F p n c ≡ stored_root_message t n
  unfolding packet_root_message stored_root_message other_roots other_entries in_turn
  message_there =
      let r : ℕ = root_above (roots n) c in
      ap (λ (es : List Entry). root_message (items (roots n) es))
      (sym (whole p (others_place p n c + 1) n c (packet_root F p n c) h)
      ∙ ap₂ (λ (x : Entry) (es : List Entry). turning r x (roots n) es) root_there others_there ∙ in_turn_lem (stored_entry t) r (roots n))
      ∙ ap root_message (items_map (stored_entry t) r (roots n))
