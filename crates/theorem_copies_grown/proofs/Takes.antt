-- Taking in a packet keeps it.
-- Assumes nothing.
use Prim.Native.Nat.{ℕ, zero, suc, ◌/◌, ◌^◌, ◌≤◌, ◌<◌}
use mathlib.Core.Path.{◌≡◌, sym, ap, ◌∙◌, subst}
use mathlib.Core.Bool.{Bool, true}
use mathlib.Core.Logic.{◌⊎◌, inl, inr}
use mathlib.Core.List.{List, [], ◌∷◌}
use native.Mathlib.Omega.{arith}
use borrow.Author.Tests.{leb-true}
use lib.Dec.{leb}
use lib.ListN.{length, take}
use Rattle.byte_strings.specs.Lists.{among}
use Rattle.byte_strings.proofs.Lists.{length_put}
use Rattle.byte_strings.proofs.Bools.{clash, both_true}
use Rattle.tree_index.specs.Tree.{index, depth, parent, filled}
use Rattle.tree_index.proofs.Index.{depth_index}
use Rattle.file_format.specs.Sizes.{longest_chunk, used_tree, used_bitfield}
use Rattle.file_format.specs.Entries.{Entry, leaf}
use Rattle.file_format.specs.Stored.{stored_size}
use Rattle.packet.specs.Check.{packet_chunk}
use Rattle.packet.specs.Inner.{ChunkOf}
use Rattle.copy_checks.specs.Copy.{Copy}
use Rattle.copy_take_in.specs.TakeIn.{Given, lying, packet_start, with_given, brought, taken_in}
use Rattle.byte_strings.proofs.Members.{In}
use Rattle.byte_strings.proofs.Tests.{neither}
use Rattle.file_format.proofs.Shown.{shown_long, shown_front}
use Rattle.theorem_taking_laws.proofs.Given.{places_of, in_among, length_given, front_given, given_other}
use Rattle.theorem_taking_laws.proofs.Siblings.{sibling}
use Rattle.theorem_taking_laws.proofs.Brought.{way_entry, Brings, on_way, beside_way, other_root_lem, brings, side_lies, other_lies}
use Rattle.theorem_taking_laws.proofs.Made.{way_leaf}
use Rattle.theorem_taking_laws.proofs.Among.{brought_filled, root_brought, parent_brought, sibling_brought}
use Rattle.theorem_released_back.proofs.Took.{chunk_short}
use Rattle.theorem_copies_grown.specs.Grown.{leaf_short, leaves_short}
use Rattle.theorem_copies_grown.proofs.Grows.{Grows}
use Rattle.theorem_copies_grown.proofs.TakenEntries.{Taking, fitting, holds, size_kept}
use Rattle.theorem_copies_grown.proofs.KnownNow.{now, holds_now, old_now, new_now, now_split, place, entry_place_lem, bits_now, leaf_place, held_split}
use Rattle.theorem_copies_grown.proofs.ParentsNow.{now_follows}
use Rattle.theorem_copies_grown.proofs.BytesNow.{roots_now, own_room, bytes_now, blank_now}

-- a leaf that lies in the packet is no longer than it may be
leaf_short_lem : (gs : List Given) → leaves_short gs ≡ true → (x : Given) → In x gs → depth x.at ≡ 0 → x.entry.size ≤ longest_chunk
unfolding leaves_short leaf_short In
leaf_short_lem [] e x m d = absurd m
leaf_short_lem (y ∷ gs) e x (inl q) d =
    leb-true x.entry.size longest_chunk
    (sym (ap (λ (k : ℕ). judge k x) d) ∙ ap leaf_short (sym q) ∙ (both_true (leaf_short y) (leaves_short gs) e).0)
  where
    judge : ℕ → Given → Bool
    judge k z = elim k [ zero ↦ leb z.entry.size longest_chunk | suc j ↦ true ]
leaf_short_lem (y ∷ gs) e x (inr m) d = leaf_short_lem gs (both_true (leaf_short y) (leaves_short gs) e).1 x m d

module _ {F : List ℕ → List ℕ} {c : Copy} {p : List ℕ} {i : ℕ} (tg : Taking F c p i) where
  abbrev g : Grows F c
  g = tg.grows

  abbrev gs : List Given
  gs = brought F p c.n i

  abbrev ps : List ℕ
  ps = places_of (brought F p c.n i)

  abbrev t : List ℕ
  t = c.tree

  abbrev u : List ℕ
  u = with_given c.tree (brought F p c.n i)

  abbrev there : ChunkOf c.n i
  there = tg.took.packet.shaped.chunk

  short_now : leaves_short (lying p c.n i) ≡ true → (k : ℕ) → now tg (index 0 k) ≡ true → stored_size u (index 0 k) ≤ longest_chunk
  unfolding leaf
  short_now sh k e = pick (now_split tg (index 0 k) e)
    where
      pick : In (index 0 k) ps ⊎ (g.knows_of (index 0 k) ≡ true) → stored_size u (index 0 k) ≤ longest_chunk
      pick (inr l) = subst (λ (x : ℕ). x ≤ longest_chunk) (sym (size_kept tg (index 0 k) l)) (g.short k l)
      pick (inl m) =
          let q = place tg (index 0 k) m in
          subst (λ (x : ℕ). x ≤ longest_chunk) (sym (holds tg q.0 q.1).size ∙ ap (stored_size u) q.2) (small q.0 q.2 (brings F p c.n i q.0 q.1))
        where
          small : (x : Given) → x.at ≡ index 0 k → Brings F p c.n i x → x.entry.size ≤ longest_chunk
          small x a (on_way d l b f) =
              let z : d ≡ 0 = sym (depth_index d (i / 2 ^ d)) ∙ ap depth (sym b ∙ a) ∙ depth_index 0 k in
              subst (λ (y : ℕ). y ≤ longest_chunk)
              (sym (ap (λ (y : Entry). y.size) (f ∙ ap (way_entry F p c.n i) z ∙ way_leaf F p c.n i))) (chunk_short p c.n i tg.took.packet.shaped tg.bytes)
          small x a (beside_way d l b f) =
              subst (λ (y : Entry). y.size ≤ longest_chunk) (sym f)
              (leaf_short_lem (lying p c.n i) sh _ (side_lies F p c.n i d l) (ap depth (sym b ∙ a) ∙ depth_index 0 k))
          small x a (other_root_lem j l b f) =
              subst (λ (y : Entry). y.size ≤ longest_chunk) (sym f)
              (leaf_short_lem (lying p c.n i) sh _ (other_lies F p c.n i j l) (ap depth (sym b ∙ a) ∙ depth_index 0 k))

  pub takes : leaves_short (lying p c.n i) ≡ true → Grows F (taken_in F c p i)
  unfolding taken_in
  takes sh =
      record {
        lent =
            record {
              count = g.lent.count;
              tree = subst (λ (x : ℕ). used_tree c.n ≤ x) (sym (length_given t gs (fitting tg))) g.lent.tree;
              bitfield =
                  subst (λ (l : List ℕ). used_bitfield c.n ≤ length l) (sym (bits_now tg))
                  (omega (arith, shown_long (holds_now tg) (now tg) c.n g.tail));
              content = subst (λ (x : ℕ). c.size ≤ x) (sym (length_put c.content (packet_start p c.n i) (packet_chunk p) (own_room tg))) g.lent.content;
              tree_front_lem = front_given t gs (fitting tg) ∙ g.lent.tree_front_lem;
              bitfield_front = ap (take 32) (bits_now tg) ∙ shown_front (holds_now tg) (now tg) c.n g.tail;
            };
        empty = g.empty;
        held_of = holds_now tg;
        knows_of = now tg;
        tail = g.tail;
        bits = bits_now tg;
        held_below = λ k e. below k (held_split tg k e);
        knows_filled_lem = λ j e. filled_now j (now_split tg j e);
        nought =
            λ j l e.
            let q = neither (g.knows_of j) (among j ps) e in
            given_other t gs j (fitting tg) (λ m. clash (among j ps) (in_among j ps m) q.1) ∙ g.nought j l q.0;
        held_known = λ k e. held_known_lem k (held_split tg k e);
        upward = λ j e f. up j f (now_split tg j e);
        rooted = λ j e r m. let q = root_brought c.n i there F p r m in new_now tg r (entry_place_lem tg r q.0 q.1);
        follows = now_follows tg;
        short = short_now sh;
        adds = λ r m e. roots_now tg;
        bytes = bytes_now tg;
        blank = blank_now tg;
      }
    where
      below : (k : ℕ) → (k ≡ i) ⊎ ((k ≡ i → ⊥) × (g.held_of k ≡ true)) → k < c.n
      below k (inl q) = subst (λ (x : ℕ). x < c.n) (sym q) there.below
      below k (inr q) = g.held_below k q.1

      filled_now : (j : ℕ) → In j ps ⊎ (g.knows_of j ≡ true) → filled c.n j ≡ true
      filled_now j (inl m) = let q = place tg j m in subst (λ (x : ℕ). filled c.n x ≡ true) q.2 (brought_filled c.n i there F p q.0 q.1)
      filled_now j (inr k) = g.knows_filled_lem j k

      held_known_lem : (k : ℕ) → (k ≡ i) ⊎ ((k ≡ i → ⊥) × (g.held_of k ≡ true)) → now tg (index 0 k) ≡ true
      held_known_lem k (inl q) = subst (λ (x : ℕ). now tg (index 0 x) ≡ true) (sym q) (new_now tg (index 0 i) (leaf_place tg))
      held_known_lem k (inr q) = old_now tg (index 0 k) (g.held_known k q.1)

      up : (j : ℕ) → filled c.n (parent j) ≡ true → In j ps ⊎ (g.knows_of j ≡ true) → (now tg (parent j) ≡ true) × (now tg (sibling j) ≡ true)
      up j f (inl m) =
          let q = place tg j m in
          let h : filled c.n (parent q.0.at) ≡ true = subst (λ (x : ℕ). filled c.n (parent x) ≡ true) (sym q.2) f in
          let a = parent_brought c.n i there F p q.0 q.1 h in
          let b = sibling_brought c.n i there F p q.0 q.1 h in (
            subst (λ (x : ℕ). now tg (parent x) ≡ true) q.2 (new_now tg (parent q.0.at) (entry_place_lem tg (parent q.0.at) a.0 a.1)),
            subst (λ (x : ℕ). now tg (sibling x) ≡ true) q.2 (new_now tg (sibling q.0.at) (entry_place_lem tg (sibling q.0.at) b.0 b.1)),
          )
      up j f (inr k) = let w = g.upward j k f in (old_now tg (parent j) w.0, old_now tg (sibling j) w.1)
