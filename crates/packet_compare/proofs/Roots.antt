-- Where the roots that two packets lead up to differ, their root messages do.
-- Assumes nothing.
use Prim.Native.Nat.{ℕ, zero, suc, ◌+◌, ◌-◌, ◌*◌, ◌≤◌, ◌<◌}
use mathlib.Core.Path.{◌≡◌, refl, sym, ap, ◌∙◌, subst}
use mathlib.Core.Logic.{◌≢◌}
use mathlib.Core.Bool.{Bool, true, false}
use mathlib.Core.List.{List, [], ◌∷◌, ◌++◌, tail-eq_of_cons-eq}
use native.Mathlib.Nat.{suc_inj, not-suc-le-zero, zero-lt-suc, le_of_suc-le-suc}
use native.Mathlib.Omega.{arith}
use lib.Dec.{ltb, eqb}
use lib.ListN.{length, get_or}
use borrow.Author.Tests.{ltb-true, ltb-false, eqb-true, eqb-false}
use Rattle.byte_strings.specs.Lists.{Bytes, joined}
use Rattle.byte_strings.proofs.Lists.{length_part, bytes_part}
use Rattle.tree_index.specs.Tree.{roots}
use Rattle.file_format.specs.Messages.{root_item, root_message}
use Rattle.file_format.specs.Entries.{Entry, hole}
use Rattle.file_format.proofs.ByValue.{item_length}
use Rattle.compare.proofs.Local.{split_append}
use Rattle.compare.proofs.Apart.{item_injective}
use Rattle.packet.specs.Packet.{siblings, other_roots, place_above}
use Rattle.packet.specs.Check.{chunk_length, siblings_place, others_place, entry_in, entries_in, sibling_entries, other_entries, in_turn, items, packet_root, packet_root_message}
use Rattle.packet.specs.Inner.{ChunkOf, turned, turn_entry}
use Rattle.packet.proofs.Above.{place_below, other_count_lem}
use Rattle.packet.proofs.Climb.{turned_before, turned_here, turned_behind}
use Rattle.packet.proofs.InTurn.{all, length_all, entry_at_lem}
use Rattle.packet.proofs.Shape.{Sized}
use Rattle.packet_compare.specs.Inner.{Whole}
use Rattle.packet_compare.proofs.Up.{Wholes, wholes_run}

-- ---- the entries of a packet that has its shape

pub entry_whole : (p : List ℕ) (at : ℕ) → Bytes p → at + 32 ≤ length p → Whole (entry_in p at)
unfolding entry_in
entry_whole p at b h = record { long = length_part p at 32 h; bytes = bytes_part p at 32 b }

pub siblings_whole : (p : List ℕ) (n c : ℕ) → Bytes p → Sized p n c → Wholes (sibling_entries p n c)
unfolding sibling_entries entries_in siblings_place
siblings_whole p n c b z =
    wholes_run (λ j. entry_in p (4 + chunk_length p + 1 + 40 * j)) 0 (length (siblings n c))
    (λ j i h. entry_whole p (4 + chunk_length p + 1 + 40 * j) b (omega (arith, z.whole)))

-- ---- equal root messages

abbrev Longs : List Entry → Type 0
Longs es = (j : ℕ) → j < length es → length (get_or es j hole).hash ≡ 32

-- the items of the first root, and those behind it
first_items : (i : ℕ) (is : List ℕ) (e f : Entry) (es fs : List Entry) → length e.hash ≡ 32 → length f.hash ≡ 32
    → root_item e.hash i e.size ++ joined (items is es) ≡ root_item f.hash i f.size ++ joined (items is fs)
    → (e.hash ≡ f.hash) × (joined (items is es) ≡ joined (items is fs))
first_items i is e f es fs x y q =
    let w =
    split_append (root_item e.hash i e.size) (root_item f.hash i f.size) (joined (items is es)) (joined (items is fs))
    (item_length e.hash i e.size x ∙ sym (item_length f.hash i f.size y)) q in
    ((item_injective e.hash f.hash i i e.size f.size x y w.0).hash, w.1)

same_hashes : (is : List ℕ) (es fs : List Entry) → length es ≡ length is → length fs ≡ length is → Longs es → Longs fs
    → joined (items is es) ≡ joined (items is fs) → (j : ℕ) → j < length is → (get_or es j hole).hash ≡ (get_or fs j hole).hash
unfolding items joined
same_hashes [] es fs l m u v q j h = absurd (not-suc-le-zero h)
same_hashes (i ∷ is) [] fs l m u v q j h = absurd (omega (arith, l))
same_hashes (i ∷ is) (e ∷ es) [] l m u v q j h = absurd (omega (arith, m))
same_hashes (i ∷ is) (e ∷ es) (f ∷ fs) l m u v q zero h =
    (first_items i is e f es fs (u 0 (zero-lt-suc (length es))) (v 0 (zero-lt-suc (length fs))) q).0
same_hashes (i ∷ is) (e ∷ es) (f ∷ fs) l m u v q (suc j) h =
    same_hashes is es fs (suc_inj l) (suc_inj m) (λ k g. u (suc k) (omega arith)) (λ k g. v (suc k) (omega arith))
    (first_items i is e f es fs (u 0 (zero-lt-suc (length es))) (v 0 (zero-lt-suc (length fs))) q).1 j (le_of_suc-le-suc h)

-- ---- all roots of a packet, with the entry x for the one above the chunk

module _ (p : List ℕ) (n c : ℕ) (h : ChunkOf n c) (x : Entry) where
  abbrev at : ℕ
  at = others_place p n c + 1

  abbrev k : ℕ
  k = place_above (roots n) c

  message_all : root_message (items (roots n) (in_turn (place_above (roots n) c) x (other_entries p n c)))
      ≡ root_message (items (roots n) (all p at n c x h))
  unfolding other_entries in_turn
  message_all = refl

  top_there : get_or (all p at n c x h) k hole ≡ x
  unfolding turn_entry
  top_there = entry_at_lem p at n c x h k (place_below n c h) ∙ turned_here (λ i. entry_in p (at + 40 * i)) k x k refl

  module _ (b : Bytes p) (z : Sized p n c) (w : Whole x) where
    other_long : (i : ℕ) → i < length (other_roots n c) → length (entry_in p (at + 40 * i)).hash ≡ 32
    unfolding others_place siblings_place
    other_long i g = (entry_whole p (4 + chunk_length p + 1 + 40 * length (siblings n c) + 1 + 40 * i) b (omega (arith, z.whole))).long

    turn_long : (j : ℕ) → j < length (roots n) → length (turned (λ i. entry_in p (at + 40 * i)) k x j).hash ≡ 32
    turn_long j l = pick (ltb j k) (eqb j k) refl refl
      where
        few : length (other_roots n c) ≡ length (roots n) - 1
        few = other_count_lem n c h

        under : k < length (roots n)
        under = place_below n c h

        pick : (a q : Bool) → ltb j k ≡ a → eqb j k ≡ q → length (turned (λ i. entry_in p (at + 40 * i)) k x j).hash ≡ 32
        pick true q e f =
            ap (λ (y : Entry). length y.hash) (turned_before (λ i. entry_in p (at + 40 * i)) k x j (ltb-true j k e))
            ∙ other_long j (omega (arith, few, under, ltb-true j k e))
        pick false true e f =
            ap (λ (y : Entry). length y.hash) (turned_here (λ i. entry_in p (at + 40 * i)) k x j (eqb-true j k f)) ∙ w.long
        pick false false e f =
            let g : k ≤ j = ltb-false j k e in
            let d : j ≡ k → ⊥ = eqb-false j k f in
            ap (λ (y : Entry). length y.hash) (turned_behind (λ i. entry_in p (at + 40 * i)) k x j g d)
            ∙ other_long (j - 1) (omega (arith, few, under))

    all_long : Longs (all p at n c x h)
    unfolding turn_entry
    all_long j l =
        let g : j < length (roots n) = subst (λ (m : ℕ). j < m) (length_all p at n c x h) l in
        ap (λ (y : Entry). length y.hash) (entry_at_lem p at n c x h j g) ∙ turn_long j g

pub roots_differ_lem : (F : List ℕ → List ℕ) (p q : List ℕ) (n c : ℕ) → ChunkOf n c → Bytes p → Bytes q → Sized p n c → Sized q n c
    → Whole (packet_root F p n c) → Whole (packet_root F q n c) → (packet_root F p n c).hash ≢ (packet_root F q n c).hash
    → packet_root_message F p n c ≢ packet_root_message F q n c
unfolding packet_root_message root_message
roots_differ_lem F p q n c h b d z y u v ne e =
    let x : Entry = packet_root F p n c in
    let o : Entry = packet_root F q n c in
    let es : List Entry = all p (others_place p n c + 1) n c x h in
    let fs : List Entry = all q (others_place q n c + 1) n c o h in
    let g : joined (items (roots n) es) ≡ joined (items (roots n) fs) =
    tail-eq_of_cons-eq (sym (message_all p n c h x) ∙ e ∙ message_all q n c h o) in
    ne
    (ap (λ (a : Entry). a.hash) (sym (top_there p n c h x))
    ∙ same_hashes (roots n) es fs (length_all p (others_place p n c + 1) n c x h) (length_all q (others_place q n c + 1) n c o h)
    (all_long p n c h x b z u) (all_long q n c h o d y v) g (place_above (roots n) c) (place_below n c h)
    ∙ ap (λ (a : Entry). a.hash) (top_there q n c h o))
