-- A release keeps an accepted copy accepted: the bytes of two leaves to which descents come lie apart. Assumes nothing.
use Prim.Native.Nat.{ℕ, suc, ◌+◌, ◌*◌, ◌/◌, ◌≤◌, ◌<◌}
use mathlib.Core.Path.{◌≡◌, refl, sym, ap, ap₂, ◌∙◌, subst}
use mathlib.Core.Logic.{◌⊎◌, inl, inr}
use mathlib.Core.Bool.{Bool, true, false, not, ◌&&◌}
use mathlib.Core.List.{List, ◌++◌}
use native.Mathlib.Omega.{arith}
use borrow.Author.Tests.{lt-ltb, ltb-true, ltb-false, ne_eqb, eqb-true, eqb-false}
use lib.Dec.{ltb, eqb}
use lib.ListN.{length, take, drop, length-replicate}
use Rattle.answer_types.specs.Verdict.{done}
use Rattle.byte_strings.specs.Lists.{part, put, joined, zeros}
use Rattle.byte_strings.proofs.Lists.{length_put, part_put, part_put_before, part_put_behind, run_ext}
use Rattle.byte_strings.proofs.Bools.{both_true, true_both, clash}
use Rattle.tree_index.specs.Tree.{index, filled}
use Rattle.bitfield.specs.Release.{stored_held, released_bits}
use Rattle.bitfield.specs.Image.{entry, entry_count, entries_for}
use Rattle.bitfield.proofs.Bits.{without_one}
use Rattle.bitfield.proofs.Image.{entry_ext}
use Rattle.file_format.specs.Headers.{bitfield_header}
use Rattle.file_format.specs.Sizes.{used_bitfield}
use Rattle.file_format.specs.Messages.{leaf_message}
use Rattle.file_format.specs.Stored.{stored_size}
use Rattle.checks.specs.Checks.{adds_up}
use Rattle.audit.specs.Audit.{held_bits}
use Rattle.lookup.specs.Descent.{reached, always, chunk_within, descent}
use Rattle.lookup.specs.Lookup.{to_chunk}
use Rattle.lookup.proofs.Lookups.{one_start}
use Rattle.release.proofs.Calls.{cleared_at}
use Rattle.packet.specs.Inner.{ChunkOf}
use Rattle.release.specs.Release.{released_register}
use Rattle.release.proofs.Bits.{bits_long, bits_header}
use Rattle.copy_checks.specs.Copy.{Copy, known, unsigned}
use Rattle.copy_checks.specs.Descents.{copy_to_chunk}
use Rattle.copy_checks.specs.Checks.{unknown_root}
use Rattle.copy_checks.proofs.Steps.{Lent, partly_passes}
use Rattle.copy_checks.proofs.Descents.{chunk_read, chunk_same}
use Rattle.copy_release.specs.Release.{released_copy}
use Rattle.copy_audit.specs.Audit.{known_bits}
use Rattle.theorem_taking_laws.proofs.ChunksApart.{descents_apart}
use Rattle.bitfield.proofs.StoredBits.{RoomFor}
use Rattle.file_format.proofs.Shown.{shown, shown_used, used_shown, shown_held, held_less}
use Rattle.theorem_copy_audit.specs.Theorems.{leaf_data, LeafSound, Sound}
use Rattle.theorem_copy_audit.proofs.Sound.{bits_are, passed_too}
use Rattle.theorem_copies_kept.proofs.Stay.{known_less, Asked, data_room}
use Rattle.file_format.specs.Images.{bitfield_of}

module _ (F : List ℕ → List ℕ) (c : Copy) (s : Sound F c) (i : ℕ) (a : Asked c i) where
  abbrev t : List ℕ
  t = c.tree

  abbrev size : ℕ → ℕ
  size k = stored_size c.tree (index 0 k)

  abbrev d : Copy
  d = released_copy c i

  own : LeafSound F c i
  own = s.leaf i a.below (s.held_known i a.below a.held)

  -- ---- the data

  descends : (k : ℕ) (l : LeafSound F c k) → descent always (chunk_within k) t c.n ≡ reached k l.start
  unfolding to_chunk
  descends k l = sym (chunk_same c k (chunk_read c k l.comes)) ∙ l.comes

  abbrev content' : List ℕ
  content' = put c.content own.start (zeros (stored_size c.tree (index 0 i)))

  content_is : d.content ≡ content'
  unfolding released_copy to_chunk
  content_is = cleared_at (unsigned c) i a.below (descends i own)

  long : length (zeros (size i)) ≡ size i
  long = length-replicate {A = ℕ} (size i) 0

  inside : own.start + size i ≤ length c.content
  inside = omega (arith, own.inside, a.knowing.lent.content)

  apart : (k : ℕ) → k < c.n → (k ≡ i → ⊥) → (l : LeafSound F c k) → (l.start + size k ≤ own.start) ⊎ (own.start + size i ≤ l.start)
  apart k h n l = pick (ltb k i) refl
    where
      of : (j : ℕ) → j < c.n → ChunkOf c.n j
      of j b = record { count = a.knowing.lent.count; below = b }

      other : i ≤ k → i < k
      other b = omega (arith, n)

      pick : (x : Bool) → ltb k i ≡ x → (l.start + size k ≤ own.start) ⊎ (own.start + size i ≤ l.start)
      pick true e =
          inl (descents_apart t k i (ltb-true k i e) c.n k l.start i own.start (of i a.below) (descends k l) (descends i own))
      pick false e =
          inr (descents_apart t i k (other (ltb-false k i e)) c.n i own.start k l.start (of k h) (descends i own) (descends k l))

  -- of another chunk they stay
  kept : (k : ℕ) → k < c.n → (k ≡ i → ⊥) → (l : LeafSound F c k) → part content' l.start (size k) ≡ leaf_data c k l.start
  kept k h n l = pick (apart k h n l)
    where
      pick : (l.start + size k ≤ own.start) ⊎ (own.start + size i ≤ l.start) → part content' l.start (size k) ≡ leaf_data c k l.start
      pick (inl q) = part_put_before c.content own.start (zeros (size i)) l.start (size k) q (omega (arith, inside))
      pick (inr q) = part_put_behind c.content own.start (zeros (size i)) l.start (size k) (omega (arith, long)) (omega (arith, inside))

  gone : part content' own.start (size i) ≡ zeros (size i)
  gone = part_put c.content own.start (size i) (zeros (size i)) long (omega (arith, inside))

  -- ---- the bits

  room : RoomFor c.bitfield (i / 8192)
  room = data_room c i a.knowing.lent a.below

  knows : known d ≡ known c
  unfolding released_copy released_register
  knows = (λ j x. known_less c.bitfield i room x j)

  abbrev held_of : ℕ → Bool
  held_of = held_bits c.bitfield c.n

  abbrev known_of : ℕ → Bool
  known_of = known_bits c.bitfield c.n

  abbrev left : ℕ → Bool
  left = without_one (held_bits c.bitfield c.n) i

  abbrev tail : List ℕ
  tail = drop (used_bitfield c.n) c.bitfield

  shows : d.bitfield ≡ shown left known_of c.n tail
  unfolding released_copy released_register bitfield_of entries_for
  shows =
      ap (λ (l : List ℕ). released_bits l i) (used_shown c.bitfield held_of known_of c.n (s.bits ∙ sym (bits_are c)))
      ∙ held_less held_of known_of c.n tail i a.below

  held_left : (k : ℕ) → k < c.n → stored_held d.bitfield k ≡ left k
  held_left k h = ap (λ (l : List ℕ). stored_held l k) shows ∙ shown_held left known_of c.n tail k h

  -- a chunk that is held now was held, and is another
  held_still : (k : ℕ) → k < c.n → stored_held d.bitfield k ≡ true → (stored_held c.bitfield k ≡ true) × (k ≡ i → ⊥)
  unfolding held_bits
  held_still k h e =
      let q = both_true (held_of k) (not (eqb k i)) (sym (held_left k h) ∙ e) in
      ((both_true (ltb k c.n) (stored_held c.bitfield k) q.0).1, other (eqb k i) refl q.1)
    where
      other : (b : Bool) → eqb k i ≡ b → not b ≡ true → k ≡ i → ⊥
      other true f n z = let y : ◌≡◌ {A = ℕ} 0 1 = cc in omega arith
      other false f n z = eqb-false k i f z

  -- and the other way
  released_was : (k : ℕ) → k < c.n → (k ≡ i → ⊥) → stored_held d.bitfield k ≡ false → stored_held c.bitfield k ≡ false
  unfolding held_bits
  released_was k h n e = pick (stored_held c.bitfield k) refl
    where
      pick : (b : Bool) → stored_held c.bitfield k ≡ b → b ≡ false
      pick false f = refl
      pick true f =
          clash (left k)
          (true_both (held_of k) (not (eqb k i)) (true_both (ltb k c.n) (stored_held c.bitfield k) (lt-ltb k c.n h) f) (ap not (ne_eqb k i n)))
          (sym (held_left k h) ∙ e)

  -- ---- what is sound stays so

  same_known : (j : ℕ) → known d j ≡ known c j
  same_known j = ap (λ (f : ℕ → Bool). f j) knows

  same_descent : (k : ℕ) → copy_to_chunk d k ≡ copy_to_chunk c k
  unfolding copy_to_chunk released_copy released_register
  same_descent k = ap (λ (f : ℕ → Bool). descent f (chunk_within k) t c.n) knows

  leaf_left : (k : ℕ) → k < c.n → LeafSound F c k → LeafSound F d k
  unfolding released_copy released_register
  leaf_left k h l =
      record {
        start = l.start;
        comes = same_descent k ∙ l.comes;
        short = l.short;
        inside = l.inside;
        held = λ e. let q = held_still k h e in l.held q.0 ∙ ap (λ (x : List ℕ). F (leaf_message x)) (sym (bytes ∙ kept k h q.1 l));
        released = λ e. pick (eqb k i) refl e;
      }
    where
      bytes : leaf_data d k l.start ≡ part content' l.start (size k)
      bytes = ap (λ (x : List ℕ). part x l.start (size k)) content_is

      pick : (b : Bool) → eqb k i ≡ b → stored_held d.bitfield k ≡ false → leaf_data d k l.start ≡ zeros (size k)
      pick true q e =
          let w : k ≡ i = eqb-true k i q in
          let one : l.start ≡ own.start = one_start (sym l.comes ∙ ap (copy_to_chunk c) w ∙ own.comes) in
          bytes ∙ ap₂ (part content') one (ap size w) ∙ gone ∙ ap (λ (j : ℕ). zeros (size j)) (sym w)
      pick false q e = let n = eqb-false k i q in bytes ∙ kept k h n l ∙ l.released (released_was k h n e)

  lent_left : Lent d
  unfolding released_copy released_register
  lent_left =
      let l = a.knowing.lent in
      record {
        count = l.count;
        tree = l.tree;
        bitfield = subst (λ (x : ℕ). used_bitfield c.n ≤ x) (sym (bits_long c.bitfield i room)) l.bitfield;
        content =
            subst (λ (x : List ℕ). c.size ≤ length x) (sym content_is)
            (subst (λ (x : ℕ). c.size ≤ x) (sym (length_put c.content own.start (zeros (size i)) (omega (arith, inside, long)))) l.content);
        tree_front_lem = l.tree_front_lem;
        bitfield_front = bits_header c.bitfield i room ∙ l.bitfield_front;
      }

  held_now : (k : ℕ) → left k ≡ held_bits d.bitfield c.n k
  unfolding held_bits
  held_now k = pick (ltb k c.n) refl
    where
      pick : (b : Bool) → ltb k c.n ≡ b → ((ltb k c.n && stored_held c.bitfield k) && not (eqb k i)) ≡ (ltb k c.n && stored_held d.bitfield k)
      pick true e = sym (ap (λ (b : Bool). b && stored_held d.bitfield k) e ∙ held_left k (ltb-true k c.n e))
      pick false e =
          ap (λ (b : Bool). (b && stored_held c.bitfield k) && not (eqb k i)) e ∙ sym (ap (λ (b : Bool). b && stored_held d.bitfield k) e)

  known_now : (j : ℕ) → known_of j ≡ known_bits d.bitfield c.n j
  unfolding known_bits
  known_now j = ap (λ (b : Bool). filled c.n j && b) (sym (same_known j))

  bits_left : take (used_bitfield c.n) d.bitfield ≡ bitfield_of (held_bits d.bitfield c.n) (known_bits d.bitfield c.n) c.n
  unfolding entries_for bitfield_of
  bits_left =
      ap (take (used_bitfield c.n)) shows ∙ shown_used left known_of c.n tail
      ∙ ap (λ (l : List (List ℕ)). bitfield_header ++ joined l)
      (run_ext (entry left known_of) (entry (held_bits d.bitfield c.n) (known_bits d.bitfield c.n)) 0 (entry_count c.n)
      (λ e x y. entry_ext left (held_bits d.bitfield c.n) known_of (known_bits d.bitfield c.n) held_now known_now e))

  pub releases : Sound F (released_copy c i)
  unfolding released_copy released_register
  releases =
      record {
        checks = partly_passes d done lent_left (passed_too (unknown_root d) (adds_up t c.n c.size) a.knowing.adds);
        hole = s.hole;
        unknown = λ j f e. s.unknown j f (sym (same_known j) ∙ e);
        held_known = λ k h e. same_known (index 0 k) ∙ s.held_known k h (held_still k h e).0;
        leaf = λ k h e. leaf_left k h (s.leaf k h (sym (same_known (index 0 k)) ∙ e));
        parent = λ x k f e l r.
            s.parent x k f (sym (same_known (index (suc x) k)) ∙ e) (sym (same_known (index x (2 * k))) ∙ l) (sym (same_known (index x (2 * k + 1))) ∙ r);
        bits = bits_left ∙ bits_are d;
      }
