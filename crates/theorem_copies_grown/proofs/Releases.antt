-- Releasing a chunk keeps it.
-- Assumes nothing.
use Prim.Native.Nat.{ℕ, ◌+◌, ◌-◌, ◌≤◌, ◌<◌}
use mathlib.Core.Path.{◌≡◌, refl, sym, ap, ap₂, ◌∙◌, subst}
use mathlib.Core.Bool.{Bool, true, false, not, ◌&&◌}
use mathlib.Core.Logic.{◌⊎◌, inl, inr}
use mathlib.Core.List.{List}
use native.Mathlib.Omega.{arith}
use borrow.Author.Tests.{leb-true, leb-false, ltb-true, ltb-false, eqb-true, eqb-false}
use lib.Dec.{leb, ltb, eqb}
use lib.ListN.{length, get_or, take, length-replicate}
use Rattle.answer_types.specs.Verdict.{tree, done}
use Rattle.byte_strings.specs.Lists.{part, put, zeros}
use Rattle.byte_strings.proofs.Lists.{length_put, get_d_part, part_put, part_put_before, part_put_behind, get_or_zeros}
use Rattle.byte_strings.proofs.Bools.{both_true}
use Rattle.tree_index.specs.Tree.{index}
use Rattle.bitfield.specs.Release.{stored_held, released_bits}
use Rattle.bitfield.proofs.Bits.{without_one}
use Rattle.file_format.specs.Sizes.{used_bitfield}
use Rattle.file_format.specs.Messages.{leaf_message}
use Rattle.file_format.specs.Stored.{stored_hash, stored_size}
use Rattle.lookup.specs.Lookup.{to_chunk}
use Rattle.release.proofs.Calls.{cleared_at}
use Rattle.release.specs.Release.{released_register}
use Rattle.copy_checks.specs.Copy.{Copy, unsigned}
use Rattle.copy_lookup.proofs.AsRegister.{held_done}
use Rattle.copy_release.specs.Release.{copy_release_verdict, released_copy}
use Rattle.file_format.proofs.Shown.{shown, shown_long, held_less, shown_front}
use Rattle.byte_strings.proofs.Puts.{get_d_beside}
use Rattle.theorem_taking_laws.proofs.Reaches.{chunk_start}
use Rattle.theorem_copies_grown.proofs.Grows.{Outside, Grows, stored_held_lem, comes_to, inside_data, lie_apart}

-- what a release that is done was asked
pub record Asked (c : Copy) (i : ℕ) : Type 0 where
  pub below : i < c.n
  pub bit : stored_held c.bitfield i ≡ true

pub asked : (c : Copy) (i : ℕ) → copy_release_verdict c i ≡ done → Asked c i
unfolding copy_release_verdict
asked c i e = let h = (held_done c i e).1 in record { below = h.below; bit = h.held }

module _ (F : List ℕ → List ℕ) (c : Copy) (g : Grows F c) (i : ℕ) (a : Asked c i) where
  abbrev t : List ℕ
  t = c.tree

  abbrev start : ℕ → ℕ
  start k = chunk_start c.tree c.n k

  abbrev size : ℕ → ℕ
  size k = stored_size c.tree (index 0 k)

  abbrev left : ℕ → Bool
  left = without_one g.held_of i

  was_held : g.held_of i ≡ true
  was_held = sym (stored_held_lem F c g i a.below) ∙ a.bit

  was_known : g.knows_of (index 0 i) ≡ true
  was_known = g.held_known i was_held

  long : length (zeros (size i)) ≡ size i
  long = length-replicate {A = ℕ} (size i) 0

  room : start i + size i ≤ length c.content
  room = omega (arith, inside_data F c g i was_known, g.lent.content)

  abbrev content' : List ℕ
  content' = put c.content (chunk_start c.tree c.n i) (zeros (stored_size c.tree (index 0 i)))

  content_is : (released_copy c i).content ≡ content'
  unfolding released_copy to_chunk
  content_is = cleared_at (unsigned c) i a.below (comes_to F c g i was_known)

  bits_left : (released_copy c i).bitfield ≡ shown left g.knows_of c.n g.tail
  unfolding released_copy released_register
  bits_left =
      ap (λ (l : List ℕ). released_bits l i) g.bits ∙ held_less g.held_of g.knows_of c.n g.tail i a.below

  left_held : (k : ℕ) → left k ≡ true → (g.held_of k ≡ true) × (k ≡ i → ⊥)
  left_held k e =
      let q = both_true (g.held_of k) (not (eqb k i)) e in (q.0, other (eqb k i) refl q.1)
    where
      other : (b : Bool) → eqb k i ≡ b → not b ≡ true → k ≡ i → ⊥
      other true f n z = let y : ◌≡◌ {A = ℕ} 0 1 = cc in omega arith
      other false f n z = eqb-false k i f z

  held_left : (k : ℕ) → g.held_of k ≡ true → (k ≡ i → ⊥) → left k ≡ true
  held_left k e n = pick (eqb k i) refl
    where
      pick : (b : Bool) → eqb k i ≡ b → (g.held_of k && not (eqb k i)) ≡ true
      pick true f = absurd (n (eqb-true k i f))
      pick false f = ap₂ (λ (x y : Bool). x && not y) e f

  bytes_left : (k : ℕ) → left k ≡ true → stored_hash t (index 0 k) ≡ F (leaf_message (part content' (start k) (size k)))
  bytes_left k e =
      let q = left_held k e in
      g.bytes k q.0 ∙ ap (λ (l : List ℕ). F (leaf_message l)) (sym (same (lie_apart F c g k i q.1 (g.held_known k q.0) was_known)))
    where
      same : (start k + size k ≤ start i) ⊎ (start i + size i ≤ start k) → part content' (start k) (size k) ≡ part c.content (start k) (size k)
      same (inl l) = part_put_before c.content (start i) (zeros (size i)) (start k) (size k) l (omega (arith, room))
      same (inr l) = part_put_behind c.content (start i) (zeros (size i)) (start k) (size k) (omega (arith, long)) (omega (arith, room))

  blank_left : (b : ℕ) → b < c.size → ((k : ℕ) → left k ≡ true → Outside t c.n k b) → get_or content' b 0 ≡ 0
  blank_left b l h = pick (ltb b (start i)) (leb (start i + size i) b) refl refl
    where
      beside : (b < start i) ⊎ (start i + size i ≤ b) → get_or content' b 0 ≡ 0
      beside w =
          get_d_beside c.content (start i) (zeros (size i)) b (subst (λ (x : ℕ). (b < start i) ⊎ (start i + x ≤ b)) (sym long) w) (omega (arith, room))
          ∙ g.blank b l (λ k q. each k q (eqb k i) refl)
        where
          each : (k : ℕ) → g.held_of k ≡ true → (x : Bool) → eqb k i ≡ x → Outside t c.n k b
          each k q true e = subst (λ (y : ℕ). Outside t c.n y b) (sym (eqb-true k i e)) w
          each k q false e = h k (held_left k q (eqb-false k i e))

      pick : (x y : Bool) → ltb b (start i) ≡ x → leb (start i + size i) b ≡ y → get_or content' b 0 ≡ 0
      pick true y e f = beside (inl (ltb-true b (start i) e))
      pick false true e f = beside (inr (leb-true (start i + size i) b f))
      pick false false e f =
          let j : ℕ = b - start i in
          let q : start i + j ≡ b = omega (arith, ltb-false b (start i) e) in
          ap (λ (x : ℕ). get_or content' x 0) (sym q)
          ∙ sym (get_d_part content' (start i) (size i) j 0 (omega (arith, ltb-false b (start i) e, leb-false (start i + size i) b f)))
          ∙ ap (λ (x : List ℕ). get_or x j 0) (part_put c.content (start i) (size i) (zeros (size i)) long (omega (arith, room))) ∙ get_or_zeros (size i) j

  pub releases : Grows F (released_copy c i)
  unfolding released_copy released_register
  releases =
      record {
        lent =
            record {
              count = g.lent.count;
              tree = g.lent.tree;
              bitfield = subst (λ (l : List ℕ). used_bitfield c.n ≤ length l) (sym bits_left) (omega (arith, shown_long left g.knows_of c.n g.tail));
              content =
                  subst (λ (l : List ℕ). c.size ≤ length l) (sym content_is)
                  (subst (λ (x : ℕ). c.size ≤ x) (sym (length_put c.content (start i) (zeros (size i)) (omega (arith, room, long)))) g.lent.content);
              tree_front_lem = g.lent.tree_front_lem;
              bitfield_front = ap (take 32) bits_left ∙ shown_front left g.knows_of c.n g.tail;
            };
        empty = g.empty;
        held_of = left;
        knows_of = g.knows_of;
        tail = g.tail;
        bits = bits_left;
        held_below = λ k e. g.held_below k (left_held k e).0;
        knows_filled_lem = g.knows_filled_lem;
        nought = g.nought;
        held_known = λ k e. g.held_known k (left_held k e).0;
        upward = g.upward;
        rooted = g.rooted;
        follows = g.follows;
        short = g.short;
        adds = g.adds;
        bytes = λ k e. bytes_left k e ∙ ap (λ (l : List ℕ). F (leaf_message (part l (start k) (size k)))) (sym content_is);
        blank = λ b l h. ap (λ (x : List ℕ). get_or x b 0) content_is ∙ blank_left b l h;
      }
