-- Two climbs side by side, from the code's tests.
-- Assumes nothing.
use Prim.Native.Nat.{ℕ, ◌+◌, ◌-◌, ◌*◌, ◌/◌, ◌≤◌, ◌<◌}
use mathlib.Core.Path.{◌≡◌, refl, sym, ap, ap₂, ◌∙◌, subst}
use mathlib.Core.Logic.{◌≢◌}
use mathlib.Core.Bool.{Bool, true, false}
use mathlib.Core.List.{List, ◌∷◌}
use native.Mathlib.Omega.{arith}
use Rattle.byte_strings.specs.Lists.{run, same_list}
use Rattle.byte_strings.proofs.Lists.{same_eq}
use Rattle.tree_index.specs.Tree.{index}
use Rattle.blake2b.specs.Hash.{node_hash}
use Rattle.file_format.specs.Entries.{Entry, parent_of}
use Rattle.file_format.proofs.Hashed.{hash_function}
use Rattle.compare.proofs.Local.{same_false}
use Rattle.packet.specs.Check.{Step, entry_in, entries_in, ordered, parent_message_of, steps_above}
use Rattle.packet.proofs.Climb.{run_front, run_over, Climbing, climbing_none, climbing_fits, climbing_next}
use Rattle.packet_compare.specs.Walk.{Walk, at_index, at_roots, first_pair}
use Rattle.packet_compare.specs.Inner.{Whole, Steppable, Climbable2, up_along}
use Rattle.packet_compare.proofs.Up.{ordered_hash, messages_differ, above_whole, stops, passes_on}
use Rattle.packet_compare.proofs.Roots.{entry_whole}

abbrev F : List ℕ → List ℕ
F = node_hash

-- ---- two climbs

module _ (p : List ℕ) (at : ℕ) (e₀ : Entry) (q : List ℕ) (at2 : ℕ) (f₀ : Entry) (count c : ℕ) where
  abbrev here : ℕ → Entry
  here i = entry_in p (at + 40 * i)

  abbrev there : ℕ → Entry
  there i = entry_in q (at2 + 40 * i)

  -- the first pair from the step above j on
  abbrev left : ℕ → ℕ → Entry → Entry → Walk
  left j k e f = first_pair F (steps_above F j k e (run here j (count - j))) (steps_above F j k f (run there j (count - j))) at_roots

  -- from the blocks k with the entries e and f, the siblings from j on still to come
  pub record Walking (e f : Entry) (k j : ℕ) : Type 0 where
    pub few : j ≤ count
    pub small : k < 1048576
    pub first : Climbing F p at count c k e₀ e j
    pub second : Climbing F q at2 count c k f₀ f j
    pub whole : Whole e × Whole f
    pub differ : e.hash ≢ f.hash
    pub rest : left j k e f ≡ up_along p at e₀ q at2 f₀ count c

  module _ (s : Climbable2 p at e₀ q at2 f₀ count c) where
    pub walking_none : Walking e₀ f₀ c 0
    unfolding up_along entries_in
    walking_none =
        let z : count - 0 ≡ count = omega arith in
        record {
          few = omega arith;
          small = s.small;
          first = climbing_none F p at count c e₀ s.first;
          second = climbing_none F q at2 count c f₀ s.second;
          whole = s.whole;
          differ = s.differ;
          rest = ap (λ (m : ℕ). first_pair F (steps_above F 0 c e₀ (run here 0 m)) (steps_above F 0 c f₀ (run there 0 m)) at_roots) z;
        }

    module _ (e f : Entry) (k j : ℕ) (w : Walking e f k j) where
      pub walking_end : count ≤ j → at_roots ≡ up_along p at e₀ q at2 f₀ count c
      unfolding steps_above first_pair
      walking_end h =
          sym (ap₂ (λ (x y : List Entry). first_pair F (steps_above F j k e x) (steps_above F j k f y) at_roots) (run_over here j count h) (run_over there j count h))
          ∙ w.rest

      module _ (h : j < count) where
        first_fits : e.size + (here j).size ≤ 68719476736
        first_fits = climbing_fits F p at count c k e₀ e j w.first h (here j) refl

        second_fits : f.size + (there j).size ≤ 68719476736
        second_fits = climbing_fits F q at2 count c k f₀ f j w.second h (there j) refl

        pub step_first : Steppable p (at + 40 * j) e.size
        step_first = record { inside = omega (arith, s.first.row.inside); sum = first_fits }

        pub step_second : Steppable q (at2 + 40 * j) f.size
        step_second = record { inside = omega (arith, s.second.row.inside); sum = second_fits }

        module _ (a b : Entry) (ea : a ≡ ordered k (parent_of F) e (here j)) (eb : b ≡ ordered k (parent_of F) f (there j)) where
          here_whole : Whole (here j)
          here_whole = entry_whole p (at + 40 * j) s.bytes.0 (omega (arith, s.first.row.inside))

          there_whole : Whole (there j)
          there_whole = entry_whole q (at2 + 40 * j) s.bytes.1 (omega (arith, s.second.row.inside))

          up : Step
          up = record { at = index (j + 1) (k / 2); message = ordered k parent_message_of e (here j); entry = ordered k (parent_of F) e (here j) }

          up2 : Step
          up2 = record { at = index (j + 1) (k / 2); message = ordered k parent_message_of f (there j); entry = ordered k (parent_of F) f (there j) }

          abbrev over : List Step
          over = steps_above F (j + 1) (k / 2) (ordered k (parent_of F) e (here j)) (run here (j + 1) (count - (j + 1)))

          abbrev over2 : List Step
          over2 = steps_above F (j + 1) (k / 2) (ordered k (parent_of F) f (there j)) (run there (j + 1) (count - (j + 1)))

          apart : up.message ≢ up2.message
          unfolding up up2
          apart = messages_differ k e f (here j) (there j) w.whole.0 w.whole.1 here_whole there_whole w.differ

          opened : left j k e f ≡ first_pair F (up ∷ over) (up2 ∷ over2) at_roots
          unfolding steps_above up up2
          opened =
              ap₂ (λ (x y : List Entry). first_pair F (steps_above F j k e x) (steps_above F j k f y) at_roots) (run_front here j count h) (run_front there j count h)

          hash_a : a.hash ≡ F up.message
          unfolding up
          hash_a = ap (λ (x : Entry). x.hash) ea ∙ ordered_hash F k e (here j)

          hash_b : b.hash ≡ F up2.message
          unfolding up2
          hash_b = ap (λ (x : Entry). x.hash) eb ∙ ordered_hash F k f (there j)

          pub walking_found : (r : Bool) → r ≡ same_list a.hash b.hash → r ≡ true → (i : ℕ) → i ≡ index (j + 1) (k / 2)
              → at_index i ≡ up_along p at e₀ q at2 f₀ count c
          unfolding up up2
          walking_found r t u i v =
              let o : F up.message ≡ F up2.message = sym hash_a ∙ same_eq a.hash b.hash (sym t ∙ u) ∙ hash_b in
              ap at_index v ∙ sym (opened ∙ stops F up up2 over over2 e f apart o at_roots) ∙ w.rest

          pub walking_next : (r : Bool) → r ≡ same_list a.hash b.hash → r ≡ false → Walking a b (k / 2) (j + 1)
          unfolding up up2
          walking_next r t u =
              let o : a.hash ≢ b.hash = same_false a.hash b.hash (sym t ∙ u) in
              let n : F up.message ≢ F up2.message = λ x. o (hash_a ∙ x ∙ sym hash_b) in
              record {
                few = omega arith;
                small = omega (arith, w.small);
                first = climbing_next F p at count c k e₀ e j w.first h (here j) refl a ea;
                second = climbing_next F q at2 count c k f₀ f j w.second h (there j) refl b eb;
                whole = (
                  subst Whole (sym ea) (above_whole F hash_function k e (here j) w.whole.0 here_whole),
                  subst Whole (sym eb) (above_whole F hash_function k f (there j) w.whole.1 there_whole),
                );
                differ = o;
                rest = ap₂ (λ (x y : Entry). left (j + 1) (k / 2) x y) ea eb ∙ sym (opened ∙ passes_on F up up2 over over2 e f n at_roots) ∙ w.rest;
              }
