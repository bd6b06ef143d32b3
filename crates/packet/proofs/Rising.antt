-- The row of parents that a climb leads to.
-- Assumes nothing.
use Prim.Native.Nat.{ℕ, ◌+◌, ◌-◌, ◌*◌, ◌/◌, ◌≤◌, ◌<◌}
use mathlib.Core.Path.{◌≡◌, sym, ap, ◌∙◌}
use mathlib.Core.List.{List, ◌++◌}
use native.Mathlib.Omega.{arith}
use lib.ListN.{length, replicate, length-replicate}
use Rattle.byte_strings.specs.Lists.{put, run, joined}
use Rattle.byte_strings.proofs.Lists.{put_nil}
use Rattle.file_format.specs.Entries.{Entry, entry_bytes, parent_of}
use Rattle.file_format.proofs.Places.{put_next}
use Rattle.packet.specs.Check.{entry_in, entries_in, ordered, steps_above}
use Rattle.packet.specs.Inner.{Climbable, step_bytes, path_row}
use Rattle.packet.proofs.Climb.{Climbing, climbing_none, climbing_next, run_front, run_over}

module _ (F : List ℕ → List ℕ) (p : List ℕ) (at count c : ℕ) (leaf : Entry) where
  abbrev here : ℕ → Entry
  here i = entry_in p (at + 40 * i)

  -- with the steps still to come the row is the whole one
  pub record Rising (k : ℕ) (e : Entry) (j : ℕ) (row : List ℕ) : Type 0 where
    pub climbing : Climbing F p at count c k leaf e j
    pub long : length row ≡ 800
    pub same : put row (40 * j) (step_bytes (steps_above F j k e (run here j (count - j)))) ≡ path_row (steps_above F 0 c leaf (entries_in p at count))

  pub rising_none : Climbable p at count leaf.size → Rising c leaf 0 (replicate 800 0)
  unfolding entries_in path_row
  rising_none h =
      let z : count - 0 ≡ count = omega arith in
      record {
        climbing = climbing_none F p at count c leaf h;
        long = length-replicate {A = ℕ} 800 0;
        same = ap (λ (m : ℕ). path_row (steps_above F 0 c leaf (run here 0 m))) z;
      }

  module _ (k : ℕ) (e : Entry) (j : ℕ) (row : List ℕ) (w : Rising k e j row) where
    pub rising_next : (s a : Entry) (row' : List ℕ) → j < count → count ≤ 20 → s ≡ here j → a ≡ ordered k (parent_of F) e s → row' ≡ put row (40 * j) (entry_bytes a)
        → length (entry_bytes a) ≡ 40 → length row' ≡ length row → Rising (k / 2) a (j + 1) row'
    unfolding steps_above step_bytes joined
    rising_next s a row' h few i g r l m =
        let b : a ≡ ordered k (parent_of F) e (here j) = g ∙ ap (ordered k (parent_of F) e) i in
        let more : Entry → List ℕ = λ x. step_bytes (steps_above F (j + 1) (k / 2) x (run here (j + 1) (count - (j + 1)))) in
        record {
          climbing = climbing_next F p at count c k leaf e j w.climbing h s i a g;
          long = m ∙ w.long;
          same =
              ap (λ (x : List ℕ). put x (40 * (j + 1)) (more a)) r
              ∙ put_next row (40 * j) (40 * (j + 1)) 40 (entry_bytes a) (more a) l (omega arith) (omega (arith, w.long))
              ∙ ap (λ (x : Entry). put row (40 * j) (entry_bytes x ++ more x)) b
              ∙ sym (ap (λ (es : List Entry). put row (40 * j) (step_bytes (steps_above F j k e es))) (run_front here j count h)) ∙ w.same;
        }

    pub rising_end : count ≤ j → row ≡ path_row (steps_above F 0 c leaf (entries_in p at count))
    unfolding steps_above step_bytes joined
    rising_end h =
        sym (put_nil row (40 * j)) ∙ sym (ap (λ (es : List Entry). put row (40 * j) (step_bytes (steps_above F j k e es))) (run_over here j count h))
        ∙ w.same
