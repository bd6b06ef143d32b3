-- The climb along the siblings, and the root put back among the others.
-- Assumes nothing.
use Prim.Native.Nat.{ℕ, zero, suc, ◌+◌, ◌-◌, ◌*◌, ◌/◌, ◌%◌, ◌≤◌, ◌<◌}
use mathlib.Core.Path.{◌≡◌, refl, sym, ap, ◌∙◌, subst}
use mathlib.Core.Bool.{Bool, cond}
use mathlib.Core.Logic.{◌⊎◌, inl, inr}
use mathlib.Core.List.{List, [], ◌∷◌}
use native.Mathlib.Nat.{add_comm}
use native.Mathlib.Numerals.{add-one}
use native.Mathlib.Omega.{arith}
use lib.Dec.{eqb}
use lib.ListN.{length}
use borrow.Author.Tests.{lt-ltb, le-ltb, eq-eqb, ne_eqb}
use Rattle.byte_strings.specs.Lists.{run, total}
use Rattle.tree_index.proofs.Roots.{bit}
use Rattle.file_format.specs.Messages.{parent_message}
use Rattle.file_format.specs.Entries.{Entry, parent_of}
use Rattle.packet.specs.Check.{entry_in, entries_in, ordered, steps_above, last_entry}
use Rattle.packet.specs.Inner.{sizes_in, Climbable, climbed, turned, TurnIn, TurnsIn}

-- ---- one step up

-- an entry by its hash and its length
abbrev pub entry : List ℕ → ℕ → Entry
entry h s = record { hash = h; size = s }

abbrev pub arranged : {A : Type 0} → ℕ → A → A → A
arranged b x y = elim b [ zero ↦ x | suc c ↦ y ]

pub odd : (k : ℕ) → (k % 2 ≡ 0 → ⊥) → k % 2 ≡ 1
odd k h = omega arith

module _ (F : List ℕ → List ℕ) (k : ℕ) (e s : Entry) where
  pub left_first : k % 2 ≡ 0 → ordered k (parent_of F) e s ≡ parent_of F e s
  unfolding ordered
  left_first h = ap (λ (b : ℕ). arranged b (parent_of F e s) (parent_of F s e)) h

  pub right_first : k % 2 ≡ 1 → ordered k (parent_of F) e s ≡ parent_of F s e
  unfolding ordered
  right_first h = ap (λ (b : ℕ). arranged b (parent_of F e s) (parent_of F s e)) h

  pub stepped_left : (h : List ℕ) → k % 2 ≡ 0 → h ≡ F (parent_message (e.size + s.size) e.hash s.hash)
      → entry h (e.size + s.size) ≡ ordered k (parent_of F) e s
  unfolding parent_of
  stepped_left h z f = ap (λ (x : List ℕ). entry x (e.size + s.size)) f ∙ sym (left_first z)

  pub stepped_right : (h : List ℕ) → k % 2 ≡ 1 → h ≡ F (parent_message (e.size + s.size) s.hash e.hash)
      → entry h (e.size + s.size) ≡ ordered k (parent_of F) e s
  unfolding parent_of
  stepped_right h z f =
      ap (λ (x : List ℕ). entry x (e.size + s.size)) f
      ∙ ap (λ (n : ℕ). entry (F (parent_message n s.hash e.hash)) n) (add_comm e.size s.size) ∙ sym (right_first z)

  pub ordered_size : (ordered k (parent_of F) e s).size ≡ e.size + s.size
  unfolding parent_of
  ordered_size = pick (bit k)
    where
      pick : (k % 2 ≡ 0) ⊎ (k % 2 ≡ 1) → (ordered k (parent_of F) e s).size ≡ e.size + s.size
      pick (inl z) = ap (λ (x : Entry). x.size) (left_first z)
      pick (inr z) = ap (λ (x : Entry). x.size) (right_first z) ∙ add_comm s.size e.size

-- ---- the climb

pub run_front : {A : Type 0} (f : ℕ → A) (j count : ℕ) → j < count → run f j (count - j) ≡ f j ∷ run f (j + 1) (count - (j + 1))
unfolding run
run_front {A} f j count h =
    let e : count - j ≡ suc (count - (j + 1)) = omega arith in
    ap (run f j) e ∙ ap (λ (i : ℕ). f j ∷ run f i (count - (j + 1))) (sym (add-one j))

pub run_over : {A : Type 0} (f : ℕ → A) (j count : ℕ) → count ≤ j → run f j (count - j) ≡ []
unfolding run
run_over f j count h = let e : count - j ≡ 0 = omega arith in ap (run f j) e

module _ (F : List ℕ → List ℕ) (p : List ℕ) (at count : ℕ) where
  abbrev here : ℕ → Entry
  here i = entry_in p (at + 40 * i)

  abbrev long : ℕ → ℕ
  long i = (entry_in p (at + 40 * i)).size

  -- from the block k with the entry e, the siblings from j on still to come
  pub record Climbing (k₀ k : ℕ) (e₀ e : Entry) (j : ℕ) : Type 0 where
    pub few : j ≤ count
    pub same : climbed F k e (run here j (count - j)) ≡ climbed F k₀ e₀ (entries_in p at count)
    pub sum : e.size + total (run long j (count - j)) ≤ 68719476736

  pub climbing_none : (k : ℕ) (e : Entry) → Climbable p at count e.size → Climbing k k e e 0
  unfolding entries_in sizes_in
  climbing_none k e h =
      let z : count ≡ count - 0 = omega arith in
      record {
        few = omega arith;
        same = ap (λ (m : ℕ). climbed F k e (run here 0 m)) (sym z);
        sum = subst (λ (m : ℕ). e.size + total (run long 0 m) ≤ 68719476736) z h.sum;
      }

  module _ (k₀ k : ℕ) (e₀ e : Entry) (j : ℕ) (c : Climbing k₀ k e₀ e j) where
    pub climbing_end : count ≤ j → e ≡ climbed F k₀ e₀ (entries_in p at count)
    unfolding climbed
    climbing_end h = sym (ap (climbed F k e) (run_over here j count h)) ∙ c.same

    module _ (h : j < count) (s : Entry) (i : s ≡ entry_in p (at + 40 * j)) where
      rest : ℕ
      rest = total (run long (j + 1) (count - (j + 1)))

      sums : e.size + (s.size + rest) ≤ 68719476736
      unfolding total rest
      sums =
          subst (λ (x : Entry). e.size + (x.size + total (run long (j + 1) (count - (j + 1)))) ≤ 68719476736) (sym i)
          (subst (λ (l : List ℕ). e.size + total l ≤ 68719476736) (run_front long j count h) c.sum)

      pub climbing_fits : e.size + s.size ≤ 68719476736
      climbing_fits = omega (arith, sums)

      pub climbing_next : (a : Entry) → a ≡ ordered k (parent_of F) e s → Climbing k₀ (k / 2) e₀ a (j + 1)
      unfolding climbed rest
      climbing_next a g =
          let f : a ≡ ordered k (parent_of F) e (here j) = g ∙ ap (ordered k (parent_of F) e) i in
          let z : a.size ≡ e.size + s.size = ap (λ (x : Entry). x.size) g ∙ ordered_size F k e s in
          let q : e.size + (s.size + total (run long (j + 1) (count - (j + 1)))) ≤ 68719476736 = sums in
          record {
            few = omega arith;
            same = ap (λ (x : Entry). climbed F (k / 2) x (run here (j + 1) (count - (j + 1)))) f
                ∙ sym (ap (climbed F k e) (run_front here j count h)) ∙ c.same;
            sum = omega arith;
          }

-- ---- the steps of the definition

module _ (F : List ℕ → List ℕ) where
  pub steps_climb : (d k : ℕ) (e : Entry) (ss : List Entry) → last_entry e (steps_above F d k e ss) ≡ climbed F k e ss
  unfolding last_entry steps_above climbed
  steps_climb d k e [] = refl
  steps_climb d k e (s ∷ ss) = steps_climb (d + 1) (k / 2) (ordered k (parent_of F) e s) ss

  pub steps_count : (d k : ℕ) (e : Entry) (ss : List Entry) → length (steps_above F d k e ss) ≡ length ss
  unfolding steps_above
  steps_count d k e [] = refl
  steps_count d k e (s ∷ ss) = ap suc (steps_count (d + 1) (k / 2) (ordered k (parent_of F) e s) ss)

-- ---- a row with one put in

module _ {A : Type 0} (f : ℕ → A) (k : ℕ) (x : A) (j : ℕ) where
  pub turned_before : j < k → turned f k x j ≡ f j
  unfolding turned
  turned_before h = ap (λ (b : Bool). cond b (f j) (cond (eqb j k) x (f (j - 1)))) (lt-ltb j k h)

  pub turned_here : j ≡ k → turned f k x j ≡ x
  unfolding turned
  turned_here e =
      ap (λ (b : Bool). cond b (f j) (cond (eqb j k) x (f (j - 1)))) (le-ltb j k (omega arith))
      ∙ ap (λ (b : Bool). cond b x (f (j - 1))) (eq-eqb j k e)

  pub turned_behind : k ≤ j → (j ≡ k → ⊥) → turned f k x j ≡ f (j - 1)
  unfolding turned
  turned_behind h n =
      ap (λ (b : Bool). cond b (f j) (cond (eqb j k) x (f (j - 1)))) (le-ltb j k h)
      ∙ ap (λ (b : Bool). cond b x (f (j - 1))) (ne_eqb j k n)

pub turn_in : (p : List ℕ) (at k count j : ℕ) → TurnsIn p at k count → j < count → TurnIn p at k j
turn_in p at k count j t h =
    record {
      before = λ l. omega (arith, t.inside, t.place);
      behind = λ l. omega (arith, t.inside, t.place);
      few = omega (arith, t.few);
    }
