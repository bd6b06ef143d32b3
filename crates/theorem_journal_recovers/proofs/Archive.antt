-- Ten files: each by the claim for one. Assumes nothing.
use Prim.Native.Nat.{ℕ, zero, suc, ◌-◌, ◌≤◌, ◌<◌}
use native.Mathlib.Omega.{arith}
use mathlib.Core.Path.{◌≡◌, refl, sym, ap, ◌∙◌, subst}
use mathlib.Core.Logic.{⊎_elim}
use mathlib.Core.Bool.{Bool, true, false}
use mathlib.Core.List.Memᴰ
use mathlib.Core.List.{List, [], ◌∷◌, Memᴰ}
use lib.ListN.{length}
use lib.Dec.{eqb, leb}
use borrow.Author.Tests.{eqb-true, eq-eqb, leb-true}
use Rattle.byte_strings.proofs.Bools.{both_true}
use Rattle.journal.specs.Ranges.{Range, Placed, ranges_of, write_all, grown}
use Rattle.journal.specs.Form.{Journal, WellFormed, old_state, new_state, change_of, states_right, In}
use Rattle.theorem_journal_recovers.specs.Recovers.{Before, Between, SameOutside, Writes, Written, Left, Recovers, Made}
use Rattle.theorem_journal_recovers.specs.Archive.{File, absent, there, state, contents, Archive, sized, opened, write_file, write_in, writes_in, changed}
use Rattle.theorem_journal_recovers.specs.Archive.{after, BeforeAll, BetweenFile, BetweenAll, SameAll, WritesAll, LeftAll, TornAll, RecoversAll, MadeAll, MakesAll}
use Rattle.theorem_journal_recovers.specs.Archive.{RecoversAllForAll, MakesAllForAll}
use Rattle.theorem_journal_recovers.proofs.Recovers.{journal_recovers, journal_makes}

-- ---- the ranges of one file

-- a range of the file i is one of a placed range
abbrev From : ℕ → List Placed → Range → Type 0
From i ps r = (p : Placed) × Memᴰ p ps × (p.file ≡ i) × (p.range ≡ r)

pub from_placed : (i : ℕ) (ps : List Placed) (r : Range) → In r (ranges_of i ps) → From i ps r
unfolding ranges_of
from_placed i [] r m = absurd (Memᴰ.not-nil m)
from_placed i (p ∷ ps) r m = go (λ k. let x = from_placed i ps r k in (x.0, Memᴰ.tail x.1, x.2, x.3)) (eqb p.file i) refl
  where
    go : (In r (ranges_of i ps) → From i (p ∷ ps) r) → (b : Bool) → eqb p.file i ≡ b → From i (p ∷ ps) r
    go more true e =
        ⊎_elim (λ d. (p, Memᴰ.head refl, eqb-true _ _ e, sym d)) more
        (Memᴰ.cases_cons (subst (λ (b : Bool). In r (elim b as (λ x. List Range) [ true ↦ p.range ∷ ranges_of i ps | false ↦ ranges_of i ps ])) e m))
    go more false e = more (subst (λ (b : Bool). In r (elim b as (λ x. List Range) [ true ↦ p.range ∷ ranges_of i ps | false ↦ ranges_of i ps ])) e m)

pub to_placed : (i : ℕ) (ps : List Placed) (p : Placed) → Memᴰ p ps → p.file ≡ i → In p.range (ranges_of i ps)
unfolding ranges_of
to_placed i [] p m e = absurd (Memᴰ.not-nil m)
to_placed i (q ∷ ps) p m e = ⊎_elim here (λ k. behind (eqb q.file i) (to_placed i ps p k e)) (Memᴰ.cases_cons m)
  where
    behind : (b : Bool) → In p.range (ranges_of i ps) → In p.range (elim b as (λ x. List Range) [ true ↦ q.range ∷ ranges_of i ps | false ↦ ranges_of i ps ])
    behind true k = Memᴰ.tail k
    behind false k = k

    here : p ≡ q → In p.range (elim (eqb q.file i) as (λ x. List Range) [ true ↦ q.range ∷ ranges_of i ps | false ↦ ranges_of i ps ])
    here d =
        subst (λ (b : Bool). In p.range (elim b as (λ x. List Range) [ true ↦ q.range ∷ ranges_of i ps | false ↦ ranges_of i ps ]))
        (sym (eq-eqb q.file i (ap (λ (z : Placed). z.file) (sym d) ∙ e))) (Memᴰ.head (ap (λ (z : Placed). z.range) d))

-- ---- writing, file by file

abbrev write_file_all : List Range → File → File
write_file_all rs absent = absent
write_file_all rs (there f) = there (write_all rs f)

one_more_lem : (r : Range) (rs : List Range) (f : File) → write_file_all rs (write_file r f) ≡ write_file_all (r ∷ rs) f
unfolding write_all
one_more_lem r rs absent = refl
one_more_lem r rs (there f) = refl

none : (f : File) → f ≡ write_file_all [] f
unfolding write_all
none absent = refl
none (there f) = refl

writes_file : (ws : List Placed) (A : Archive) (i : ℕ) → writes_in ws A i ≡ write_file_all (ranges_of i ws) (A i)
unfolding writes_in ranges_of
writes_file [] A i = none (A i)
writes_file (p ∷ ws) A i = writes_file ws (write_in p A) i ∙ go (eqb p.file i) refl
  where
    go : (b : Bool) → eqb p.file i ≡ b
        → write_file_all (ranges_of i ws) (write_in p A i) ≡ write_file_all (elim (eqb p.file i) as (λ x. List Range) [ true ↦ p.range ∷ ranges_of i ws | false ↦ ranges_of i ws ]) (A i)
    go true e =
        unfold write_in in
        ap (λ (b : Bool). write_file_all (ranges_of i ws) (elim b as (λ x. File) [ true ↦ write_file p.range (A i) | false ↦ A i ])) e
        ∙ one_more_lem p.range (ranges_of i ws) (A i)
        ∙ sym (ap (λ (b : Bool). write_file_all (elim b as (λ x. List Range) [ true ↦ p.range ∷ ranges_of i ws | false ↦ ranges_of i ws ]) (A i)) e)
    go false e =
        unfold write_in in
        ap (λ (b : Bool). write_file_all (ranges_of i ws) (elim b as (λ x. File) [ true ↦ write_file p.range (A i) | false ↦ A i ])) e
        ∙ sym (ap (λ (b : Bool). write_file_all (elim b as (λ x. List Range) [ true ↦ p.range ∷ ranges_of i ws | false ↦ ranges_of i ws ]) (A i)) e)

-- a file without a byte and a file that is there, by their states
pub state_length : (f : File) → length (contents f) ≡ state f - 1
state_length absent = refl
state_length (there f) = omega arith

no_state : (f : File) → state f ≡ 0 → f ≡ absent
no_state absent e = refl
no_state (there f) e = absurd (omega arith)

-- states grow
pub states_grow : (i o n : ℕ) → states_right i o n ≡ true → o ≤ n
unfolding states_right
states_grow i o n e = leb-true _ _ (both_true (leb o n) _ e).0

module _ (x : Journal) (w : WellFormed x) where
  between_one : (A : Archive) (i : ℕ) → BetweenFile x i (A i) → Between (change_of x i) (contents (A i))
  between_one A i b =
      let e = state_length (A i) in
      let l = b.low in
      let h = b.high in
      record { low = omega arith; high = omega arith; mixed = b.mixed }

  only_one : (ws : List Placed) → ((p : Placed) → Memᴰ p ws → Memᴰ p x.ranges) → (i : ℕ) (r : Range) → In r (ranges_of i ws) → In r (ranges_of i x.ranges)
  only_one ws only i r m =
      let y = from_placed i ws r m in
      subst (λ (q : Range). In q (ranges_of i x.ranges)) y.3 (to_placed i x.ranges y.0 (only y.0 y.1) y.2)

  writes_one : (ws : List Placed) → WritesAll x ws → (i : ℕ) → Writes (change_of x i) (ranges_of i ws)
  writes_one ws a i =
      record {
        only = only_one ws a.only i;
        each = λ r m v.
            let y = from_placed i x.ranges r m in
            subst (λ (q : Range). In q (ranges_of i ws)) y.3
            (to_placed i ws y.0 (a.each y.0 y.1 (subst (λ (q : Range). Written q) (sym y.3) v)) y.2);
      }

  module _ (B : Archive) (before : BeforeAll x B) where
    before_one : (i : ℕ) → i < 10 → Before (change_of x i) (contents (B i))
    before_one i h = record { long = state_length (B i) ∙ ap (λ (n : ℕ). n - 1) (before.states i h); olds = before.olds i h }

    one : (i : ℕ) → i < 10 → Recovers (change_of x i) (contents (B i))
    one i h = journal_recovers (change_of x i) (w.sound i h) (contents (B i)) (before_one i h)

    -- a file that stays absent, and one that gets a length
    settled : (A : Archive) (i : ℕ) (h : i < 10) → BetweenFile x i (A i) → SameOutside (change_of x i) (contents (B i)) (contents (A i)) → (ws : List Placed) → WritesAll x ws
        → (n : ℕ) → new_state x i ≡ n → write_file_all (ranges_of i ws) (sized n (A i)) ≡ changed x i n (B i)
    settled A i h b s ws a zero e =
        let l = b.high in
        let k = b.low in
        let g = before.states i h in
        let p : A i ≡ absent = no_state (A i) (omega arith) in
        let q : B i ≡ absent = no_state (B i) (omega arith) in
        ap (write_file_all (ranges_of i ws)) p ∙ sym q
    settled A i h b s ws a (suc n) e =
        let d : (change_of x i).new ≡ n = omega arith in
        ap there (ap (λ (m : ℕ). write_all (ranges_of i ws) (grown m (contents (A i)))) (sym d) ∙ (one i h).any_order (contents (A i)) (between_one A i b) s (ranges_of i ws) (writes_one ws a i))

    any_order_lem : (A : Archive) → BetweenAll x A → SameAll x B A → (ws : List Placed) → WritesAll x ws → (i : ℕ) → i < 10 → writes_in ws (opened x A) i ≡ after x B i
    any_order_lem A b s ws a i h = writes_file ws (opened x A) i ∙ settled A i h (b i h) (s i h) ws a (new_state x i) refl

    grow : (i : ℕ) → i < 10 → old_state x i ≤ new_state x i
    grow i h = states_grow i (old_state x i) (new_state x i) (w.right i h)

    before_between : BetweenAll x B
    before_between i h =
        let e = before.states i h in
        let g = grow i h in
        record { low = omega arith; high = omega arith; mixed = ((one i h).between (contents (B i)) (one i h).before).mixed }

    after_state : (i : ℕ) → i < 10 → (n : ℕ) → new_state x i ≡ n → (state (changed x i n (B i)) ≡ n) × Left (change_of x i) (contents (B i)) (contents (changed x i n (B i)))
    after_state i h zero e = let d = before.states i h in let g = grow i h in (omega arith, (one i h).before)
    after_state i h (suc n) e = let d = (one i h).long in (omega arith, (one i h).after)

    after_between : BetweenAll x (after x B)
    after_between i h =
        let s = after_state i h (new_state x i) refl in
        let e = s.0 in
        let g = grow i h in
        record { low = omega arith; high = omega arith; mixed = ((one i h).between (contents (after x B i)) s.1).mixed }

    -- what a stop can leave of one file
    pub record LeftFile (i : ℕ) (f : File) : Type 0 where
      pub low : old_state x i ≤ state f
      pub high : state f ≤ new_state x i
      pub each : Left (change_of x i) (contents (B i)) (contents f)

    left_all : (A : Archive) → ((i : ℕ) → i < 10 → LeftFile i (A i)) → LeftAll x B A
    left_all A z = record { low = λ i h. (z i h).low; high = λ i h. (z i h).high; each = λ i h. (z i h).each }

    before_left_lem : (i : ℕ) → i < 10 → LeftFile i (B i)
    before_left_lem i h =
        let e = before.states i h in
        let g = grow i h in
        record { low = omega arith; high = omega arith; each = (one i h).before }

    after_left_lem : (i : ℕ) → i < 10 → LeftFile i (after x B i)
    after_left_lem i h =
        let s = after_state i h (new_state x i) refl in
        let e = s.0 in
        let g = grow i h in
        record { low = omega arith; high = omega arith; each = s.1 }

    module _ (A : Archive) (l : LeftAll x B A) where
      left_both : BetweenAll x A × SameAll x B A
      left_both = (
        λ i h. record { low = l.low i h; high = l.high i h; mixed = ((one i h).between (contents (A i)) (l.each i h)).mixed },
        λ i h. (one i h).outside (contents (A i)) (l.each i h),
      )

      torn_left : (T : Archive) → TornAll x B A T → LeftAll x B T
      torn_left T t = record { low = t.low; high = t.high; each = λ i h. (one i h).torn (contents (A i)) (contents (T i)) (l.each i h) (t.each i h) }

      -- a file that stays absent has nothing written, and one that gets a length has some of its ranges
      stopped_file : (ws : List Placed) → ((p : Placed) → Memᴰ p ws → Memᴰ p x.ranges) → (i : ℕ) → i < 10 → (n : ℕ) → new_state x i ≡ n
          → LeftFile i (write_file_all (ranges_of i ws) (sized n (A i)))
      stopped_file ws only i h zero e =
          let k = l.high i h in
          let p : A i ≡ absent = no_state (A i) (omega arith) in
          subst (λ (f : File). LeftFile i f) (p ∙ sym (ap (write_file_all (ranges_of i ws)) p)) (record { low = l.low i h; high = l.high i h; each = l.each i h })
      stopped_file ws only i h (suc n) e =
          let d : (change_of x i).new ≡ n = omega arith in
          let t : Left (change_of x i) (contents (B i)) (write_all (ranges_of i ws) (grown n (contents (A i)))) =
          subst (λ (m : ℕ). Left (change_of x i) (contents (B i)) (write_all (ranges_of i ws) (grown m (contents (A i))))) d
          ((one i h).stopped (contents (A i)) (l.each i h) (ranges_of i ws) (only_one ws only i)) in
          let a = t.low in
          let b = t.high in
          record { low = omega arith; high = omega arith; each = t }

      stopped_left : (ws : List Placed) → ((p : Placed) → Memᴰ p ws → Memᴰ p x.ranges) → LeftAll x B (writes_in ws (opened x A))
      stopped_left ws only =
          left_all (writes_in ws (opened x A))
          (λ i h. subst (λ (f : File). LeftFile i f) (sym (writes_file ws (opened x A) i)) (stopped_file ws only i h (new_state x i) refl))

    recovers_all : RecoversAll x B
    recovers_all =
        record {
          any_order = any_order_lem;
          before = before_between;
          afterwards = after_between;
          left = left_both;
          before_left = left_all B before_left_lem;
          after_left = left_all (after x B) after_left_lem;
          torn = λ A T l. torn_left A l T;
          stopped = stopped_left;
          heals = λ A l. any_order_lem A (left_both A l).0 (left_both A l).1;
        }

  makes_all : (B A : Archive) → MadeAll x B A → MakesAll x B A
  makes_all B A m = record { before = before_all; becomes = λ i h. at_file i h (new_state x i) refl (A i) refl }
    where
      made : (i : ℕ) → i < 10 → Made (change_of x i) (contents (B i)) (contents (A i))
      made i h =
          record {
            old = state_length (B i) ∙ ap (λ (n : ℕ). n - 1) (m.old i h);
            new = state_length (A i) ∙ ap (λ (n : ℕ). n - 1) (m.new i h);
            each = m.each i h;
            same = m.same i h;
          }

      before_all : BeforeAll x B
      before_all = record { states = m.old; olds = λ i h. (journal_makes (change_of x i) (w.sound i h) (contents (B i)) (contents (A i)) (made i h)).before.olds }

      at_file : (i : ℕ) (h : i < 10) (n : ℕ) → new_state x i ≡ n → (f : File) → A i ≡ f → changed x i n (B i) ≡ A i
      at_file i h zero e f d =
          let g = states_grow i (old_state x i) (new_state x i) (w.right i h) in
          let o = m.old i h in
          let k = m.new i h in
          no_state (B i) (omega arith) ∙ sym (no_state (A i) (omega arith))
      at_file i h (suc n) e absent d = let k = m.new i h in let z : state (A i) ≡ 0 = ap state d in absurd (omega arith)
      at_file i h (suc n) e (there f) d =
          ap there ((journal_makes (change_of x i) (w.sound i h) (contents (B i)) (contents (A i)) (made i h)).after ∙ ap contents d) ∙ sym d

pub archive_recovers : RecoversAllForAll
archive_recovers = recovers_all

pub archive_makes : MakesAllForAll
archive_makes = makes_all
