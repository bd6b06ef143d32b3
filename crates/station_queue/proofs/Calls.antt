-- What the calls on a table answer and leave, from the case that each came to. Assumes nothing.
use Rattle.std.specs.Prelude.{Result, Ok, ⊤}
use Rattle.answer_types.specs.declared.Refusal.{Refusal}
use Prim.Native.Nat.{ℕ, suc, ◌+◌, ◌-◌, ◌%◌, ◌<◌, ◌≤◌}
use mathlib.Core.Path.{◌≡◌, refl, sym, ap, ap₂, ◌∙◌}
use mathlib.Core.List.{List, [], ◌∷◌}
use native.Mathlib.Omega.{arith}
use lib.ListN.{length, get_or, set}
use lib.Seq.{get_or-set_same, get_or-set_other}
use borrow.Author.Tests.{lt-ltb, le-ltb}
use Rattle.answer_types.specs.Verdict.{Verdict, none, done, refused, unless_refused}
use Rattle.answer_types.specs.Meaning.{said}
use Rattle.byte_strings.specs.Lists.{run}
use Rattle.byte_strings.proofs.Lists.{run_ext}
use Rattle.station_queue.specs.Table.{Read, Table, Turn, nobody, turn, waiting_for, behind, after_turn, without, round_from, first_of, enter_verdict, entered, next, served, fresh}
use Rattle.station_queue.specs.Words.{count_at, first_at, read_at, waiting_at, last_at, table_of, behind_at, stored_at, dropped_at, left_at}
use Rattle.station_queue.specs.Post.{Entered, Left}
use Rattle.station_queue.proofs.Numbers.{for_station, length_waiting, first_below, count_is, tabled, stored, stored_table, dropped, dropped_table}
use Rattle.station_queue.proofs.Turns.{passed, met, ended, found}

-- ---- entering

module _ (t : Table) (s : ℕ) where
  pub verdict_21 : 16 ≤ s → enter_verdict t s ≡ refused 21 none
  unfolding enter_verdict
  verdict_21 h = rw (le-ltb s 16 h)

  pub verdict_22 : s < 16 → 4 ≤ length (waiting_for t s) → enter_verdict t s ≡ refused 22 none
  unfolding enter_verdict
  verdict_22 h l = rw (lt-ltb s 16 h, le-ltb (length (waiting_for t s)) 4 l)

  pub verdict_done : s < 16 → length (waiting_for t s) < 4 → enter_verdict t s ≡ done
  unfolding enter_verdict
  verdict_done h l = rw (lt-ltb s 16 h, lt-ltb (length (waiting_for t s)) 4 l)

waiting_count : (t : List ℕ) (s : ℕ) → s < 16 → length (waiting_for (table_of t) s) ≡ count_at t s
waiting_count t s h = ap length (for_station t s h) ∙ length_waiting t s

turned_away_lem : (t : List ℕ) (s m : ℕ) (r : Read) (a : Result ⊤ Refusal) → said a ≡ refused m none → enter_verdict (table_of t) s ≡ refused m none → Entered s r t a t
unfolding entered
turned_away_lem t s m r a e v =
    record {
      answers = e ∙ sym v;
      table = sym (ap (λ (x : Verdict). unless_refused x (behind (table_of t) s r) (table_of t)) v);
      numbers = sym (ap (λ (x : Verdict). unless_refused x (stored_at t s r) t) v);
    }

pub entered_21 : (t : List ℕ) (s : ℕ) (r : Read) (a : Result ⊤ Refusal) → said a ≡ refused 21 none → 15 < s → Entered s r t a t
entered_21 t s r a e h = turned_away_lem t s 21 r a e (verdict_21 (table_of t) s (omega arith))

pub entered_22 : (t : List ℕ) (s n : ℕ) (r : Read) (a : Result ⊤ Refusal) → said a ≡ refused 22 none → s ≤ 15 → n ≡ count_at t s → 4 ≤ n → Entered s r t a t
entered_22 t s n r a e h c l = turned_away_lem t s 22 r a e (verdict_22 (table_of t) s (omega arith) (omega (arith, waiting_count t s (omega arith))))

pub entered_done : (t : List ℕ) (s f n g c : ℕ) → length t ≡ 161 → s ≤ 15 → f ≡ first_at t s → n ≡ count_at t s → n < 4
    → Entered s (record { register = g; chunk = c }) t (Ok tt) (stored t s ((f + n) % 4) g c (n + 1))
unfolding entered stored_at behind_at
entered_done t s f n g c long h first count l =
    let v : enter_verdict (table_of t) s ≡ done = verdict_done (table_of t) s (omega arith) (omega (arith, waiting_count t s (omega arith))) in
    record {
      answers = sym v;
      table =
          ap (λ (x : ℕ). table_of (stored t s ((f + n) % 4) g c (x + 1))) count
          ∙ stored_table t s g c long (omega arith) (omega arith) ((f + n) % 4) (ap₂ (λ (x y : ℕ). (x + y) % 4) first count)
          ∙ sym (ap (λ (x : Verdict). unless_refused x (behind (table_of t) s (record { register = g; chunk = c })) (table_of t)) v);
      numbers =
          ap₂ (λ (x y : ℕ). stored t s ((x + y) % 4) g c (y + 1)) first count
          ∙ sym (ap (λ (x : Verdict). unless_refused x (stored_at t s (record { register = g; chunk = c })) t) v);
    }

-- ---- whose turn it is

none_at : (t : List ℕ) (s : ℕ) → count_at t s ≡ 0 → waiting_at t s ≡ []
unfolding waiting_at run
none_at t s e = ap (run (λ j. read_at t s ((first_at t s + j) % 4)) 0) e

some_at : (t : List ℕ) (s n : ℕ) → count_at t s ≡ suc n
    → waiting_at t s ≡ read_at t s (first_at t s) ∷ run (λ j. read_at t s ((first_at t s + j) % 4)) 1 n
unfolding waiting_at run
some_at t s n e =
    let q : (first_at t s + 0) % 4 ≡ first_at t s = omega (arith, first_below t s) in
    ap (run (λ j. read_at t s ((first_at t s + j) % 4)) 0) e
    ∙ ap (λ (p : ℕ). read_at t s p ∷ run (λ j. read_at t s ((first_at t s + j) % 4)) 1 n) q

-- the turn, where the stations less than k places further than station l were passed
abbrev pub turn_from : List ℕ → ℕ → ℕ → Turn
turn_from t l k = first_of (table_of t).waiting (run (round_from l) k (16 - k))

pub turn_starts : (t : List ℕ) (l : ℕ) → l ≡ last_at t → next (table_of t) ≡ turn_from t l 0
unfolding next table_of
turn_starts t l e = ap (λ (a : ℕ). first_of (run (waiting_at t) 0 16) (run (round_from a) 0 16)) (sym e)

module _ (t : List ℕ) (l k : ℕ) where
  pub pass_one : (n : ℕ) → k < 16 → n ≡ count_at t (round_from l k) → n ≤ 0 → turn_from t l k ≡ turn_from t l (k + 1)
  pass_one n h c z =
      let e : count_at t (round_from l k) ≡ 0 = omega arith in
      let a : 16 - k ≡ suc (16 - (k + 1)) = omega arith in
      let b : suc k ≡ k + 1 = omega arith in
      ap (λ (n : ℕ). first_of (table_of t).waiting (run (round_from l) k n)) a
      ∙ passed (table_of t).waiting (round_from l) k (16 - (k + 1)) (for_station t (round_from l k) (omega arith) ∙ none_at t (round_from l k) e)
      ∙ ap (λ (n : ℕ). first_of (table_of t).waiting (run (round_from l) n (16 - (k + 1)))) b

  pub meet_one : (n : ℕ) → k < 16 → n ≡ count_at t (round_from l k) → 0 < n
      → turn_from t l k ≡ turn (round_from l k) (read_at t (round_from l k) (first_at t (round_from l k)))
  meet_one n h c z =
      let a : 16 - k ≡ suc (16 - (k + 1)) = omega arith in
      let e : count_at t (round_from l k) ≡ suc (count_at t (round_from l k) - 1) = omega arith in
      ap (λ (n : ℕ). first_of (table_of t).waiting (run (round_from l) k n)) a
      ∙ met (table_of t).waiting (round_from l) k (16 - (k + 1)) (read_at t (round_from l k) (first_at t (round_from l k)))
      (run (λ j. read_at t (round_from l k) ((first_at t (round_from l k) + j) % 4)) 1 (count_at t (round_from l k) - 1))
      (for_station t (round_from l k) (omega arith) ∙ some_at t (round_from l k) (count_at t (round_from l k) - 1) e)

  pub none_met : 16 ≤ k → turn_from t l k ≡ nobody
  none_met h =
      let a : 16 - k ≡ 0 = omega arith in
      ap (λ (n : ℕ). first_of (table_of t).waiting (run (round_from l) k n)) a ∙ ended (table_of t).waiting (round_from l) k

-- ---- leaving

-- a station that has its turn is one of the sixteen, and a read waits for it
pub has_turn : (t : List ℕ) (s : ℕ) (r : Read) → turn s r ≡ next (table_of t) → (s < 16) × (0 < count_at t s)
unfolding next
has_turn t s r e =
    let h = found (table_of t).waiting (round_from (table_of t).last) 0 16 s r (sym e) in
    let low : s < 16 = omega (arith, h.here) in
    let c : length (waiting_for (table_of t) s) ≡ suc (length h.rest) = ap length h.waits in
    (low, omega (arith, waiting_count t s low, c))

pub nobody_left : (t : List ℕ) → nobody ≡ next (table_of t) → Left t t
unfolding served
nobody_left t e =
    record { table = ap (λ (x : Turn). without x (table_of t)) e; numbers = ap (λ (x : Turn). left_at x t) e }

pub dropped_is : (t : List ℕ) (s : ℕ) (f n : ℕ) → f ≡ first_at t s → n ≡ count_at t s → dropped t s ((f + 1) % 4) (n - 1) ≡ dropped_at t s
unfolding dropped_at
dropped_is t s f n a b = ap₂ (λ (x y : ℕ). dropped t s ((x + 1) % 4) (y - 1)) a b

dropped_reads : (t : List ℕ) (s : ℕ) → length t ≡ 161 → s < 16 → 0 < count_at t s → table_of (dropped_at t s) ≡ after_turn (table_of t) s
unfolding dropped_at
dropped_reads t s long low some = dropped_table t s ((first_at t s + 1) % 4) (count_at t s - 1) long low some refl refl

pub one_left : (t u : List ℕ) (s : ℕ) (r : Read) → length t ≡ 161 → turn s r ≡ next (table_of t) → u ≡ dropped_at t s → Left t u
unfolding served
one_left t u s r long e a =
    let h = has_turn t s r e in
    record {
      table = ap table_of a ∙ dropped_reads t s long h.0 h.1 ∙ ap (λ (x : Turn). without x (table_of t)) e;
      numbers = a ∙ ap (λ (x : Turn). left_at x t) e;
    }

-- ---- a fresh table

pub fresh_is : (z : List ℕ) → length z ≡ 161 → ((i : ℕ) → i < 161 → get_or z i 0 ≡ 0) → table_of (set z 160 15) ≡ fresh
unfolding table_of last_at fresh run
fresh_is z long zero_at =
    ap₂ tabled (run_ext (waiting_at (set z 160 15)) (λ s. []) 0 16 (λ s l m. none_at (set z 160 15) s (nothing s m)))
    (ap (λ (n : ℕ). n % 16) (get_or-set_same z 160 15 0 (omega arith)))
  where
    nothing : (s : ℕ) → s < 16 → count_at (set z 160 15) s ≡ 0
    nothing s h = count_is (set z 160 15) s 0 (get_or-set_other z 160 s 15 0 (λ e. omega arith) ∙ zero_at s (omega arith)) (omega arith)
