-- What holds of every run of calls from a fresh table. Assumes nothing.
use Prim.Native.Nat.{ℕ, ◌+◌, ◌-◌, ◌%◌, ◌<◌, ◌≤◌}
use mathlib.Core.Path.{◌≡◌, refl, sym, ap, ◌∙◌, subst}
use mathlib.Core.Bool.{Bool, true, false, cond, ◌||◌}
use mathlib.Core.List.{List, [], ◌∷◌, ◌++◌, append_assoc, append-nil}
use native.Mathlib.Omega.{arith}
use native.Mathlib.Nat.{zero-add}
use lib.Dec.{ltb, eqb}
use lib.ListN.{length, get_or, set, drop, replicate, length-append, length-drop, length-set, get_or-replicate, get_or-eq_default}
use lib.Seq.{get_or-set_same, get_or-set_other}
use borrow.Author.Tests.{ltb-true, ltb-false, eqb-true, eqb-false}
use Rattle.answer_types.specs.Verdict.{Verdict, Spot, none, done, refused, unless_refused}
use Rattle.byte_strings.specs.Lists.{among}
use Rattle.station_queue.specs.Table.{Read, Table, Turn, nobody, turn, waiting_for, Waits, behind, after_turn, without, round_from, enter_verdict, entered, next, served, fresh}
use Rattle.station_queue.specs.Runs.{Call, enter, serve, Event, entry_of, serving_of, event, after, after_all, events, comes, goes, came_for, went_for, whom}
use Rattle.station_queue.specs.Runs.{servings, Fair, FairForAll, Grown, begun, and_entered, and_served, FairAsLent}
use Rattle.station_queue.specs.Words.{table_of}
use Rattle.station_queue.proofs.Turns.{Found, found, silent, all_silent}
use Rattle.station_queue.proofs.Calls.{verdict_21, verdict_22, verdict_done}

-- sixteen stations, at most four reads of each, and one of them the last served
pub record Sound (t : Table) : Type 0 where
  pub long : length t.waiting ≡ 16
  pub few : (s : ℕ) → length (waiting_for t s) ≤ 4
  pub low : t.last < 16

-- ---- the verdict of an entry, and whose turn it is, by their cases

done_room : (t : Table) (s : ℕ) → enter_verdict t s ≡ done → (s < 16) × (length (waiting_for t s) < 4)
unfolding enter_verdict
done_room t s e = at (ltb s 16) (ltb (length (waiting_for t s)) 4) refl refl e
  where
    at : (a b : Bool) → ltb s 16 ≡ a → ltb (length (waiting_for t s)) 4 ≡ b → cond a (cond b done (refused 22 none)) (refused 21 none) ≡ done
        → (s < 16) × (length (waiting_for t s) < 4)
    at true true p q v = (ltb-true s 16 p, ltb-true (length (waiting_for t s)) 4 q)
    at true false p q v = let z : ◌≡◌ {A = ℕ} 0 1 = cc in absurd (omega arith)
    at false b p q v = let z : ◌≡◌ {A = ℕ} 0 1 = cc in absurd (omega arith)

turn_found : (t : Table) (s : ℕ) (r : Read) → next t ≡ turn s r → Found t.waiting (round_from t.last) 0 16 s r
unfolding next
turn_found t s r e = found t.waiting (round_from t.last) 0 16 s r e

turn_low : (t : Table) (s : ℕ) (r : Read) → next t ≡ turn s r → s < 16
turn_low t s r e = let h = turn_found t s r e in omega (arith, h.here)

turn_first : (t : Table) (s : ℕ) (r : Read) → next t ≡ turn s r → waiting_for t s ≡ r ∷ drop 1 (waiting_for t s)
turn_first t s r e = let h = turn_found t s r e in h.waits ∙ ap (λ (l : List Read). r ∷ drop 1 l) (sym h.waits)

-- the station d further than the one last served
ahead : (t : Table) (s : ℕ) → t.last < 16 → s < 16 → s ≡ round_from t.last ((s + 15 - t.last) % 16)
ahead t s l h = omega arith

-- ---- one station's reads replaced

at_same : (w : List (List Read)) (x s : ℕ) (l : List Read) → length w ≡ 16 → x < 16 → s ≡ x → get_or (set w x l) s [] ≡ l
at_same w x s l long h e = ap (λ (n : ℕ). get_or (set w x l) n []) e ∙ get_or-set_same w x l [] (omega arith)

few_set : (w : List (List Read)) (x : ℕ) (l : List Read) → length w ≡ 16 → x < 16 → length l ≤ 4 → ((s : ℕ) → length (get_or w s []) ≤ 4)
    → (s : ℕ) → length (get_or (set w x l) s []) ≤ 4
few_set w x l long h m few s = at (eqb s x) refl
  where
    at : (b : Bool) → eqb s x ≡ b → length (get_or (set w x l) s []) ≤ 4
    at true q = let e = ap length (at_same w x s l long h (eqb-true s x q)) in omega (arith, e)
    at false q = let e = ap length (get_or-set_other w x s l [] (eqb-false s x q)) in omega (arith, e, few s)

-- ---- every table stays sound

enter_sound : (t : Table) (s : ℕ) (r : Read) (v : Verdict) → enter_verdict t s ≡ v → Sound t → Sound (unless_refused v (behind t s r) t)
enter_sound t s r done e k =
    let h = done_room t s e in
    record {
      long = length-set t.waiting s (waiting_for t s ++ (r ∷ [])) ∙ k.long;
      few = few_set t.waiting s (waiting_for t s ++ (r ∷ [])) k.long h.0 (omega (arith, length-append (waiting_for t s) (r ∷ []), h.1)) k.few;
      low = k.low;
    }
enter_sound t s r (refused m at) e k = k

serve_sound : (t : Table) (v : Turn) → next t ≡ v → Sound t → Sound (without v t)
serve_sound t nobody e k = k
serve_sound t (turn s r) e k =
    record {
      long = length-set t.waiting s (drop 1 (waiting_for t s)) ∙ k.long;
      few = few_set t.waiting s (drop 1 (waiting_for t s)) k.long (turn_low t s r e) (omega (arith, length-drop 1 (waiting_for t s), k.few s)) k.few;
      low = turn_low t s r e;
    }

sound_after : (t : Table) (c : Call) → Sound t → Sound (after t c)
unfolding entered served
sound_after t (enter s r) k = enter_sound t s r (enter_verdict t s) refl k
sound_after t serve k = serve_sound t (next t) refl k

sound_all : (t : Table) (cs : List Call) → Sound t → Sound (after_all t cs)
unfolding after_all
sound_all t [] k = k
sound_all t (c ∷ cs) k = sound_all (after t c) cs (sound_after t c k)

fresh_empty : (s : ℕ) → waiting_for fresh s ≡ []
unfolding fresh
fresh_empty s = at (ltb s 16) refl
  where
    at : (b : Bool) → ltb s 16 ≡ b → waiting_for fresh s ≡ []
    at true q = get_or-replicate 16 s [] [] (ltb-true s 16 q)
    at false q = get_or-eq_default (replicate 16 []) [] (ltb-false s 16 q)

fresh_sound : Sound fresh
unfolding fresh
fresh_sound = record { long = refl; few = λ s. (let e = ap length (fresh_empty s) in omega (arith, e)); low = omega arith }

-- ---- first come first

-- one call: what waits, and what comes, is what goes, and what waits then
abbrev Kept : ℕ → Table → Event → Table → Type 0
Kept s t e u = waiting_for t s ++ comes s e ≡ goes s e ++ waiting_for u s

kept_enter : (s : ℕ) (t : Table) (x : ℕ) (r : Read) (v : Verdict) → enter_verdict t x ≡ v → Sound t
    → Kept s t (entry_of v x r) (unless_refused v (behind t x r) t)
kept_enter s t x r done e k = at (eqb s x) refl
  where
    at : (b : Bool) → eqb s x ≡ b → waiting_for t s ++ cond b (r ∷ []) [] ≡ get_or (set t.waiting x (waiting_for t x ++ (r ∷ []))) s []
    at true q =
        let i : s ≡ x = eqb-true s x q in
        ap (λ (n : ℕ). waiting_for t n ++ (r ∷ [])) i ∙ sym (at_same t.waiting x s (waiting_for t x ++ (r ∷ [])) k.long (done_room t x e).0 i)
    at false q = append-nil (waiting_for t s) ∙ sym (get_or-set_other t.waiting x s (waiting_for t x ++ (r ∷ [])) [] (eqb-false s x q))
kept_enter s t x r (refused m p) e k = append-nil (waiting_for t s)

kept_serve : (s : ℕ) (t : Table) (v : Turn) → next t ≡ v → Sound t → Kept s t (serving_of v) (without v t)
kept_serve s t nobody e k = append-nil (waiting_for t s)
kept_serve s t (turn x r) e k = append-nil (waiting_for t s) ∙ at (eqb s x) refl
  where
    at : (b : Bool) → eqb s x ≡ b → waiting_for t s ≡ cond b (r ∷ []) [] ++ get_or (set t.waiting x (drop 1 (waiting_for t x))) s []
    at true q =
        let i : s ≡ x = eqb-true s x q in
        ap (waiting_for t) i ∙ turn_first t x r e
        ∙ ap (λ (l : List Read). r ∷ l) (sym (at_same t.waiting x s (drop 1 (waiting_for t x)) k.long (turn_low t x r e) i))
    at false q = sym (get_or-set_other t.waiting x s (drop 1 (waiting_for t x)) [] (eqb-false s x q))

kept_call : (s : ℕ) (t : Table) (c : Call) → Sound t → Kept s t (event t c) (after t c)
unfolding entered served
kept_call s t (enter x r) k = kept_enter s t x r (enter_verdict t x) refl k
kept_call s t serve k = kept_serve s t (next t) refl k

in_order_lem : (s : ℕ) (t : Table) (cs : List Call) → Sound t
    → waiting_for t s ++ came_for s (events t cs) ≡ went_for s (events t cs) ++ waiting_for (after_all t cs) s
unfolding after_all events came_for went_for
in_order_lem s t [] k = append-nil (waiting_for t s)
in_order_lem s t (c ∷ cs) k =
    let u : Table = after t c in
    let e : Event = event t c in
    sym (append_assoc (waiting_for t s) (comes s e) (came_for s (events u cs)))
    ∙ ap (λ (l : List Read). l ++ came_for s (events u cs)) (kept_call s t c k)
    ∙ append_assoc (goes s e) (waiting_for u s) (came_for s (events u cs))
    ∙ ap (λ (l : List Read). goes s e ++ l) (in_order_lem s u cs (sound_after t c k))
    ∙ sym (append_assoc (goes s e) (went_for s (events u cs)) (waiting_for (after_all u cs) s))

-- ---- a waiting station is served soon

or_left : (a b : Bool) → a || b ≡ false → a ≡ false
or_left false b e = refl
or_left true b e = e

or_right : (a b : Bool) → a || b ≡ false → b ≡ false
or_right false b e = e
or_right true b e = let z : ◌≡◌ {A = ℕ} 0 1 = cc in absurd (omega arith)

-- the serving of another station that is nearer
module _ (t : Table) (s d x : ℕ) (r : Read) (here : s ≡ round_from t.last d) (waits : Waits t s) (small : d < 16) (e : next t ≡ turn x r)
    (other : s ≡ x → ⊥) where
  nearer : (b : Bool) → ltb (turn_found t x r e).k d ≡ b → (turn_found t x r e).k < d
  nearer true q = ltb-true (turn_found t x r e).k d q
  nearer false q =
      let h = turn_found t x r e in
      let le : d ≤ h.k = ltb-false h.k d q in
      absurd (at (ltb d h.k) refl)
    where
      at : (b : Bool) → ltb d (turn_found t x r e).k ≡ b → ⊥
      at true p =
          let h = turn_found t x r e in
          let n : waiting_for t s ≡ [] = ap (waiting_for t) (here ∙ ap (round_from t.last) (sym (zero-add d))) ∙ h.before d (ltb-true d h.k p) in
          let z = ap length n in omega (arith, z)
      at false p =
          let h = turn_found t x r e in
          let m : d ≡ h.k = omega (arith, ltb-false d h.k p, ltb-false h.k d q) in
          other (here ∙ ap (round_from t.last) (m ∙ sym (zero-add h.k)) ∙ sym h.here)

  near : (turn_found t x r e).k < d
  near = nearer (ltb (turn_found t x r e).k d) refl

  moves_on : s ≡ round_from x (d - (turn_found t x r e).k - 1)
  moves_on = let h = turn_found t x r e in let n = near in omega (arith, h.here)

  still_waits : Waits (after_turn t x) s
  still_waits = let m = ap length (get_or-set_other t.waiting x s (drop 1 (waiting_for t x)) [] other) in omega (arith, m, waits)

enter_waits : (t : Table) (s x : ℕ) (r : Read) (v : Verdict) → enter_verdict t x ≡ v → Sound t → Waits t s → Waits (unless_refused v (behind t x r) t) s
enter_waits t s x r (refused m p) e k w = w
enter_waits t s x r done e k w = at (eqb s x) refl
  where
    at : (b : Bool) → eqb s x ≡ b → 0 < length (get_or (set t.waiting x (waiting_for t x ++ (r ∷ []))) s [])
    at true q =
        let m = ap length (at_same t.waiting x s (waiting_for t x ++ (r ∷ [])) k.long (done_room t x e).0 (eqb-true s x q)) in
        omega (arith, m, length-append (waiting_for t x) (r ∷ []))
    at false q = let m = ap length (get_or-set_other t.waiting x s (waiting_for t x ++ (r ∷ [])) [] (eqb-false s x q)) in omega (arith, m, w)

entry_last : (t : Table) (x : ℕ) (r : Read) (v : Verdict) → (unless_refused v (behind t x r) t).last ≡ t.last
entry_last t x r done = refl
entry_last t x r (refused m p) = refl

entry_whom : (x : ℕ) (r : Read) (v : Verdict) → whom (entry_of v x r) ≡ []
entry_whom x r done = refl
entry_whom x r (refused m p) = refl

-- among calls that do not serve s, at most as many serve as there are stations before s: the next calls do
abbrev Soon : List Call → ℕ → Type 0
Soon cs s =
    (t : Table) (d : ℕ) → Sound t → Waits t s → s ≡ round_from t.last d → d < 16 → among s (servings (events t cs)) ≡ false
    → length (servings (events t cs)) ≤ d

soon_serve : (cs : List Call) (s : ℕ) → Soon cs s → (t : Table) (d : ℕ) → Sound t → Waits t s → s ≡ round_from t.last d → d < 16 → (v : Turn)
    → next t ≡ v → among s (whom (serving_of v) ++ servings (events (without v t) cs)) ≡ false
    → length (whom (serving_of v) ++ servings (events (without v t) cs)) ≤ d
unfolding among
soon_serve cs s ih t d k w here small nobody e never = ih t d k w here small never
soon_serve cs s ih t d k w here small (turn x r) e never =
    let rest : List ℕ = servings (events (after_turn t x) cs) in
    let other : (s ≡ x → ⊥) = eqb-false s x (or_left (eqb s x) (among s rest) never) in
    let n = near t s d x r here w small e other in
    let m : length rest ≤ d - (turn_found t x r e).k - 1 = ih (after_turn t x) (d - (turn_found t x r e).k - 1) (serve_sound t (turn x r) e k)
    (still_waits t s d x r here w small e other) (moves_on t s d x r here w small e other) (omega arith) (or_right (eqb s x) (among s rest) never)
    in
    omega arith

soon : (cs : List Call) (s : ℕ) → Soon cs s
unfolding events servings entered served
soon [] s t d k w here small never = omega arith
soon (enter x r ∷ cs) s t d k w here small never =
    let v : Verdict = enter_verdict t x in
    let u : Table = unless_refused v (behind t x r) t in
    subst (λ (l : List ℕ). among s (l ++ servings (events u cs)) ≡ false → length (l ++ servings (events u cs)) ≤ d) (sym (entry_whom x r v))
    (soon cs s u d (enter_sound t x r v refl k) (enter_waits t s x r v refl k w) (here ∙ ap (λ (l : ℕ). round_from l d) (sym (entry_last t x r v))) small) never
soon (serve ∷ cs) s t d k w here small never = soon_serve cs s (soon cs s) t d k w here small (next t) refl never

-- ---- all of it

module _ (t : Table) (k : Sound t) where
  no_others : (s : ℕ) → 16 ≤ s → waiting_for t s ≡ []
  no_others s h = get_or-eq_default t.waiting [] (omega (arith, k.long))

  waits_low : (s : ℕ) → Waits t s → s < 16
  waits_low s w = at (ltb s 16) refl
    where
      at : (b : Bool) → ltb s 16 ≡ b → s < 16
      at true q = ltb-true s 16 q
      at false q = let z = ap length (no_others s (ltb-false s 16 q)) in absurd (omega (arith, z, w))

  in_fifteen : (s : ℕ) → Waits t s → (later : List Call) → among s (servings (events t later)) ≡ false → length (servings (events t later)) ≤ 15
  in_fifteen s w later never =
      let b = soon later s t ((s + 15 - t.last) % 16) k w (ahead t s k.low (waits_low s w)) (omega arith) never in omega (arith, b)

  none_waits_lem : next t ≡ nobody → (s : ℕ) → waiting_for t s ≡ []
  unfolding next
  none_waits_lem e s = at (ltb s 16) refl
    where
      at : (b : Bool) → ltb s 16 ≡ b → waiting_for t s ≡ []
      at true q =
          ap (waiting_for t) (ahead t s k.low (ltb-true s 16 q) ∙ ap (round_from t.last) (sym (zero-add ((s + 15 - t.last) % 16))))
          ∙ silent t.waiting (round_from t.last) 0 16 e ((s + 15 - t.last) % 16) (omega arith)
      at false q = no_others s (ltb-false s 16 q)

  none_said_lem : ((s : ℕ) → waiting_for t s ≡ []) → next t ≡ nobody
  unfolding next
  none_said_lem h = all_silent t.waiting (round_from t.last) 0 16 (λ j l. h (round_from t.last (0 + j)))

  first_named : (s : ℕ) (r : Read) → next t ≡ turn s r → waiting_for t s ≡ r ∷ waiting_for (served t) s
  unfolding served
  first_named s r e =
      turn_first t s r e
      ∙ ap (λ (l : List Read). r ∷ l)
      (sym (ap (λ (v : Turn). waiting_for (without v t) s) e ∙ at_same t.waiting s s (drop 1 (waiting_for t s)) k.long (turn_low t s r e) refl))

  others_unmoved : (s x : ℕ) (r : Read) → next t ≡ turn s r → (x ≡ s → ⊥) → waiting_for (served t) x ≡ waiting_for t x
  unfolding served
  others_unmoved s x r e h =
      ap (λ (v : Turn). waiting_for (without v t) x) e ∙ get_or-set_other t.waiting s x (drop 1 (waiting_for t s)) [] h

  refused_keeps_lem : (s : ℕ) (r : Read) (m : ℕ) (at : Spot) → enter_verdict t s ≡ refused m at → entered t s r ≡ t
  unfolding entered
  refused_keeps_lem s r m at e = ap (λ (v : Verdict). unless_refused v (behind t s r) t) e

  none_keeps_lem : next t ≡ nobody → served t ≡ t
  unfolding served
  none_keeps_lem e = ap (λ (v : Turn). without v t) e

pub fair : FairForAll
fair calls =
    let t : Table = after_all fresh calls in
    let k : Sound t = sound_all fresh calls fresh_sound in
    record {
      in_order = λ s. ap (λ (l : List Read). l ++ came_for s (events fresh calls)) (sym (fresh_empty s)) ∙ in_order_lem s fresh calls fresh_sound;
      few = k.few;
      others = no_others t k;
      last_below = k.low;
      soon = in_fifteen t k;
      none_waits = none_waits_lem t k;
      none_said = none_said_lem t k;
      named = first_named t k;
      unmoved = others_unmoved t k;
      twenty_one = verdict_21 t;
      twenty_two = λ s h e. verdict_22 t s h (omega (arith, e));
      let_in = verdict_done t;
      refused_keeps = refused_keeps_lem t k;
      none_keeps = none_keeps_lem t k;
    }

-- ---- as the tables are lent

one_more_lem : (t : Table) (cs : List Call) (c : Call) → after_all t (cs ++ (c ∷ [])) ≡ after (after_all t cs) c
unfolding after_all
one_more_lem t [] c = refl
one_more_lem t (d ∷ cs) c = one_more_lem (after t d) cs c

grown_is : (calls : List Call) (t : List ℕ) → Grown calls t → table_of t ≡ after_all fresh calls
unfolding after_all
grown_is [] t (begun b) = b.table
grown_is calls u (and_entered {calls = cs} {t = t} s r a g e) =
    e.table ∙ ap (λ (x : Table). entered x s r) (grown_is cs t g) ∙ sym (one_more_lem fresh cs (enter s r))
grown_is calls u (and_served {calls = cs} {t = t} g l) = l.table ∙ ap served (grown_is cs t g) ∙ sym (one_more_lem fresh cs serve)

pub fair_as_lent : FairAsLent
fair_as_lent calls t g = subst (Fair calls) (sym (grown_is calls t g)) (fair calls)
