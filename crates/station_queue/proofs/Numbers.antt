-- What the numbers of a table say after a read was stored, and after one was dropped. Assumes nothing.
use Prim.Native.Nat.{ℕ, zero, suc, ◌+◌, ◌-◌, ◌*◌, ◌%◌, ◌<◌, ◌≤◌, min}
use mathlib.Core.Path.{◌≡◌, refl, sym, ap, ap₂, ◌∙◌}
use mathlib.Core.Bool.{Bool, true, false, cond}
use mathlib.Core.List.{List, [], ◌∷◌, ◌++◌}
use native.Mathlib.Omega.{arith}
use native.Mathlib.Nat.{zero-add, not-suc-le-zero}
use native.Mathlib.Numerals.{add-one}
use lib.Dec.{ltb, eqb}
use lib.ListN.{length, get_or, set, drop, length-set}
use lib.Seq.{ext_get_or, get_or-set_same, get_or-set_other}
use borrow.Author.Tests.{ltb-true, ltb-false, eqb-true, eqb-false}
use Rattle.byte_strings.specs.Lists.{run}
use Rattle.byte_strings.proofs.Lists.{length_run, get_or_run, run_suc, run_ext, run_from}
use Rattle.station_queue.specs.Table.{Read, Table, waiting_for, behind, after_turn}
use Rattle.station_queue.specs.Words.{count_at, first_at, read_at, waiting_at, last_at, table_of}

-- ---- runs from zero

module _ {A : Type 0} where
  pub get_or_run0 : (f : ℕ → A) (k i : ℕ) (d : A) → i < k → get_or (run f 0 k) i d ≡ f i
  get_or_run0 f k i d h = get_or_run f 0 k i d h ∙ ap f (zero-add i)

  -- one value of a run replaced
  pub run_set : (f g : ℕ → A) (k s : ℕ) → s < k → ((j : ℕ) → j < k → (j ≡ s → ⊥) → f j ≡ g j) → set (run f 0 k) s (g s) ≡ run g 0 k
  run_set f g k s h same =
      ext_get_or (g 0) (set (run f 0 k) s (g s)) (run g 0 k) (length-set (run f 0 k) s (g s) ∙ length_run f 0 k ∙ sym (length_run g 0 k))
      (λ i l. at i (omega (arith, length-set (run f 0 k) s (g s), length_run f 0 k)) (eqb i s) refl)
    where
      at : (i : ℕ) → i < k → (b : Bool) → eqb i s ≡ b → get_or (set (run f 0 k) s (g s)) i (g 0) ≡ get_or (run g 0 k) i (g 0)
      at i l true q =
          let e : i ≡ s = eqb-true i s q in
          ap (λ (n : ℕ). get_or (set (run f 0 k) s (g s)) n (g 0)) e ∙ get_or-set_same (run f 0 k) s (g s) (g 0) (omega (arith, length_run f 0 k)) ∙ ap g (sym e)
          ∙ sym (get_or_run0 g k i (g 0) l)
      at i l false q =
          get_or-set_other (run f 0 k) s i (g s) (g 0) (eqb-false i s q) ∙ get_or_run0 f k i (g 0) l ∙ same i l (eqb-false i s q) ∙ sym (get_or_run0 g k i (g 0) l)

  pub drop_run : (f : ℕ → A) (n : ℕ) → 0 < n → drop 1 (run f 0 n) ≡ run (λ l. f (1 + l)) 0 (n - 1)
  unfolding run
  drop_run f zero h = absurd (not-suc-le-zero h)
  drop_run f (suc m) h = let e : m ≡ suc m - 1 = omega arith in run_from f 1 m ∙ ap (run (λ l. f (1 + l)) 0) e

-- ---- what the numbers say

pub for_station : (t : List ℕ) (s : ℕ) → s < 16 → waiting_for (table_of t) s ≡ waiting_at t s
unfolding table_of
for_station t s h = get_or_run0 (waiting_at t) 16 s [] h

pub length_waiting : (t : List ℕ) (s : ℕ) → length (waiting_at t s) ≡ count_at t s
unfolding waiting_at
length_waiting t s = length_run (λ j. read_at t s ((first_at t s + j) % 4)) 0 (count_at t s)

pub count_is : (t : List ℕ) (s n : ℕ) → get_or t s 0 ≡ n → n ≤ 4 → count_at t s ≡ n
unfolding count_at
count_is t s n e l = at (ltb (get_or t s 0) 4) refl
  where
    at : (b : Bool) → ltb (get_or t s 0) 4 ≡ b → cond b (get_or t s 0) 4 ≡ n
    at true q = e
    at false q = omega (arith, ltb-false (get_or t s 0) 4 q)

pub count_min : (t : List ℕ) (s : ℕ) → min (get_or t s 0) 4 ≡ count_at t s
unfolding count_at
count_min t s = at (ltb (get_or t s 0) 4) refl
  where
    at : (b : Bool) → ltb (get_or t s 0) 4 ≡ b → min (get_or t s 0) 4 ≡ cond b (get_or t s 0) 4
    at true q = omega (arith, ltb-true (get_or t s 0) 4 q)
    at false q = omega (arith, ltb-false (get_or t s 0) 4 q)

pub count_below : (t : List ℕ) (s : ℕ) → count_at t s ≤ 4
unfolding count_at
count_below t s = at (ltb (get_or t s 0) 4) refl
  where
    at : (b : Bool) → ltb (get_or t s 0) 4 ≡ b → cond b (get_or t s 0) 4 ≤ 4
    at true q = omega (arith, ltb-true (get_or t s 0) 4 q)
    at false q = omega arith

pub first_below : (t : List ℕ) (s : ℕ) → first_at t s < 4
unfolding first_at
first_below t s = omega arith

pub last_below_lem : (t : List ℕ) → last_at t < 16
unfolding last_at
last_below_lem t = omega arith

abbrev pub reading : ℕ → ℕ → Read
reading g c = record { register = g; chunk = c }

abbrev pub tabled : List (List Read) → ℕ → Table
tabled w l = record { waiting = w; last = l }

-- the read at the place of the first
pub first_read : (t : List ℕ) (s p : ℕ) → p ≡ first_at t s
    → reading (get_or t (32 + (4 * s + p)) 0) (get_or t (96 + (4 * s + p)) 0) ≡ read_at t s (first_at t s)
unfolding read_at
first_read t s p e = ap (λ (q : ℕ). reading (get_or t (32 + (4 * s + q)) 0) (get_or t (96 + (4 * s + q)) 0)) e

pub read_is : (t : List ℕ) (s p g c : ℕ) → get_or t (32 + (4 * s + p)) 0 ≡ g → get_or t (96 + (4 * s + p)) 0 ≡ c → read_at t s p ≡ reading g c
unfolding read_at
read_is t s p g c a b = ap₂ reading a b

-- a station whose numbers are the same has the same reads
waiting_same : (t u : List ℕ) (s : ℕ) → get_or u s 0 ≡ get_or t s 0 → get_or u (16 + s) 0 ≡ get_or t (16 + s) 0
    → ((p : ℕ) → p < 4 → read_at u s p ≡ read_at t s p) → waiting_at u s ≡ waiting_at t s
unfolding waiting_at count_at first_at
waiting_same t u s a b r =
    ap₂ (λ (x y : ℕ). run (λ j. read_at u s ((x % 4 + j) % 4)) 0 (cond (ltb y 4) y 4)) b a
    ∙ run_ext (λ j. read_at u s ((get_or t (16 + s) 0 % 4 + j) % 4)) (λ j. read_at t s ((get_or t (16 + s) 0 % 4 + j) % 4)) 0 (cond (ltb (get_or t s 0) 4) (get_or t s 0) 4)
    (λ j l m. r ((get_or t (16 + s) 0 % 4 + j) % 4) (omega arith))

-- a table of which one station's reads are changed
changed : (t u : List ℕ) (s l : ℕ) (xs : List Read) → s < 16 → ((x : ℕ) → x < 16 → (x ≡ s → ⊥) → waiting_at u x ≡ waiting_at t x)
    → waiting_at u s ≡ xs → last_at u ≡ l → table_of u ≡ tabled (set (table_of t).waiting s xs) l
unfolding table_of
changed t u s l xs low elsewhere here last =
    ap₂ tabled
    (sym (ap (set (run (waiting_at t) 0 16) s) (sym here) ∙ run_set (waiting_at t) (waiting_at u) 16 s low (λ j b h. sym (elsewhere j b h))))
    last

-- ---- a read stored at place p of station s, and the count

abbrev pub stored : List ℕ → ℕ → ℕ → ℕ → ℕ → ℕ → List ℕ
stored t s p g c v = set (set (set t (32 + (4 * s + p)) g) (96 + (4 * s + p)) c) s v

module _ (t : List ℕ) (s p g c v : ℕ) (long : length t ≡ 161) (low : s < 16) (place : p < 4) where
  stored_other : (i : ℕ) → (i ≡ 32 + (4 * s + p) → ⊥) → (i ≡ 96 + (4 * s + p) → ⊥) → (i ≡ s → ⊥)
      → get_or (stored t s p g c v) i 0 ≡ get_or t i 0
  stored_other i a b d =
      get_or-set_other (set (set t (32 + (4 * s + p)) g) (96 + (4 * s + p)) c) s i v 0 d ∙ get_or-set_other (set t (32 + (4 * s + p)) g) (96 + (4 * s + p)) i c 0 b
      ∙ get_or-set_other t (32 + (4 * s + p)) i g 0 a

  stored_count : get_or (stored t s p g c v) s 0 ≡ v
  stored_count = get_or-set_same (set (set t (32 + (4 * s + p)) g) (96 + (4 * s + p)) c) s v 0 (simp length-set (omega arith))

  stored_read : read_at (stored t s p g c v) s p ≡ reading g c
  stored_read =
      read_is (stored t s p g c v) s p g c
      (get_or-set_other (set (set t (32 + (4 * s + p)) g) (96 + (4 * s + p)) c) s (32 + (4 * s + p)) v 0 (λ e. omega arith)
      ∙ get_or-set_other (set t (32 + (4 * s + p)) g) (96 + (4 * s + p)) (32 + (4 * s + p)) c 0 (λ e. omega arith)
      ∙ get_or-set_same t (32 + (4 * s + p)) g 0 (omega arith))
      (get_or-set_other (set (set t (32 + (4 * s + p)) g) (96 + (4 * s + p)) c) s (96 + (4 * s + p)) v 0 (λ e. omega arith)
      ∙ get_or-set_same (set t (32 + (4 * s + p)) g) (96 + (4 * s + p)) c 0 (simp length-set (omega arith)))

  stored_first : first_at (stored t s p g c v) s ≡ first_at t s
  unfolding first_at
  stored_first = ap (λ (n : ℕ). n % 4) (stored_other (16 + s) (λ e. omega arith) (λ e. omega arith) (λ e. omega arith))

  stored_last : last_at (stored t s p g c v) ≡ last_at t
  unfolding last_at
  stored_last = ap (λ (n : ℕ). n % 16) (stored_other 160 (λ e. omega arith) (λ e. omega arith) (λ e. omega arith))

  stored_elsewhere : (x : ℕ) → x < 16 → (x ≡ s → ⊥) → waiting_at (stored t s p g c v) x ≡ waiting_at t x
  unfolding read_at
  stored_elsewhere x l h =
      waiting_same t (stored t s p g c v) x (stored_other x (λ e. omega arith) (λ e. omega arith) h)
      (stored_other (16 + x) (λ e. omega arith) (λ e. omega arith) (λ e. omega arith))
      (λ q m. ap₂ reading (stored_other (32 + (4 * x + q)) (λ e. h (omega arith)) (λ e. omega arith) (λ e. omega arith))
      (stored_other (96 + (4 * x + q)) (λ e. omega arith) (λ e. h (omega arith)) (λ e. omega arith)))

  stored_beside : (q : ℕ) → q < 4 → (q ≡ p → ⊥) → read_at (stored t s p g c v) s q ≡ read_at t s q
  unfolding read_at
  stored_beside q l h =
      ap₂ reading (stored_other (32 + (4 * s + q)) (λ e. h (omega arith)) (λ e. omega arith) (λ e. omega arith))
      (stored_other (96 + (4 * s + q)) (λ e. omega arith) (λ e. h (omega arith)) (λ e. omega arith))

-- the count is one more, and the place is the one behind the reads that wait
module _ (t : List ℕ) (s g c : ℕ) (long : length t ≡ 161) (low : s < 16) (room : count_at t s < 4) where
  pub stored_here : (p : ℕ) → p ≡ (first_at t s + count_at t s) % 4
      → waiting_at (stored t s p g c (count_at t s + 1)) s ≡ waiting_at t s ++ (reading g c ∷ [])
  unfolding waiting_at
  stored_here p e =
      let place : p < 4 = omega arith in
      let u : List ℕ = stored t s p g c (count_at t s + 1) in
      ap₂ (λ (q k : ℕ). run (λ j. read_at u s ((q + j) % 4)) 0 k) (stored_first t s p g c (count_at t s + 1) long low place)
      (count_is u s (count_at t s + 1) (stored_count t s p g c (count_at t s + 1) long low place) (omega arith) ∙ add-one (count_at t s))
      ∙ run_suc (λ j. read_at u s ((first_at t s + j) % 4)) 0 (count_at t s)
      ∙ ap₂ (λ (xs : List Read) (r : Read). xs ++ (r ∷ []))
      (run_ext (λ j. read_at u s ((first_at t s + j) % 4)) (λ j. read_at t s ((first_at t s + j) % 4)) 0 (count_at t s)
      (λ j l m. stored_beside t s p g c (count_at t s + 1) long low place ((first_at t s + j) % 4) (omega arith) (λ q. omega arith)))
      (ap (λ (q : ℕ). read_at u s q) (ap (λ (k : ℕ). (first_at t s + k) % 4) (zero-add (count_at t s)) ∙ sym e)
      ∙ stored_read t s p g c (count_at t s + 1) long low place)

  pub stored_table : (p : ℕ) → p ≡ (first_at t s + count_at t s) % 4
      → table_of (stored t s p g c (count_at t s + 1)) ≡ behind (table_of t) s (reading g c)
  unfolding table_of
  stored_table p e =
      let place : p < 4 = omega arith in
      changed t (stored t s p g c (count_at t s + 1)) s (last_at t) (waiting_at t s ++ (reading g c ∷ [])) low
      (stored_elsewhere t s p g c (count_at t s + 1) long low place) (stored_here p e) (stored_last t s p g c (count_at t s + 1) long low place)
      ∙ ends
    where
      ends : tabled (set (table_of t).waiting s (waiting_at t s ++ (reading g c ∷ []))) (last_at t) ≡ behind (table_of t) s (reading g c)
      ends = ap (λ (xs : List Read). tabled (set (run (waiting_at t) 0 16) s (xs ++ (reading g c ∷ []))) (last_at t)) (sym (for_station t s low))

-- ---- the first read of station s dropped

abbrev pub dropped : List ℕ → ℕ → ℕ → ℕ → List ℕ
dropped t s p v = set (set (set t (16 + s) p) s v) 160 s

module _ (t : List ℕ) (s p v : ℕ) (long : length t ≡ 161) (low : s < 16) where
  dropped_other : (i : ℕ) → (i ≡ 16 + s → ⊥) → (i ≡ s → ⊥) → (i ≡ 160 → ⊥) → get_or (dropped t s p v) i 0 ≡ get_or t i 0
  dropped_other i a b d =
      get_or-set_other (set (set t (16 + s) p) s v) 160 i s 0 d ∙ get_or-set_other (set t (16 + s) p) s i v 0 b ∙ get_or-set_other t (16 + s) i p 0 a

  dropped_count : get_or (dropped t s p v) s 0 ≡ v
  dropped_count =
      get_or-set_other (set (set t (16 + s) p) s v) 160 s s 0 (λ e. omega arith) ∙ get_or-set_same (set t (16 + s) p) s v 0 (simp length-set (omega arith))

  dropped_place : get_or (dropped t s p v) (16 + s) 0 ≡ p
  dropped_place =
      get_or-set_other (set (set t (16 + s) p) s v) 160 (16 + s) s 0 (λ e. omega arith) ∙ get_or-set_other (set t (16 + s) p) s (16 + s) v 0 (λ e. omega arith)
      ∙ get_or-set_same t (16 + s) p 0 (omega arith)

  dropped_last : last_at (dropped t s p v) ≡ s
  unfolding last_at
  dropped_last =
      let e : s % 16 ≡ s = omega arith in
      ap (λ (n : ℕ). n % 16) (get_or-set_same (set (set t (16 + s) p) s v) 160 s 0 (simp length-set (omega arith))) ∙ e

  dropped_read : (x q : ℕ) → x < 16 → q < 4 → read_at (dropped t s p v) x q ≡ read_at t x q
  unfolding read_at
  dropped_read x q l m =
      ap₂ reading (dropped_other (32 + (4 * x + q)) (λ e. omega arith) (λ e. omega arith) (λ e. omega arith))
      (dropped_other (96 + (4 * x + q)) (λ e. omega arith) (λ e. omega arith) (λ e. omega arith))

  dropped_elsewhere : (x : ℕ) → x < 16 → (x ≡ s → ⊥) → waiting_at (dropped t s p v) x ≡ waiting_at t x
  dropped_elsewhere x l h =
      waiting_same t (dropped t s p v) x (dropped_other x (λ e. omega arith) h (λ e. omega arith))
      (dropped_other (16 + x) (λ e. h (omega arith)) (λ e. omega arith) (λ e. omega arith)) (λ q m. dropped_read x q l m)

module _ (t : List ℕ) (s p v : ℕ) (long : length t ≡ 161) (low : s < 16) (some : 0 < count_at t s) (place : p ≡ (first_at t s + 1) % 4)
    (left : v ≡ count_at t s - 1) where
  dropped_here : waiting_at (dropped t s p v) s ≡ drop 1 (waiting_at t s)
  unfolding waiting_at first_at
  dropped_here =
      let u : List ℕ = dropped t s p v in
      ap₂ (λ (q k : ℕ). run (λ j. read_at u s ((q % 4 + j) % 4)) 0 k) (dropped_place t s p v long low)
      (count_is u s v (dropped_count t s p v long low) (omega (arith, count_below t s)) ∙ left)
      ∙ run_ext (λ j. read_at u s ((p % 4 + j) % 4)) (λ j. read_at t s ((first_at t s + (1 + j)) % 4)) 0 (count_at t s - 1)
      (λ j l m. ap (λ (q : ℕ). read_at u s q) (moved j) ∙ dropped_read t s p v long low s ((first_at t s + (1 + j)) % 4) low (omega arith))
      ∙ sym (drop_run (λ j. read_at t s ((first_at t s + j) % 4)) (count_at t s) some)
    where
      moved : (j : ℕ) → (p % 4 + j) % 4 ≡ (first_at t s + (1 + j)) % 4
      moved j = omega arith

  pub dropped_table : table_of (dropped t s p v) ≡ after_turn (table_of t) s
  dropped_table =
      changed t (dropped t s p v) s s (drop 1 (waiting_at t s)) low (dropped_elsewhere t s p v long low) dropped_here (dropped_last t s p v long low)
      ∙ ap (λ (xs : List Read). tabled (set (table_of t).waiting s (drop 1 xs)) s) (sym (for_station t s low))
