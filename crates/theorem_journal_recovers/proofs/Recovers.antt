-- The claim, proved: both sides are the same at every place. Assumes nothing.
use Prim.Native.Nat.{ℕ, ◌+◌, ◌-◌, ◌≤◌, ◌<◌}
use native.Mathlib.Omega.{arith}
use native.Mathlib.Decide.{dec_le}
use mathlib.Core.Path.{◌≡◌, refl, sym, ap, ◌∙◌, subst}
use mathlib.Core.Logic.{◌⊎◌, inl, inr, ⊎_elim}
use mathlib.Core.List.{List}
use lib.ListN.{length, get_or, length-replicate}
use lib.Seq.{ext_get_or}
use Rattle.byte_strings.specs.Lists.{part}
use Rattle.byte_strings.proofs.Lists.{get_d_part, length_part}
use Rattle.journal.specs.Ranges.{Range, replaced, fresh, blank, witness, start, bytes, Change, write_all, grown, applied}
use Rattle.journal.specs.Form.{Holds, Free, In, FreeAt, Sound}
use Rattle.theorem_journal_recovers.specs.Recovers.{Written, Outside}
use Rattle.theorem_journal_recovers.specs.Recovers.{Old, Before, Mixed, Between, SameOutside, Writes, Left, Torn, Recovers, RecoversForAll, MadeFrom, Made, MakesAfter, MakesAfterForAll}
use Rattle.theorem_journal_recovers.proofs.Places.{here, AllWithin, AllSay, all_length, all_keep, all_make, all_either, rising_within, rising_one, found, grown_length, grown_at}

-- a part says each of its bytes
pub said : (f : List ℕ) (at : ℕ) (w : List ℕ) (i : ℕ) → part f at (length w) ≡ w → i < length w → get_or f (at + i) 0 ≡ get_or w i 0
said f at w i e h = sym (get_d_part f at (length w) i 0 h) ∙ ap (λ (r : List ℕ). get_or r i 0) e

module _ (c : Change) (sound : Sound c) where
  within : AllWithin c.new c.ranges
  within = rising_within 0 c.ranges c.new sound.rising

  one : (i : ℕ) (r q : Range) → In r c.ranges → In q c.ranges → Holds r i → Holds q i → r ≡ q
  one i = rising_one 0 c.ranges c.new i sound.rising

  -- a place outside lies below the old length
  below : (i : ℕ) → i < c.new → Outside c i → Dec (c.old ≤ i) → i < c.old
  below i h o (yes g) = let x = sound.covered i g h in absurd (o x.0 x.1 x.3)
  below i h o (no g) = omega arith

  -- the range r has the one say at each of its places
  says : (ws : List Range) → ((r : Range) → In r ws → In r c.ranges) → (r : Range) → In r c.ranges → (i : ℕ) → Holds r i → AllSay i (here r i) ws
  says ws sub r m i h q k j = ap (λ (x : Range). here x i) (one i q r (sub q k) m j h)

  module _ (f : List ℕ) (high : length f ≤ c.new) (ws : List Range) (only : (r : Range) → In r ws → In r c.ranges) where
    inside : AllWithin c.new ws
    inside r m = within r (only r m)

    long : length (write_all ws (grown c.new f)) ≡ c.new
    long = all_length c.new ws (grown c.new f) inside (grown_length c.new f high)

    -- a place that no range holds
    untouched : (i : ℕ) → i < length f → Outside c i → get_or (write_all ws (grown c.new f)) i 0 ≡ get_or f i 0
    untouched i h o =
        all_keep c.new i (get_or f i 0) ws (grown c.new f) inside (grown_length c.new f high) (λ r m k. absurd (o r (only r m) k))
        (grown_at c.new f i h)

    -- a place that a range holds whose bytes are there already
    kept : (i : ℕ) → i < length f → (r : Range) → In r c.ranges → Holds r i → get_or f i 0 ≡ here r i
        → get_or (write_all ws (grown c.new f)) i 0 ≡ here r i
    kept i h r m k e =
        all_keep c.new i (here r i) ws (grown c.new f) inside (grown_length c.new f high) (says ws only r m i k)
        (grown_at c.new f i h ∙ e)

    -- a place that a written range holds
    made : (i : ℕ) (r : Range) → In r c.ranges → Holds r i → In r ws → Written r → get_or (write_all ws (grown c.new f)) i 0 ≡ here r i
    made i r m k j w =
        all_make c.new i (here r i) ws (grown c.new f) inside (grown_length c.new f high) (says ws only r m i k) r j w k

  -- the bytes of a witness
  abbrev Witnessed : List ℕ → Type 0
  Witnessed f = (at : ℕ) (w : List ℕ) → In (witness at w) c.ranges → part f at (length w) ≡ w

  -- every place that a range holds
  held : (f : List ℕ) → c.old ≤ length f → length f ≤ c.new → Witnessed f → (ws : List Range) → Writes c ws
      → (i : ℕ) (r : Range) → In r c.ranges → Holds r i → get_or (write_all ws (grown c.new f)) i 0 ≡ here r i
  held f low high wit ws a i (replaced at o n) m k = made f high ws a.only i (replaced at o n) m k (a.each (replaced at o n) m tt) tt
  held f low high wit ws a i (fresh at n) m k = made f high ws a.only i (fresh at n) m k (a.each (fresh at n) m tt) tt
  held f low high wit ws a i (blank at l) m k = made f high ws a.only i (blank at l) m k (a.each (blank at l) m tt) tt
  held f low high wit ws a i (witness at w) m k =
      let e : at + (i - at) ≡ i = omega arith in
      kept f high ws a.only i (let h = sound.fits (witness at w) m in omega arith) (witness at w) m k
      (ap (λ (j : ℕ). get_or f j 0) (sym e) ∙ said f at w (i - at) (wit at w m) (omega arith))

  all_of : Writes c c.ranges
  all_of = record { only = λ r m. m; each = λ r m w. m }

  module _ (b : List ℕ) (before : Before c b) where
    short : length b ≤ c.new
    short = let h = sound.grows in let l = before.long in omega arith

    wit_before : Witnessed b
    wit_before at w m = before.olds (witness at w) m

    after_long : length (applied c b) ≡ c.new
    unfolding applied
    after_long = long b short c.ranges (λ r m. m)

    after_held : (i : ℕ) (r : Range) → In r c.ranges → Holds r i → get_or (applied c b) i 0 ≡ here r i
    unfolding applied
    after_held i r m k = held b (let l = before.long in omega arith) short wit_before c.ranges all_of i r m k

    after_outside : (i : ℕ) → i < c.old → Outside c i → get_or (applied c b) i 0 ≡ get_or b i 0
    unfolding applied
    after_outside i h o = untouched b short c.ranges (λ r m. m) i (let l = before.long in omega arith) o

    any_order_lem : (f : List ℕ) → Between c f → SameOutside c b f → (ws : List Range) → Writes c ws → write_all ws (grown c.new f) ≡ applied c b
    any_order_lem f t same ws a =
        ext_get_or 0 (write_all ws (grown c.new f)) (applied c b) (l ∙ sym after_long)
        (λ i h. at_place i (subst (λ (n : ℕ). i < n) l h) (found c.ranges i))
      where
        l : length (write_all ws (grown c.new f)) ≡ c.new
        l = long f t.high ws a.only

        wit : Witnessed f
        wit at w m = t.mixed (witness at w) m

        at_place : (i : ℕ) → i < c.new → ((r : Range) × In r c.ranges × Holds r i) ⊎ Outside c i
            → get_or (write_all ws (grown c.new f)) i 0 ≡ get_or (applied c b) i 0
        at_place i h (inl x) =
            held f t.low t.high wit ws a i x.0 x.1 x.2 ∙ sym (after_held i x.0 x.1 x.2)
        at_place i h (inr o) =
            let g : i < c.old = below i h o (dec_le c.old i) in
            untouched f t.high ws a.only i (let y = t.low in omega arith) o ∙ same i g o ∙ sym (after_outside i g o)

    recovers : (f : List ℕ) → Between c f → SameOutside c b f → applied c f ≡ applied c b
    unfolding applied
    recovers f t same = any_order_lem f t same c.ranges all_of

    -- ---- what a stop can leave

    left_before : Left c b b
    left_before = record { low = let l = before.long in omega arith; high = short; each = λ i h. inl refl }

    left_after : Left c b (applied c b)
    left_after =
        record {
          low = let l = after_long in let g = sound.grows in omega arith;
          high = let l = after_long in omega arith;
          each = λ i h. inr (inl refl);
        }

    left_torn : (f g : List ℕ) → Left c b f → Torn c b f g → Left c b g
    left_torn f g p t =
        record {
          low = t.low;
          high = t.high;
          each = λ i h.
              ⊎_elim (λ e. ⊎_elim (λ d. inl (e ∙ d)) (λ d. ⊎_elim (λ a. inr (inl (e ∙ a))) (λ a. inr (inr a)) d) (p.each i h)) (λ d. inr d) (t.each i h);
        }

    -- a place in a range that is not free
    left_held : (f : List ℕ) → Left c b f → (i : ℕ) → i < c.old → (r : Range) → In r c.ranges → Holds r i → (Free r → ⊥)
        → (get_or f i 0 ≡ get_or b i 0) ⊎ (get_or f i 0 ≡ here r i)
    left_held f p i h r m k no-free =
        ⊎_elim (λ e. inl e)
        (λ d.
        ⊎_elim (λ e. inr (e ∙ after_held i r m k))
        (λ x. absurd (no-free (subst (λ (q : Range). Free q) (one i x.0 r x.1 m x.3 k) x.2))) d)
        (p.each i h)

    left_mixed : (f : List ℕ) → Left c b f → (r : Range) → In r c.ranges → Mixed f r
    left_mixed f p (replaced at o n) m = λ i h.
        let x = sound.fits (replaced at o n) m in
        let d : at + i - at ≡ i = omega arith in
        ⊎_elim (λ e. inl (e ∙ said b at o i (before.olds (replaced at o n) m) (omega arith)))
        (λ e. inr (e ∙ ap (λ (j : ℕ). get_or n j 0) d))
        (left_held f p (at + i) (omega arith) (replaced at o n) m (omega arith) (λ y. y))
    left_mixed f p (fresh at n) m = tt
    left_mixed f p (blank at k) m = tt
    left_mixed f p (witness at w) m =
        let x : at + length w ≤ c.old = sound.fits (witness at w) m in
        let y : c.old ≤ length f = p.low in
        let l : length (part f at (length w)) ≡ length w = length_part f at (length w) (omega arith) in
        ext_get_or 0 (part f at (length w)) w l
        (λ i h.
        let j : i < length w = subst (λ (k : ℕ). i < k) l h in
        let d : at + i - at ≡ i = omega arith in
        get_d_part f at (length w) i 0 j
        ∙ ⊎_elim (λ e. e ∙ said b at w i (before.olds (witness at w) m) j)
        (λ e. e ∙ ap (λ (k : ℕ). get_or w k 0) d)
        (left_held f p (at + i) (omega arith) (witness at w) m (omega arith) (λ z. z)))

    left_between : (f : List ℕ) → Left c b f → Between c f
    left_between f p = record { low = p.low; high = p.high; mixed = left_mixed f p }

    left_outside : (f : List ℕ) → Left c b f → SameOutside c b f
    left_outside f p i h o =
        ⊎_elim (λ e. e) (λ d. ⊎_elim (λ e. e ∙ after_outside i h o) (λ x. absurd (o x.0 x.1 x.3)) d) (p.each i h)

    stopped : (f : List ℕ) → Left c b f → (ws : List Range) → ((r : Range) → In r ws → In r c.ranges) → Left c b (write_all ws (grown c.new f))
    stopped f p ws only = record { low = omega (arith, l, sound.grows); high = omega (arith, l); each = λ i h. at_place i h (found c.ranges i) }
      where
        l : length (write_all ws (grown c.new f)) ≡ c.new
        l = long f p.high ws only

        -- as f has it
        same : (i v : ℕ) → i < c.old → v ≡ get_or f i 0 → (v ≡ get_or b i 0) ⊎ ((v ≡ get_or (applied c b) i 0) ⊎ FreeAt c i)
        same i v h e = ⊎_elim (λ d. inl (e ∙ d)) (λ d. ⊎_elim (λ a. inr (inl (e ∙ a))) (λ a. inr (inr a)) d) (p.each i h)

        at_place : (i : ℕ) → i < c.old → ((r : Range) × In r c.ranges × Holds r i) ⊎ Outside c i
            → (get_or (write_all ws (grown c.new f)) i 0 ≡ get_or b i 0) ⊎ ((get_or (write_all ws (grown c.new f)) i 0 ≡ get_or (applied c b) i 0) ⊎ FreeAt c i)
        at_place i h (inl x) =
            ⊎_elim (λ e. same i (get_or (write_all ws (grown c.new f)) i 0) h (e ∙ grown_at c.new f i (omega (arith, p.low))))
            (λ e. inr (inl (e ∙ sym (after_held i x.0 x.1 x.2))))
            (all_either c.new i (here x.0 i) ws (grown c.new f) (λ r m. within r (only r m)) (grown_length c.new f p.high) (says ws only x.0 x.1 i x.2))
        at_place i h (inr o) =
            same i (get_or (write_all ws (grown c.new f)) i 0) h (untouched f p.high ws only i (omega (arith, p.low)) o)

    all_recovers : Recovers c b
    all_recovers =
        record {
          recovers = recovers;
          any_order = any_order_lem;
          long = after_long;
          before = left_before;
          after = left_after;
          torn = left_torn;
          between = left_between;
          outside = left_outside;
          stopped = stopped;
          heals = λ f p. any_order_lem f (left_between f p) (left_outside f p);
        }

  made_before : (b a : List ℕ) → Made c b a → Before c b
  made_before b a m = record { long = m.old; olds = λ r k. each r (m.each r k) }
    where
      each : (r : Range) → MadeFrom b a r → Old b r
      each (replaced at o n) x = x.0
      each (fresh at n) x = tt
      each (blank at k) x = tt
      each (witness at w) x = x.0

  -- the file after has a range's bytes at each of its places
  made_here : (b a : List ℕ) (r : Range) → MadeFrom b a r → (i : ℕ) → Holds r i → get_or a i 0 ≡ here r i
  made_here b a r x i h = ap (λ (j : ℕ). get_or a j 0) e ∙ said a (start r) (bytes r) (i - start r) (there r x) (omega arith)
    where
      e : i ≡ start r + (i - start r)
      e = omega arith

      there : (q : Range) → MadeFrom b a q → part a (start q) (length (bytes q)) ≡ bytes q
      there (replaced at o n) y = y.1
      there (fresh at n) y = y
      there (blank at k) y = ap (part a at) (length-replicate {A = ℕ} k 0) ∙ y
      there (witness at w) y = y.1

  made_after : (b a : List ℕ) → Made c b a → MakesAfter c b a
  made_after b a m = record { before = q; after = ext_get_or 0 (applied c b) a (after_long b q ∙ sym m.new) (λ i h. at_place i h (found c.ranges i)) }
    where
      q : Before c b
      q = made_before b a m

      at_place : (i : ℕ) → i < length (applied c b) → ((r : Range) × In r c.ranges × Holds r i) ⊎ Outside c i → get_or (applied c b) i 0 ≡ get_or a i 0
      at_place i h (inl x) = after_held b q i x.0 x.1 x.2 ∙ sym (made_here b a x.0 (m.each x.0 x.1) i x.2)
      at_place i h (inr o) =
          let g : i < c.old = below i (omega (arith, after_long b q)) o (dec_le c.old i) in
          after_outside b q i g o ∙ sym (m.same i g o)

pub journal_recovers : RecoversForAll
journal_recovers = all_recovers

pub journal_makes : MakesAfterForAll
journal_makes = made_after
