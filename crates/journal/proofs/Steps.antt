-- The test of a range, and the walk step by step. Assumes nothing.
use Prim.Native.Nat.{ℕ, zero, suc, ◌+◌, ◌*◌, ◌^◌, ◌≤◌, ◌<◌, max}
use native.Mathlib.Omega.{arith}
use native.Mathlib.Nat.{zero-add}
use mathlib.Core.Path.{◌≡◌, refl, sym, ap, ap₂, ◌∙◌, subst}
use Rattle.std.proofs.lemmas.List.{ext_get_or}
use mathlib.Core.Bool.{Bool, true, false, ◌&&◌}
use mathlib.Core.List.{List}
use lib.ListN.{length, get_or, set}
use lib.Dec.{leb, ltb}
use borrow.Author.Tests.{eq-eqb, ne_eqb, leb-true, ltb-true}
use Rattle.byte_strings.specs.Lists.{Bytes}
use Rattle.byte_strings.proofs.Lists.{length_run, get_or_run}
use Rattle.byte_strings.proofs.Numbers.{eight_lt}
use Rattle.byte_strings.specs.Lowest.{Lowest, lowest}
use Rattle.byte_strings.proofs.Bools.{both_true}
use Rattle.journal.specs.Form.{length_of}
use Rattle.journal.specs.Places.{old_at, new_at, file_at, start_at, size_at, behind, whole}
use Rattle.journal.specs.Reading.{place_of, whether, numbers_right, reach_of, follows, range_right, stop_at, covered_by, is_full, gap_says, walk, walked, old_lengths}
use Rattle.std.specs.Prelude.{Option, Some, None, MatchOption, Ok, Err}
use Rattle.journal.specs.Reading.{Said}
use Rattle.journal.specs.declared.JournalError.TheVariants.{Range, Gap}
use Rattle.journal.specs.declared.ranges.RangeAt.{RangeAt}
use Rattle.journal.specs.Found.{Reads, IsRangeAt}
use Rattle.journal.proofs.Behind.{behind_least}

pub inside : (kind at size old new a p : ℕ) → numbers_right kind at size old new a p ≡ true → at + size ≤ new
unfolding numbers_right
inside kind at size old new a p e = leb-true _ _ (both_true (leb (at + size) new) _ (both_true (leb a at) _ e).1).0

module _ (file last reach : ℕ) where
  pub reach_same : file ≡ last → reach ≡ reach_of file last reach
  unfolding reach_of
  reach_same e = rw (eq-eqb file last e, reach_of)

  pub reach_other : (file ≡ last → ⊥) → 0 ≡ reach_of file last reach
  unfolding reach_of
  reach_other e = rw (ne_eqb file last e, reach_of)

-- ---- the walk

module _ (j : List ℕ) (m : ℕ) where
  pub walk_start : walked j m ≡ walk j m (suc m) 0 0 (old_lengths j) 184
  unfolding walked
  walk_start = refl

  module _ (k last reach : ℕ) (covered : List ℕ) (q : ℕ) where
    pub walk_end : q ≡ m → walk j m (suc k) last reach covered q ≡ gap_says (lowest (is_full j covered) 0 10) (Ok m)
    unfolding walk
    walk_end e = ap (λ (b : Bool). whether b (gap_says (lowest (is_full j covered) 0 10) (Ok m))
        (whether (range_right j m last reach covered q) (walk j m k (file_at j q) (stop_at j q) (covered_by j covered q) (behind j q)) (Err (Range q)))) (eq-eqb q m e)
        ∙ unfold whether in refl

    step : (q ≡ m → ⊥) → (b : Bool) → range_right j m last reach covered q ≡ b
        → walk j m (suc k) last reach covered q ≡ whether b (walk j m k (file_at j q) (stop_at j q) (covered_by j covered q) (behind j q)) (Err (Range q))
    unfolding walk
    step n b e = ap₂ (λ (x y : Bool). whether x (gap_says (lowest (is_full j covered) 0 10) (Ok m))
        (whether y (walk j m k (file_at j q) (stop_at j q) (covered_by j covered q) (behind j q)) (Err (Range q)))) (ne_eqb q m n) e
        ∙ unfold whether in refl

    pub walk_cut : q < m → whole j m q ≡ false → walk j m (suc k) last reach covered q ≡ Err (Range q)
    walk_cut h e = step (omega arith) false (unfold range_right in ap (λ (b : Bool). b && follows j last reach covered q) e) ∙ unfold whether in refl

    pub walk_off : q < m → whole j m q ≡ true → follows j last reach covered q ≡ false → walk j m (suc k) last reach covered q ≡ Err (Range q)
    walk_off h e d = step (omega arith) false (unfold range_right in ap₂ (λ (a b : Bool). a && b) e d) ∙ unfold whether in refl

    pub walk_on : q < m → whole j m q ≡ true → follows j last reach covered q ≡ true
        → walk j m (suc k) last reach covered q ≡ walk j m k (file_at j q) (stop_at j q) (covered_by j covered q) (behind j q)
    walk_on h e d = step (omega arith) true (unfold range_right in ap₂ (λ (a b : Bool). a && b) e d) ∙ unfold whether in refl

  -- the walk from a place on, over as many ranges as there can be
  abbrev pub Walks : ℕ → ℕ → List ℕ → ℕ → Type 0
  Walks last reach covered q = (k : ℕ) × (m < k + q) × (walked j m ≡ walk j m k last reach covered q)

  pub walks_start : Walks 0 0 (old_lengths j) 184
  walks_start = (suc m, omega arith, walk_start)

  module _ (last reach : ℕ) (covered : List ℕ) (q : ℕ) where
    pub walks_cut : Walks last reach covered q → q < m → whole j m q ≡ false → Err (Range q) ≡ walked j m
    walks_cut (zero, l, e) h w = absurd (omega arith)
    walks_cut (suc k, l, e) h w = sym (e ∙ walk_cut k last reach covered q h w)

    pub walks_off : Walks last reach covered q → q < m → whole j m q ≡ true → follows j last reach covered q ≡ false → Err (Range q) ≡ walked j m
    walks_off (zero, l, e) h w f = absurd (omega arith)
    walks_off (suc k, l, e) h w f = sym (e ∙ walk_off k last reach covered q h w f)

    pub walks_end : Walks last reach covered q → m ≤ q → q ≤ m → gap_says (lowest (is_full j covered) 0 10) (Ok m) ≡ walked j m
    walks_end (zero, l, e) g h = absurd (omega arith)
    walks_end (suc k, l, e) g h = sym (e ∙ walk_end k last reach covered q (omega arith))

    pub walks_on : Walks last reach covered q → q < m → (r : RangeAt) → IsRangeAt j m q r → follows j last reach covered q ≡ true
        → (f s : ℕ) (cs : List ℕ) → f ≡ file_at j q → s ≡ stop_at j q → cs ≡ covered_by j covered q → Walks f s cs r.behind
    walks_on (zero, l, e) h r w t f s cs x y z = absurd (omega arith)
    walks_on (suc k, l, e) h r w t f s cs x y z =
        let b = w.reads.behind in
        (k, (let g = behind_least j q in omega arith), (e ∙ walk_on k last reach covered q h w.is t ∙ rw (x, y, z, b)))

-- what a range that follows has
pub record Follows (j : List ℕ) (last q : ℕ) : Type 0 where
  pub file : file_at j q < 10
  pub above : last ≤ file_at j q
  pub some : 1 ≤ size_at j q
  pub ends : stop_at j q ≤ length_of (new_at j (file_at j q))

module _ (j : List ℕ) (last reach : ℕ) (covered : List ℕ) (q : ℕ) where
  pub follows_has : follows j last reach covered q ≡ true → Follows j last q
  unfolding follows
  follows_has e =
      let x = both_true (ltb (file_at j q) 10) _ e in
      let y = both_true (leb last (file_at j q)) _ x.1 in
      let z = both_true (leb 1 (size_at j q)) _ y.1 in
      record { file = ltb-true _ _ x.0; above = leb-true _ _ y.0; some = leb-true _ _ z.0; ends = inside _ _ _ _ _ _ _ z.1 }

  -- so its end is a number of 64 bits
  pub stop_fits : Bytes j → 184 ≤ length j → follows j last reach covered q ≡ true → (a b : ℕ) → a ≡ start_at j q → b ≡ size_at j q → a + b < 2 ^ 64
  stop_fits h l e a b x y =
      let f = follows_has e in
      let g = f.file in
      let n = eight_lt j (32 + 16 * file_at j q) h (omega arith) in
      let k = f.ends in
      omega arith

-- the lengths before the change, one for each file
pub ten_lengths : (j xs : List ℕ) → length xs ≡ 10 → ((i : ℕ) → i < 10 → get_or xs i 0 ≡ length_of (old_at j i)) → xs ≡ old_lengths j
ten_lengths j xs l h =
    let n = length_run (λ i. length_of (old_at j i)) 0 10 in
    ext_get_or 0 xs (old_lengths j) (l ∙ sym n)
    (λ i g. h i (omega arith) ∙ sym (get_or_run (λ k. length_of (old_at j k)) 0 10 i 0 (omega arith) ∙ ap (λ (k : ℕ). length_of (old_at j k)) (zero-add i)))

pub covered_said : (j covered cs : List ℕ) (q f s : ℕ) → f ≡ file_at j q → s ≡ stop_at j q → cs ≡ set covered f (max (get_or covered f 0) s) → cs ≡ covered_by j covered q
unfolding covered_by
covered_said j covered cs q f s x y z = z ∙ rw (x, y)

-- ---- what the code found

module _ (j : List ℕ) (m q : ℕ) where
  pub none_found : (o : Option RangeAt) → ((r : RangeAt) → o ≡ Some r → ⊥) → MatchOption o (whole j m q ≡ false) (λ r. IsRangeAt j m q r) → whole j m q ≡ false
  none_found None n d = d
  none_found (Some r) n d = absurd (n r refl)

  module _ (r : RangeAt) (w : IsRangeAt j m q r) where
    pub own_place : Reads j r.at r
    own_place = subst (λ (n : ℕ). Reads j n r) (sym w.reads.at) w.reads

    pub stop_said : r.offset + r.size ≡ stop_at j q
    stop_said = ap₂ (λ (x y : ℕ). x + y) w.reads.offset w.reads.size

    pub allowed : (last reach : ℕ) (covered : List ℕ) (b v : Bool) → b ≡ follows j last reach covered r.at → b ≡ v → follows j last reach covered q ≡ v
    allowed last reach covered b v x y = ap (λ (n : ℕ). follows j last reach covered n) (sym w.reads.at) ∙ sym x ∙ y

-- ---- what a search found

pub gap_at : (j covered : List ℕ) (m i : ℕ) (p : Option ℕ) (w : Said) → p ≡ Some i → place_of p ≡ lowest (is_full j covered) 0 10
    → gap_says (lowest (is_full j covered) 0 10) (Ok m) ≡ w → Err (Gap i) ≡ w
unfolding gap_says
gap_at j covered m i p w e d g = ap (λ (x : Lowest). gap_says x (Ok m)) (sym (ap place_of e) ∙ d) ∙ g

pub gap_none : (j covered : List ℕ) (m : ℕ) (p : Option ℕ) (w : Said) → p ≡ None → place_of p ≡ lowest (is_full j covered) 0 10
    → gap_says (lowest (is_full j covered) 0 10) (Ok m) ≡ w → Ok m ≡ w
unfolding gap_says
gap_none j covered m p w e d g = ap (λ (x : Lowest). gap_says x (Ok m)) (sym (ap place_of e) ∙ d) ∙ g
