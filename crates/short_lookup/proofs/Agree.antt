-- Where every filled entry is right as to its length, both ways end alike: the proofs of the agreements. Assumes nothing.
use Prim.Native.Nat.{ℕ, zero, suc, ◌+◌, ◌*◌, ◌^◌, ◌≤◌, ◌<◌}
use mathlib.Core.Path.{◌≡◌, refl, sym, ap, ap₂, ◌∙◌, subst}
use mathlib.Core.List.{List}
use native.Mathlib.Nat.{mul-one}
use native.Mathlib.Decide.{dec_lt}
use native.Mathlib.Omega.{arith}
use Rattle.answer_types.specs.Verdict.{Verdict, done, refused}
use Rattle.byte_strings.specs.Lists.{total}
use Rattle.tree_index.specs.Tree.{index}
use Rattle.tree_index.proofs.Filled.{end_filled}
use Rattle.file_format.specs.Sizes.{most_chunks}
use Rattle.file_format.specs.Stored.{stored_size, stored_start, stored_root_sizes}
use Rattle.checks.specs.Checks.{judged, register_checks}
use Rattle.checks.proofs.Passed.{passed}
use Rattle.lookup.specs.Descent.{Ending, stopped, reached, unknown, chunk_within, byte_within, descent, always}
use Rattle.lookup.specs.Lookup.{place_of, byte_at, found_behind, byte_from, place_in, byte_in}
use Rattle.lookup.specs.Theorems.{Right}
use Rattle.lookup.proofs.Descents.{Steps, Halted, Ends, ends, chunk_order, byte_order, left_first, right_end, left_inside}
use Rattle.lookup.proofs.Answers.{never_unknown}
use Rattle.lookup.proofs.Lookups as quick
use Rattle.lookup.proofs.Calls.{place_by, byte_by}
use Rattle.search.specs.Search.{sought_unless, search_for}
use Rattle.search.proofs.Follows.{search_follows}
use Rattle.short_lookup.specs.ShortLookup.{short_place_in, short_byte_in, short_place_of, short_byte_at, short_search_for}
use Rattle.short_lookup.specs.Theorems.{LeavesFit, LengthsRight, AgreeIn, AgreeInForAll, LookupsAgreeForAll, SearchAgreesForAll}
use Rattle.short_lookup.proofs.Walks.{start_next, start_none, place_nine, place_there, byte_nine, byte_end, byte_there}
use Rattle.short_lookup.proofs.Answers.{fits_right, byte_at_lem, place_at}

module _ (t : List ℕ) (n : ℕ) (few : n ≤ most_chunks) (right : LengthsRight t n) where
  right_at_lem : (d k : ℕ) → (k + 1) * 2 ^ d ≤ n → Right t d k
  unfolding LengthsRight
  right_at_lem d k h = right d k (end_filled n d k h)

  leaves_fit : (m : ℕ) → m ≤ n → LeavesFit t m
  unfolding LeavesFit
  leaves_fit m h k l = right_at_lem 0 k (omega (arith, mul-one (k + 1)))

  -- a block's bytes are those of its leaves
  start_block : (d k : ℕ) → (k + 1) * 2 ^ d ≤ n → stored_start t ((k + 1) * 2 ^ d) ≡ stored_start t (k * 2 ^ d) + stored_size t (index d k)
  start_block zero k h =
      ap (stored_start t) (mul-one (k + 1)) ∙ start_next t k ∙ ap (λ (j : ℕ). stored_start t j + stored_size t (index 0 k)) (sym (mul-one k))
  start_block (suc d) k h =
      let a = start_block d (2 * k) (left_inside d k n h) in
      let b = start_block d (2 * k + 1) (subst (λ (x : ℕ). x ≤ n) (sym (right_end d k)) h) in
      let l : stored_start t (2 * k * 2 ^ d) ≡ stored_start t (k * 2 ^ suc d) = ap (stored_start t) (left_first d k) in
      let m : stored_start t ((2 * k + 1 + 1) * 2 ^ d) ≡ stored_start t ((k + 1) * 2 ^ suc d) = ap (stored_start t) (right_end d k) in
      omega (arith, right_at_lem (suc d) k h)

  starts : Steps t n (λ p s. s ≡ stored_start t p)
  starts d k s h e = ap (λ (x : ℕ). x + stored_size t (index d k)) e ∙ sym (start_block d k h)

  never_stops : {Lo Hi At : ℕ → ℕ → Type 0} {i : ℕ} → Halted t n Lo Hi At i → ⊥
  never_stops l = l.wrong (right_at_lem l.d l.k l.met.inside)

  -- ---- the place lookup

  to_chunk_lem : (c : ℕ) → c < n → descent always (chunk_within c) t n ≡ reached c (stored_start t c)
  to_chunk_lem c h =
      must (descent always (chunk_within c) t n)
      (ends always (chunk_within c) t n (λ p s. p ≤ c) (λ p s. c < p) (λ p s. s ≡ stored_start t p) (chunk_order c) starts (omega arith) (sym (start_none t)) (omega arith) h)
    where
      must : (x : Ending) → Ends always t n (λ p s. p ≤ c) (λ p s. c < p) (λ p s. s ≡ stored_start t p) x → x ≡ reached c (stored_start t c)
      must (stopped i) l = absurd (never_stops l)
      must (unknown i) l = absurd (never_unknown l)
      must (reached k s) l =
          let e : k ≡ c = omega (arith, l.met.low, l.met.high) in
          ap₂ reached e (l.met.at ∙ ap (stored_start t) (mul-one k ∙ e))

  place_agrees : (c : ℕ) → short_place_in always t n c ≡ place_in always t n c
  place_agrees c = elim (dec_lt c n) [
    | yes h ↦ sym (place_at always t c (fits_right t (c + 1) (leaves_fit (c + 1) (omega arith))) ∙ place_there always t n c h)
        ∙ sym (quick.place_at always t n c h (to_chunk_lem c h))
    | no h ↦ sym (place_nine always t n c (omega arith)) ∙ sym (quick.place_above_lem always t n c (omega arith))
  ]

  -- ---- the byte lookup

  record Reached (b : ℕ) : Type 0 where
    k : ℕ
    below : k < n
    from : stored_start t k ≤ b
    to : b < stored_start t k + stored_size t (index 0 k)
    same : descent always (byte_within b) t n ≡ reached k (stored_start t k)

  to_byte_lem : (b : ℕ) → b < total (stored_root_sizes t n) → Reached b
  to_byte_lem b h =
      must (descent always (byte_within b) t n) refl
      (ends always (byte_within b) t n (λ p s. s ≤ b) (λ p s. b < s) (λ p s. s ≡ stored_start t p) (byte_order b) starts (omega arith) (sym (start_none t)) (omega arith) h)
    where
      must : (x : Ending) → descent always (byte_within b) t n ≡ x → Ends always t n (λ p s. s ≤ b) (λ p s. b < s) (λ p s. s ≡ stored_start t p) x → Reached b
      must (stopped i) w l = absurd (never_stops l)
      must (unknown i) w l = absurd (never_unknown l)
      must (reached k s) w l =
          let e : s ≡ stored_start t k = l.met.at ∙ ap (stored_start t) (mul-one k) in
          record {
            k = k;
            below = omega (arith, l.met.inside);
            from = omega (arith, l.met.low);
            to = omega (arith, l.met.high);
            same = w ∙ ap (reached k) e;
          }

  module _ (size : ℕ) (adds : total (stored_root_sizes t n) ≡ size) where
    byte_inside : (b : ℕ) → b < size → short_byte_in always t n size b ≡ byte_in always t n size b
    byte_inside b h =
        let g = to_byte_lem b (omega (arith, adds)) in
        sym
        (byte_at_lem always t n b g.k g.below g.from (fits_right t (g.k + 1) (leaves_fit (g.k + 1) (omega (arith, g.below)))) g.to
        ∙ byte_there always t n size b (omega arith) (λ q. omega arith))
        ∙ sym (quick.byte_below always t n size b h ∙ ap (byte_from b) g.same)

    byte_agrees : (b : ℕ) → short_byte_in always t n size b ≡ byte_in always t n size b
    byte_agrees b = elim (dec_lt b size) [
      | yes h ↦ byte_inside b h
      | no h ↦ elim (dec_lt size b) [
        | yes g ↦ sym (byte_nine always t n size b g) ∙ sym (quick.byte_above always t n size b g)
        | no g ↦ let e : b ≡ size = omega arith in sym (byte_end always t n size b e) ∙ sym (quick.byte_end always t n size b e)
      ]
    ]

pub agree_in : AgreeInForAll
agree_in t n size few adds right = record { place = place_agrees t n few right; byte = byte_agrees t n few right size adds }

-- ---- a register

pub lookups_agree : LookupsAgreeForAll
unfolding short_place_of short_byte_at
lookups_agree r right =
    record { place = λ c. place c (judged (register_checks r) done) refl; byte = λ b. byte b (judged (register_checks r) done) refl }
  where
    agreed : done ≡ judged (register_checks r) done → AgreeIn r.tree r.n r.size
    agreed e = let p = (passed r done (sym e)).0 in agree_in r.tree r.n r.size p.count p.adds right

    place : (c : ℕ) (v : Verdict) → v ≡ judged (register_checks r) done → found_behind v (short_place_in always r.tree r.n c) ≡ place_of r c
    place c done e = (agreed e).place c ∙ place_by r done e c
    place c (refused m at) e = place_by r (refused m at) e c

    byte : (b : ℕ) (v : Verdict) → v ≡ judged (register_checks r) done → found_behind v (short_byte_in always r.tree r.n r.size b) ≡ byte_at r b
    byte b done e = (agreed e).byte b ∙ byte_by r done e b
    byte b (refused m at) e = byte_by r (refused m at) e b

pub search_agrees : SearchAgreesForAll
unfolding short_search_for search_for
search_agrees r w from =
    ap (sought_unless (judged (register_checks r) done)) (sym (search_follows r.bitfield r.n w from))
