-- The walk over two registers as the code makes it, and what their checks give it.
-- Assumes nothing.
use Rattle.std.specs.Prelude.{Result, Ok, Err, ⊤}
use Rattle.std.proofs.Common.{◌≡◌, ℕ, ◌+◌, ◌-◌, ◌<◌, ◌≤◌, Bool, true, false, cond, not, List, sym, refl, ap, ◌∙◌, subst, arith}
use Rattle.answer_types.specs.Verdict.{Verdict, done}
use Rattle.answer_types.specs.Meaning.{said, spot_of}
use Rattle.answer_types.specs.declared.Refusal.{Refusal}
use Rattle.byte_strings.specs.Lists.{same_list}
use Rattle.byte_strings.proofs.Lists.{same_eq}
use Rattle.tree_index.specs.Tree.{entries}
use Rattle.file_format.specs.Stored.{stored_start, stored_root_message}
use Rattle.file_format.specs.Belongs.{Register}
use Rattle.file_format.specs.Inner.{RootsIn}
use Rattle.audit.specs.Audit.{lowest, Accepted}
use Rattle.checks.specs.Capped.{capped}
use Rattle.audit.specs.TreeWalk.{leaves_before}
use Rattle.audit.proofs.Audited.{accepted_audited}
use Rattle.audit.proofs.Search.{lowest_on, lowest_off, lowest_end}
use Rattle.compare.specs.Walk.{Comparison, first_refused, second_refused, roots_differ, at_roots, at_index, equal}
use Rattle.compare.specs.Walk.{found, stored_side, at_top, unless_told, walk, unless_refused, whole_verdict, compare}
use Rattle.compare.specs.Inner.{ReadAt, collides_at}
use Rattle.compare.proofs.RootMessages.{same_count}
use Rattle.compare.proofs.Whole.{whole_accepted}

-- ---- an accepted register can be read

pub rooted : (F : List ℕ → List ℕ) (r : Register) → Accepted F r → RootsIn r.tree r.n
rooted F r e = let a = accepted_audited F r e in record { count = a.checked.count; inside = a.checked.tree }

-- ---- the walk over the entries from `from` on and before `end`

module _ (t d u e : List ℕ) (n : ℕ) where
  -- no collision at an index
  abbrev pub free : ℕ → Bool
  free i = not (collides_at t d u e n i)

  -- at the entry i: what is left from there decides
  pub record Meeting (from end i start begin : ℕ) : Type 0 where
    pub here : start ≡ capped (stored_start t (leaves_before i))
    pub there : begin ≡ capped (stored_start u (leaves_before i))
    pub rest : lowest free from (end - from) ≡ lowest free i (end - i)

  pub meeting_none : (from end : ℕ) → end ≤ from → equal ≡ found (lowest free from (end - from))
  meeting_none from end h = ap found (sym (lowest_end free from end h))

module _ {t d u e : List ℕ} {n from end : ℕ} where
  pub meeting_start : {start begin : ℕ} → start ≡ capped (stored_start t (leaves_before from)) → begin ≡ capped (stored_start u (leaves_before from))
      → Meeting t d u e n from end from start begin
  meeting_start a b = record { here = a; there = b; rest = refl }

  module _ {i start begin : ℕ} (w : Meeting t d u e n from end i start begin) where
    abbrev passes : ℕ → Bool
    passes = free t d u e n

    module _ (h : i < end) where
      pub meeting_first : RootsIn t n → end ≤ entries n → ReadAt t n i start
      meeting_first p k = record { room = p; entry = omega arith; here = w.here }

      pub meeting_second : RootsIn u n → end ≤ entries n → ReadAt u n i begin
      meeting_second p k = record { room = p; entry = omega arith; here = w.there }

      pub meeting_next : {next after : ℕ} {r : Bool} → r ≡ collides_at t d u e n i → r ≡ false → next ≡ capped (stored_start t (leaves_before (i + 1)))
          → after ≡ capped (stored_start u (leaves_before (i + 1))) → Meeting t d u e n from end (i + 1) next after
      meeting_next c f a b = record { here = a; there = b; rest = w.rest ∙ lowest_on passes i end h (ap not (sym c ∙ f)) }

      pub meeting_found : {r : Bool} → r ≡ collides_at t d u e n i → r ≡ true → at_index i ≡ found (lowest passes from (end - from))
      meeting_found c f = ap found (sym (w.rest ∙ lowest_off passes i end h (ap not (sym c ∙ f))))

    pub meeting_done : end ≤ i → equal ≡ found (lowest passes from (end - from))
    meeting_done h = ap found (sym (w.rest ∙ lowest_end passes i end h))

-- ---- the walk

-- the roots by the outcome of their two tests, and what comes next
top_next : (h r : Bool) (next : Comparison) → cond h (cond r next at_roots) roots_differ ≡ unless_told (cond h (cond r equal at_roots) roots_differ) next
top_next true true next = refl
top_next true false next = refl
top_next false r next = refl

-- they say "equal" only of one message
top_same : (h r : Bool) → equal ≡ cond h (cond r equal at_roots) roots_differ → r ≡ true
top_same true true e = refl
top_same true false e = let z : ◌≡◌ {A = ℕ} 0 1 = cc in absurd (omega arith)
top_same false r e = let z : ◌≡◌ {A = ℕ} 0 1 = cc in absurd (omega arith)

module _ (F : List ℕ → List ℕ) (t u : List ℕ) (n m : ℕ) where
  abbrev pub top : Comparison → Comparison
  top = at_top F (stored_root_message t n) (stored_root_message u m)

  module _ {x y : List ℕ} {h : Bool} (p : x ≡ F (stored_root_message t n)) (q : y ≡ F (stored_root_message u m)) (s : h ≡ same_list x y) where
    hashes : same_list (F (stored_root_message t n)) (F (stored_root_message u m)) ≡ h
    hashes = (λ j. same_list (sym p j) (sym q j)) ∙ sym s

    pub top_differ : h ≡ false → roots_differ ≡ top equal
    top_differ f = sym (ap (λ (b : Bool). cond b (cond (same_list (stored_root_message t n) (stored_root_message u m)) equal at_roots) roots_differ) (hashes ∙ f))

    module _ {r : Bool} (v : r ≡ same_list (stored_root_message t n) (stored_root_message u m)) (f : h ≡ true) where
      told_by : (b : Bool) → r ≡ b → cond b equal at_roots ≡ top equal
      told_by b g = sym (λ j. cond ((hashes ∙ f) j) (cond ((sym v ∙ g) j) equal at_roots) roots_differ)

      pub top_roots : r ≡ false → at_roots ≡ top equal
      top_roots = told_by false

      pub top_equal : r ≡ true → equal ≡ top equal
      top_equal = told_by true

  -- registers with one root message have one number of chunks
  pub top_count : RootsIn t n → RootsIn u m → equal ≡ top equal → n ≡ m
  top_count p q e =
      same_count t u n m p q
      (same_eq (stored_root_message t n) (stored_root_message u m)
      (top_same (same_list (F (stored_root_message t n)) (F (stored_root_message u m))) (same_list (stored_root_message t n) (stored_root_message u m)) e))

module _ (F : List ℕ → List ℕ) (t d u e : List ℕ) (n m : ℕ) where
  abbrev pub walked : Comparison
  walked = walk F (stored_side t d n) (stored_side u e m) n

  pub walk_parts : walked ≡ unless_told (top F t u n m equal) (found (lowest (free t d u e n) 0 (entries n)))
  unfolding walk collides_at
  walk_parts =
      top_next (same_list (F (stored_root_message t n)) (F (stored_root_message u m))) (same_list (stored_root_message t n) (stored_root_message u m))
      (found (lowest (free t d u e n) 0 (entries n)))

  -- what the roots tell, where it is not "equal"
  pub walk_told : {x : Comparison} → x ≡ top F t u n m equal → ((next : Comparison) → unless_told x next ≡ x) → x ≡ walked
  walk_told q stop = sym (walk_parts ∙ ap (λ (c : Comparison). unless_told c (found (lowest (free t d u e n) 0 (entries n)))) (sym q) ∙ stop _)

  pub walk_found : equal ≡ top F t u n m equal → {c : Comparison} {end : ℕ} → end ≡ entries n → c ≡ found (lowest (free t d u e n) 0 (end - 0)) → c ≡ walked
  walk_found q {end = end} f z =
      let k : end - 0 ≡ entries n = omega arith in
      z ∙ ap (λ (a : ℕ). found (lowest (free t d u e n) 0 a)) k
      ∙ sym (walk_parts ∙ ap (λ (c : Comparison). unless_told c (found (lowest (free t d u e n) 0 (entries n)))) (sym q))

  pub walk_count : RootsIn t n → RootsIn u m → equal ≡ top F t u n m equal → RootsIn u n
  walk_count p q e = subst (RootsIn u) (sym (top_count F t u n m p q e)) q

-- ---- the checks of both, then the walk

module _ (F : List ℕ → List ℕ) (a b : Register) (x : Result ⊤ Refusal) (p : said x ≡ whole_verdict F a) where
  abbrev last : Comparison
  last = walked F a.tree a.content b.tree b.content a.n b.n

  parts : compare F a b ≡ unless_refused (said x) (whole_verdict F b) last
  unfolding compare
  parts = ap (λ (v : Verdict). unless_refused v (whole_verdict F b) last) (sym p)

  pub first_refuses : (m : Refusal) → x ≡ Err m → first_refused m.number (spot_of m.place) ≡ compare F a b
  first_refuses m e = sym (parts ∙ ap (λ (y : Result ⊤ Refusal). unless_refused (said y) (whole_verdict F b) last) e)

  module _ (e : x ≡ (Ok tt)) (y : Result ⊤ Refusal) (q : said y ≡ whole_verdict F b) where
    pub second_refuses : (m : Refusal) → y ≡ Err m → second_refused m.number (spot_of m.place) ≡ compare F a b
    second_refuses m g = sym (parts ∙ (λ j. unless_refused (said (e j)) (sym q j) last) ∙ ap (λ (z : Result ⊤ Refusal). unless_refused done (said z) last) g)

    module _ (g : y ≡ (Ok tt)) where
      pub both_rooted : RootsIn a.tree a.n × RootsIn b.tree b.n
      both_rooted = (rooted F a (whole_accepted F a (sym p ∙ ap said e)), rooted F b (whole_accepted F b (sym q ∙ ap said g)))

      pub walk_says : {c : Comparison} → c ≡ last → c ≡ compare F a b
      walk_says z = z ∙ sym (parts ∙ (λ j. unless_refused (said (e j)) (sym q j) last) ∙ ap (λ (w : Result ⊤ Refusal). unless_refused done (said w) last) g)
