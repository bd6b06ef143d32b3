-- A part of the comparing walk as the code makes it. Assumes nothing.
use Rattle.std.specs.Prelude.{Result, Ok, Err, ⊤}
use Prim.Native.Nat.{ℕ, ◌-◌, ◌≤◌}
use mathlib.Core.Path.{◌≡◌, refl, sym, ap, ap₂, ◌∙◌, subst}
use mathlib.Core.Bool.{Bool, true, false, cond}
use mathlib.Core.List.{List}
use native.Mathlib.Omega.{arith}
use borrow.Author.Tests.{eq-eqb, ne_eqb, ltb-true}
use lib.Dec.{eqb, ltb}
use lib.ListN.{length, take}
use Rattle.answer_types.specs.Verdict.{Verdict, done}
use Rattle.answer_types.specs.Meaning.{said, spot_of}
use Rattle.answer_types.specs.declared.Refusal.{Refusal}
use Rattle.tree_index.specs.Tree.{entries}
use Rattle.file_format.specs.Belongs.{Register}
use Rattle.file_format.specs.Inner.{RootsIn}
use Rattle.checks.specs.Checks.{judged, register_checks}
use Rattle.checks.proofs.Passed.{passed}
use Rattle.audit.specs.Audit.{nowhere, lowest}
use Rattle.compare.specs.Walk.{Comparison, first_refused, second_refused, equal, found, unless_refused}
use Rattle.compare.proofs.Walked.{free, top}
use Rattle.parts_audit.specs.Range.{lesser}
use Rattle.parts_compare.specs.Part.{both_checked, roots_part, data_of, walk_part}

-- a register that passes the checks has room for its entries
rooted : (r : Register) (x : Result ⊤ Refusal) → said x ≡ judged (register_checks r) done → x ≡ (Ok tt) → RootsIn r.tree r.n
rooted r x p e = let q = (passed r done (sym p ∙ ap said e)).0 in record { count = q.count; inside = q.tree }

-- ---- the checks of both

module _ (a b : Register) (next : Comparison) (x : Result ⊤ Refusal) (p : said x ≡ judged (register_checks a) done) where
  parts : both_checked a b next ≡ unless_refused (said x) (judged (register_checks b) done) next
  parts = ap (λ (v : Verdict). unless_refused v (judged (register_checks b) done) next) (sym p)

  first_refuses : (m : Refusal) → x ≡ Err m → first_refused m.number (spot_of m.place) ≡ both_checked a b next
  first_refuses m e = sym (parts ∙ ap (λ (y : Result ⊤ Refusal). unless_refused (said y) (judged (register_checks b) done) next) e)

  module _ (e : x ≡ (Ok tt)) (y : Result ⊤ Refusal) (q : said y ≡ judged (register_checks b) done) where
    second_refuses : (m : Refusal) → y ≡ Err m → second_refused m.number (spot_of m.place) ≡ both_checked a b next
    second_refuses m g = sym (parts ∙ (λ j. unless_refused (said (e j)) (sym q j) next) ∙ ap (λ (z : Result ⊤ Refusal). unless_refused done (said z) next) g)

    both_pass : y ≡ (Ok tt) → (c : Comparison) → c ≡ next → c ≡ both_checked a b next
    both_pass g c z = z ∙ sym (parts ∙ (λ j. unless_refused (said (e j)) (sym q j) next) ∙ ap (λ (w : Result ⊤ Refusal). unless_refused done (said w) next) g)

-- ---- each part

module _ (F : List ℕ → List ℕ) (a b : Register) (x : Result ⊤ Refusal) (p : said x ≡ judged (register_checks a) done) where
  pub roots_first : (m : Refusal) → x ≡ Err m → first_refused m.number (spot_of m.place) ≡ roots_part F a b
  unfolding roots_part
  roots_first = first_refuses a b _ x p

  module _ (e : x ≡ (Ok tt)) (y : Result ⊤ Refusal) (q : said y ≡ judged (register_checks b) done) where
    pub roots_second : (m : Refusal) → y ≡ Err m → second_refused m.number (spot_of m.place) ≡ roots_part F a b
    unfolding roots_part
    roots_second = second_refuses a b _ x p e y q

    module _ (g : y ≡ (Ok tt)) where
      pub roots_room : RootsIn a.tree a.n × RootsIn b.tree b.n
      roots_room = (rooted a x p e, rooted b y q g)

      pub roots_told_lem : (c d : Comparison) → c ≡ d → d ≡ top F a.tree b.tree a.n b.n equal → c ≡ roots_part F a b
      unfolding roots_part
      roots_told_lem c d u v = both_pass a b _ x p e y q g c (u ∙ v)

module _ (a b : Register) (i j : ℕ) (x : Result ⊤ Refusal) (p : said x ≡ judged (register_checks a) done) where
  pub walk_first : (m : Refusal) → x ≡ Err m → first_refused m.number (spot_of m.place) ≡ walk_part a b i j
  unfolding walk_part
  walk_first = first_refuses a b _ x p

  module _ (e : x ≡ (Ok tt)) (y : Result ⊤ Refusal) (q : said y ≡ judged (register_checks b) done) where
    pub walk_second : (m : Refusal) → y ≡ Err m → second_refused m.number (spot_of m.place) ≡ walk_part a b i j
    unfolding walk_part
    walk_second = second_refuses a b _ x p e y q

    module _ (g : y ≡ (Ok tt)) where
      pub walk_room : a.n ≡ b.n → RootsIn a.tree a.n × RootsIn b.tree a.n
      walk_room s = (rooted a x p e, subst (RootsIn b.tree) (sym s) (rooted b y q g))

      -- the code's range of indexes, by its end
      by_end : (m : ℕ) → Comparison
      by_end m = found (lowest (free a.tree (data_of a) b.tree (data_of b) a.n) i (m - i))

      -- of registers with different numbers of chunks none
      pub walk_none : (a.n ≡ b.n → ⊥) → equal ≡ walk_part a b i j
      unfolding walk_part by_end lowest
      walk_none d =
          both_pass a b _ x p e y q g equal
          (sym (ap by_end (ap (lesser j) (ap (λ (t : Bool). cond t (entries a.n) 0) (ne_eqb a.n b.n d)) ∙ lesser_zero j) ∙ ap found (nothing i)))
        where
          lesser_zero : (j : ℕ) → lesser j 0 ≡ 0
          lesser_zero j = go (ltb j 0) refl
            where
              go : (t : Bool) → ltb j 0 ≡ t → cond t j 0 ≡ 0
              go true u = let l = ltb-true j 0 u in omega arith
              go false u = refl

          nothing : (i : ℕ) → lowest (free a.tree (data_of a) b.tree (data_of b) a.n) i (0 - i) ≡ nowhere
          nothing i = let z : 0 - i ≡ 0 = omega arith in ap (lowest (free a.tree (data_of a) b.tree (data_of b) a.n) i) z

      -- the data that are lent, as far as they are used
      pub walk_data : (a.size ≤ length a.content) × (b.size ≤ length b.content)
      walk_data = ((passed a done (sym p ∙ ap said e)).0.content, (passed b done (sym q ∙ ap said g)).0.content)

      pub walk_says : a.n ≡ b.n → (c : Comparison) (end k u v : ℕ) → k ≡ entries a.n → end ≡ lesser j k → u ≡ a.size → v ≡ b.size
          → c ≡ found (lowest (free a.tree (take u a.content) b.tree (take v b.content) a.n) i (end - i)) → c ≡ walk_part a b i j
      unfolding walk_part by_end
      walk_says s c end k u v z w m l o =
          both_pass a b _ x p e y q g c
          (o ∙ ap₂ (λ (t r : ℕ). found (lowest (free a.tree (take t a.content) b.tree (take r b.content) a.n) i (end - i))) m l
          ∙ ap by_end (w ∙ ap (lesser j) (z ∙ sym (ap (λ (t : Bool). cond t (entries a.n) 0) (eq-eqb a.n b.n s)))))
