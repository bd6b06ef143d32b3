-- The shape of a packet: its counts, its chunk's length, and its own.
-- Assumes nothing.
use Prim.Native.Nat.{ℕ, ◌+◌, ◌*◌, ◌≤◌, ◌<◌}
use mathlib.Core.Path.{◌≡◌, ap, ap₂, ◌∙◌, subst}
use mathlib.Core.Bool.{Bool, true, false, ◌&&◌}
use mathlib.Core.List.{List}
use lib.Dec.{leb, eqb}
use lib.ListN.{length, get_or}
use borrow.Author.Tests.{leb-true, le-leb, lt-leb, eqb-true, eq-eqb, ne_eqb}
use Rattle.byte_strings.specs.Lists.{part}
use Rattle.byte_strings.specs.Numbers.{number}
use Rattle.byte_strings.proofs.Bools.{both_true}
use Rattle.checks.proofs.Steps.{and_stop, and_pass}
use Rattle.packet.specs.Packet.{siblings, other_roots}
use Rattle.packet.specs.Check.{chunk_length, siblings_place, others_place, whole_length, shape_right}

-- what is counted in a packet: the bytes of its chunk, and its siblings and other roots by n and i
pub record Counted (p : List ℕ) (n c l u o : ℕ) : Type 0 where
  pub long : l ≡ chunk_length p
  pub up : u ≡ length (siblings n c)
  pub others : o ≡ length (other_roots n c)

-- the code reads the bytes of its chunk at its front
pub counted : {p : List ℕ} {n c l u o : ℕ} → l ≡ number (part p 0 4) → u ≡ length (siblings n c) → o ≡ length (other_roots n c) → Counted p n c l u o
unfolding chunk_length
counted e f g = record { long = e; up = f; others = g }

-- the five tests, for a chunk of l bytes, u siblings and o other roots
abbrev tests : List ℕ → ℕ → ℕ → ℕ → Bool
tests p l u o =
    leb 4 (length p)
    && (leb l 65536
    && (eqb (length p) (4 + l + 1 + 40 * u + 1 + 40 * o) && (eqb (get_or p (4 + l) 0) u && eqb (get_or p (4 + l + 1 + 40 * u) 0) o)))

tests_are : {p : List ℕ} {n c l u o : ℕ} → Counted p n c l u o → tests p l u o ≡ shape_right p n c
unfolding shape_right whole_length others_place siblings_place
tests_are {p} {u = u} {o} r = ap (λ (x : ℕ). tests p x u o) r.long ∙ ap₂ (λ (x y : ℕ). tests p (chunk_length p) x y) r.up r.others

module _ {p : List ℕ} {n c l u o : ℕ} (r : Counted p n c l u o) where
  pub too_short : length p < 4 → false ≡ shape_right p n c
  too_short h = and_stop _ _ (lt-leb 4 (length p) h) ∙ tests_are r

  module _ (h : 4 ≤ length p) where
    pub too_long : 65536 < l → false ≡ shape_right p n c
    too_long g = and_pass _ _ _ (le-leb 4 (length p) h) (and_stop _ _ (lt-leb l 65536 g)) ∙ tests_are r

    module _ (g : l ≤ 65536) where
      third : (t : Bool)
          → t ≡ eqb (length p) (4 + l + 1 + 40 * u + 1 + 40 * o) && (eqb (get_or p (4 + l) 0) u && eqb (get_or p (4 + l + 1 + 40 * u) 0) o)
          → t ≡ shape_right p n c
      third t e = and_pass _ _ t (le-leb 4 (length p) h) (and_pass _ _ t (le-leb l 65536 g) e) ∙ tests_are r

      pub not_whole : (length p ≡ 4 + l + 1 + 40 * u + 1 + 40 * o → ⊥) → false ≡ shape_right p n c
      not_whole k = third false (and_stop _ _ (ne_eqb (length p) (4 + l + 1 + 40 * u + 1 + 40 * o) k))

      module _ (k : length p ≡ 4 + l + 1 + 40 * u + 1 + 40 * o) {x : ℕ} (e : x ≡ get_or p (4 + l) 0) where
        pub not_up : (x ≡ u → ⊥) → false ≡ shape_right p n c
        not_up m =
            third false (and_pass _ _ false (eq-eqb _ _ k) (and_stop _ _ (subst (λ (y : ℕ). eqb y u ≡ false) e (ne_eqb x u m))))

        pub all_tests : x ≡ u → {y : ℕ} → y ≡ get_or p (4 + l + 1 + 40 * u) 0 → eqb y o ≡ shape_right p n c
        all_tests m {y} f =
            third (eqb y o)
            (and_pass _ _ (eqb y o) (eq-eqb _ _ k)
            (and_pass _ _ (eqb y o) (subst (λ (z : ℕ). eqb z u ≡ true) e (eq-eqb x u m)) (ap (λ (z : ℕ). eqb z o) f)))

-- what a right shape says
pub record Sized (p : List ℕ) (n c : ℕ) : Type 0 where
  pub front : 4 ≤ length p
  pub chunk : chunk_length p ≤ 65536
  pub whole : length p ≡ 4 + chunk_length p + 1 + 40 * length (siblings n c) + 1 + 40 * length (other_roots n c)

pub sized : (p : List ℕ) (n c : ℕ) → shape_right p n c ≡ true → Sized p n c
unfolding shape_right whole_length others_place siblings_place
sized p n c e =
    let a = both_true _ _ e in
    let b = both_true _ _ a.1 in
    let d = both_true _ _ b.1 in
    record { front = leb-true _ _ a.0; chunk = leb-true _ _ b.0; whole = eqb-true _ _ d.0 }
