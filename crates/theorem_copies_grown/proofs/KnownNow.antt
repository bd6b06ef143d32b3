-- What a copy knows and holds after a taking in. Assumes nothing.
use Prim.Native.Nat.{ℕ}
use mathlib.Core.Path.{◌≡◌, refl, ap, ◌∙◌, subst}
use mathlib.Core.Bool.{Bool, true, false}
use mathlib.Core.Logic.{◌⊎◌, inl, inr}
use mathlib.Core.List.{List}
use native.Mathlib.Nat.{div-one}
use native.Mathlib.Omega.{arith}
use borrow.Author.Tests.{eqb-true, eqb-false}
use lib.Dec.{eqb}
use Rattle.byte_strings.specs.Lists.{among}
use Rattle.byte_strings.proofs.Bools.{or_right, clash, or_split, or_left}
use Rattle.tree_index.specs.Tree.{index, filled}
use Rattle.bitfield.specs.Known.{held_again}
use Rattle.bitfield.proofs.Bits.{with_one_lem}
use Rattle.bitfield.proofs.Append.{or_among}
use Rattle.file_format.specs.Entries.{Entry}
use Rattle.copy_checks.specs.Copy.{Copy}
use Rattle.copy_take_in.specs.TakeIn.{Given, with_known, brought, taken_in}
use Rattle.byte_strings.proofs.Members.{In, in_map, map_in}
use Rattle.file_format.proofs.Shown.{shown, more_known, held_more}
use Rattle.theorem_taking_laws.proofs.Given.{places_of, among_in, in_among}
use Rattle.theorem_taking_laws.proofs.Ways.{way_index}
use Rattle.theorem_taking_laws.proofs.Brought.{way_entry, way_brought}
use Rattle.theorem_taking_laws.proofs.Among.{brought_filled}
use Rattle.theorem_released_back.proofs.Stays.{under_filled}
use Rattle.theorem_copies_grown.proofs.Grows.{Grows}
use Rattle.theorem_copies_grown.proofs.TakenEntries.{Taking}

module _ {F : List ℕ → List ℕ} {c : Copy} {p : List ℕ} {i : ℕ} (tg : Taking F c p i) where
  abbrev g : Grows F c
  g = tg.grows

  abbrev gs : List Given
  gs = brought F p c.n i

  abbrev ps : List ℕ
  ps = places_of (brought F p c.n i)

  abbrev pub now : ℕ → Bool
  now = or_among g.knows_of (places_of (brought F p c.n i))

  abbrev pub holds_now : ℕ → Bool
  holds_now = with_one_lem g.held_of i

  pub old_now : (j : ℕ) → g.knows_of j ≡ true → now j ≡ true
  old_now j k = or_left (g.knows_of j) (among j ps) k

  pub new_now : (j : ℕ) → In j ps → now j ≡ true
  new_now j m = or_right (g.knows_of j) (among j ps) (in_among j ps m)

  pub now_split : (j : ℕ) → now j ≡ true → In j ps ⊎ (g.knows_of j ≡ true)
  now_split j e = pick (or_split (g.knows_of j) (among j ps) e)
    where
      pick : (g.knows_of j ≡ true) ⊎ (among j ps ≡ true) → In j ps ⊎ (g.knows_of j ≡ true)
      pick (inl a) = inr a
      pick (inr a) = inl (among_in j ps a)

  pub place : (j : ℕ) → In j ps → (x : Given) × In x gs × (x.at ≡ j)
  place j m = in_map (λ (z : Given). z.at) j gs m

  pub entry_place_lem : (j : ℕ) (e : Entry) → In (record { at = j; entry = e }) gs → In j ps
  entry_place_lem j e m = map_in (λ (z : Given). z.at) (record { at = j; entry = e }) gs m

  pub bits_now : (taken_in F c p i).bitfield ≡ shown holds_now now c.n g.tail
  unfolding taken_in with_known
  bits_now =
      ap (λ (l : List ℕ). held_again (with_known l gs) i) g.bits
      ∙ ap (λ (l : List ℕ). held_again l i)
      (more_known g.held_of c.n g.tail g.knows_of ps
      (under_filled c.n ps (λ j m. let q = place j m in subst (λ (x : ℕ). filled c.n x ≡ true) q.2 (brought_filled c.n i tg.took.packet.shaped.chunk F p q.0 q.1))))
      ∙ held_more g.held_of now c.n g.tail i tg.took.packet.shaped.chunk.below

  pub leaf_place : In (index 0 i) ps
  leaf_place =
      subst (λ (x : ℕ). In (index 0 x) ps) (div-one i)
      (entry_place_lem (way_index i 0) (way_entry F p c.n i 0) (way_brought F p c.n i 0 (omega arith)))

  pub held_split : (k : ℕ) → holds_now k ≡ true → (k ≡ i) ⊎ ((k ≡ i → ⊥) × (g.held_of k ≡ true))
  held_split k e = pick (eqb k i) refl (or_split (g.held_of k) (eqb k i) e)
    where
      pick : (b : Bool) → eqb k i ≡ b → (g.held_of k ≡ true) ⊎ (eqb k i ≡ true) → (k ≡ i) ⊎ ((k ≡ i → ⊥) × (g.held_of k ≡ true))
      pick true q w = inl (eqb-true k i q)
      pick false q (inl a) = inr (eqb-false k i q, a)
      pick false q (inr a) = clash (eqb k i) a q
