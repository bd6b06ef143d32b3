-- What 19 asks of given entries and of a chunk's bytes, after one list was written and after another. Assumes nothing.
use Prim.Native.Nat.{ℕ, ◌+◌, ◌/◌, ◌≤◌}
use mathlib.Core.Path.{◌≡◌, refl, sym, ap, ap₂, ◌∙◌, subst}
use mathlib.Core.Logic.{◌⊎◌, inl, inr, ⊎_elim}
use mathlib.Core.Bool.{Bool, true, false, ◌||◌}
use mathlib.Core.List.{List, [], ◌∷◌, map}
use native.Mathlib.Omega.{arith}
use borrow.Author.Tests.{eq-eqb, ne_eqb}
use lib.Dec.{eqb}
use lib.ListN.{length}
use Rattle.byte_strings.specs.Lists.{part, put, among}
use Rattle.byte_strings.specs.Lowest.{Lowest, nowhere}
use Rattle.byte_strings.proofs.Lists.{part_put, part_put_before, part_put_behind}
use Rattle.byte_strings.proofs.Bools.{or_right, cases}
use Rattle.tree_index.specs.Tree.{index}
use Rattle.bitfield.specs.Append.{bits_place}
use Rattle.bitfield.specs.Release.{stored_held}
use Rattle.bitfield.specs.Known.{stored_known, held_again}
use Rattle.bitfield.proofs.Levels.{same_or}
use Rattle.file_format.specs.Sizes.{entry_place}
use Rattle.packet.proofs.Above.{Distinct}
use Rattle.copy_checks.specs.Least.{lower_of, least_of}
use Rattle.copy_checks.proofs.Least.{lower_none}
use Rattle.copy_take_in.specs.TakeIn.{Given, bytes_contradicted, index_if, contradicts, with_given, with_known}
use Rattle.copy_take_in.proofs.Contradicted.{entry_alike, no_entry, bytes_alike, no_bytes}
use Rattle.byte_strings.proofs.Members.{In, map_in}
use Rattle.theorem_taking_laws.proofs.Distinct.{apart_out}
use Rattle.bitfield.proofs.Beside.{puts_turn}
use Rattle.bitfield.proofs.StoredBits.{RoomFor, known_again}
use Rattle.theorem_taking_laws.proofs.Given.{bytes_for, places_of, AllFitting, AllRoom, Agree, among_in, in_among, given_keeps, given_gives, length_known, known_given}
use Rattle.theorem_taking_laws.proofs.Unknown.{each_least}

-- ---- one entry

-- a known entry is the one that is given
abbrev pub Clear : List ℕ → List ℕ → Given → Type 0
Clear t bits g = stored_known bits g.at ≡ true → part t (entry_place g.at) 40 ≡ bytes_for g

-- ---- all entries

least_each : (f : Given → Lowest) (gs : List Given) → least_of (map f gs) ≡ nowhere → (g : Given) → In g gs → f g ≡ nowhere
unfolding least_of In
least_each f [] e g m = absurd m
least_each f (h ∷ gs) e g (inl q) = ap f (sym q) ∙ (lower_none (f h) (least_of (map f gs)) e).0
least_each f (h ∷ gs) e g (inr m) = least_each f gs (lower_none (f h) (least_of (map f gs)) e).1 g m

abbrev pub AllClear : List ℕ → List ℕ → List Given → Type 0
AllClear t bits gs = (g : Given) → In g gs → Clear t bits g

-- ---- the chunk's bytes

-- those of a chunk that is held are the ones that are given
abbrev pub ClearBytes : Bool → List ℕ → ℕ → List ℕ → Type 0
ClearBytes held content start chunk = held ≡ true → part content start (length chunk) ≡ chunk

-- both together
pub lower_clear : (t bits content : List ℕ) (i start : ℕ) (chunk : List ℕ) (gs : List Given)
    → lower_of (index_if (bytes_contradicted bits content i start chunk) (index 0 i)) (least_of (map (contradicts t bits) gs)) ≡ nowhere
    → ClearBytes (stored_held bits i) content start chunk × AllClear t bits gs
lower_clear t bits content i start chunk gs e =
    let a = lower_none (index_if (bytes_contradicted bits content i start chunk) (index 0 i)) (least_of (map (contradicts t bits) gs)) e in
    (bytes_alike bits content i start chunk (index 0 i) a.0, λ g m. entry_alike t bits g (least_each (contradicts t bits) gs a.1 g m))

pub clear_lower : (t bits content : List ℕ) (i start : ℕ) (chunk : List ℕ) (gs : List Given) → ClearBytes (stored_held bits i) content start chunk
    → AllClear t bits gs → lower_of (index_if (bytes_contradicted bits content i start chunk) (index 0 i)) (least_of (map (contradicts t bits) gs)) ≡ nowhere
unfolding lower_of
clear_lower t bits content i start chunk gs b c =
    ap₂ lower_of (no_bytes bits content i start chunk (index 0 i) b) (each_least (contradicts t bits) gs (λ g m. no_entry t bits g (c g m)))

-- ---- a list whose indexes differ agrees with itself

pub distinct_agree : (gs : List Given) → Distinct (places_of gs) → Agree gs gs
unfolding Distinct In
distinct_agree [] d g h m l e = absurd m
distinct_agree (k ∷ gs) d g h (inl p) (inl q) e = ap bytes_for (sym p ∙ q)
distinct_agree (k ∷ gs) d g h (inl p) (inr l) e =
    absurd (apart_out k.at (places_of gs) d.0
    (subst (λ (x : ℕ). In x (places_of gs)) (sym e ∙ ap (λ (y : Given). y.at) (sym p)) (map_in (λ (y : Given). y.at) h gs l)))
distinct_agree (k ∷ gs) d g h (inr m) (inl q) e =
    absurd (apart_out k.at (places_of gs) d.0
    (subst (λ (x : ℕ). In x (places_of gs)) (e ∙ ap (λ (y : Given). y.at) (sym q)) (map_in (λ (y : Given). y.at) g gs m)))
distinct_agree (k ∷ gs) d g h (inr m) (inr l) e = distinct_agree gs d.1 g h m l e

-- ---- known after a taking in

module _ (bits : List ℕ) (gs : List Given) (k : ℕ) (room : AllRoom bits gs) (bit : RoomFor bits (k / 8192)) where
  pub known_after : (i : ℕ) → stored_known (held_again (with_known bits gs) k) i ≡ (among i (places_of gs) || stored_known bits i)
  known_after i =
      known_again (with_known bits gs) k (subst (λ (l : ℕ). bits_place (k / 8192 + 1) ≤ l) (sym (length_known bits gs)) bit) i ∙ known_given bits gs room i

  known_still : (i : ℕ) → stored_known bits i ≡ true → stored_known (held_again (with_known bits gs) k) i ≡ true
  known_still i e = known_after i ∙ or_right (among i (places_of gs)) (stored_known bits i) e

  pub known_now : (i : ℕ) → In i (places_of gs) → stored_known (held_again (with_known bits gs) k) i ≡ true
  known_now i m = known_after i ∙ ap (λ (b : Bool). b || stored_known bits i) (in_among i (places_of gs) m)

-- ---- two lists

module _ (t bits : List ℕ) (ps qs : List Given) (i j : ℕ) (fp : AllFitting t ps) (fq : AllFitting t qs) (rp : AllRoom bits ps) (rq : AllRoom bits qs)
    (bi : RoomFor bits (i / 8192)) (bj : RoomFor bits (j / 8192)) (own : Agree ps ps) (cp : AllClear t bits ps)
    (cq : AllClear (with_given t ps) (held_again (with_known bits ps) i) qs) where
  pub agree : Agree ps qs
  agree g h m l e =
      sym (given_gives h.at (bytes_for g) t ps fp (λ k n f. own k g n m (f ∙ sym e)) here) ∙ cq h l (known_now bits ps i rp bi h.at here)
    where
      here : In h.at (places_of ps)
      here = subst (λ (x : ℕ). In x (places_of ps)) e (map_in (λ (y : Given). y.at) g ps m)

  -- the later list contradicts nothing that was known before the earlier one
  pub later_clear : AllClear t bits qs
  later_clear h l k =
      sym
      (given_keeps h.at (part t (entry_place h.at) 40) t ps fp
      (λ g m e. sym (cp g m (subst (λ (x : ℕ). stored_known bits x ≡ true) (sym e) k)) ∙ ap (λ (x : ℕ). part t (entry_place x) 40) e) refl)
      ∙ cq h l (known_still bits ps i rp bi h.at k)

  -- and the earlier one contradicts nothing after the later
  pub earlier_clear : AllClear (with_given t qs) (held_again (with_known bits qs) j) ps
  earlier_clear g m k = pick (cases (among g.at (places_of qs)))
    where
      saying : (h : Given) → In h qs → h.at ≡ g.at → bytes_for h ≡ bytes_for g
      saying h l e = sym (agree g h m l (sym e))

      pick : (among g.at (places_of qs) ≡ true) ⊎ (among g.at (places_of qs) ≡ false) → part (with_given t qs) (entry_place g.at) 40 ≡ bytes_for g
      pick (inl e) = given_gives g.at (bytes_for g) t qs fq saying (among_in g.at (places_of qs) e)
      pick (inr e) =
          given_keeps g.at (bytes_for g) t qs fq saying
          (cp g m (sym (known_after bits qs j rq bj g.at ∙ ap (λ (b : Bool). b || stored_known bits g.at) e) ∙ k))

-- ---- the bytes of two chunks

module _ (content : List ℕ) (i j : ℕ) (sp sq : ℕ) (bp bq : List ℕ) (held : ℕ → Bool) (ip : sp + length bp ≤ length content) (iq : sq + length bq ≤ length content)
    (same : i ≡ j → (sp ≡ sq) × (length bp ≡ length bq)) (apart : (i ≡ j → ⊥) → (sp + length bp ≤ sq) ⊎ (sq + length bq ≤ sp))
    (hp : ClearBytes (held i) content sp bp) (hq : ClearBytes (eqb j i || held j) (put content sp bp) sq bq) where
  one_chunk : i ≡ j → bp ≡ bq
  one_chunk e =
      let s = same e in
      sym (part_put content sp (length bp) bp refl (omega arith)) ∙ ap₂ (λ (x y : ℕ). part (put content sp bp) x y) s.0 s.1
      ∙ hq (ap (λ (b : Bool). b || held j) (eq-eqb j i (sym e)))

  beside_p : (i ≡ j → ⊥) → part (put content sp bp) sq (length bq) ≡ part content sq (length bq)
  beside_p n =
      elim (apart n) [
        | inl l ↦ part_put_behind content sp bp sq (length bq) l (omega arith)
        | inr l ↦ part_put_before content sp bp sq (length bq) l (omega arith)
      ]

  beside_q : (i ≡ j → ⊥) → part (put content sq bq) sp (length bp) ≡ part content sp (length bp)
  beside_q n =
      elim (apart n) [
        | inl l ↦ part_put_before content sq bq sp (length bp) l (omega arith)
        | inr l ↦ part_put_behind content sq bq sp (length bp) l (omega arith)
      ]

  pub later_bytes : ClearBytes (held j) content sq bq
  later_bytes k =
      ⊎_elim
      (λ e. ap₂ (λ (x y : ℕ). part content x y) (sym (same e).0) (sym (same e).1) ∙ hp (ap held e ∙ k) ∙ one_chunk e)
      (λ n. sym (beside_p n) ∙ hq (or_right (eqb j i) (held j) k))
      (same_or i j)

  pub earlier_bytes : ClearBytes (eqb i j || held i) (put content sq bq) sp bp
  earlier_bytes k =
      ⊎_elim
      (λ e. ap₂ (λ (x y : ℕ). part (put content sq bq) x y) (same e).0 (same e).1
      ∙ part_put content sq (length bq) bq refl (omega arith) ∙ sym (one_chunk e))
      (λ n. beside_q n ∙ hp (sym (ap (λ (b : Bool). b || held i) (ne_eqb i j n)) ∙ k))
      (same_or i j)

  pub bytes_turn : put (put content sp bp) sq bq ≡ put (put content sq bq) sp bp
  bytes_turn =
      ⊎_elim
      (λ e. ap₂ (λ (x : ℕ) (y : List ℕ). put (put content sp bp) x y) (sym (same e).0) (sym (one_chunk e))
      ∙ ap₂ (λ (x : ℕ) (y : List ℕ). put (put content x y) sp bp) (same e).0 (one_chunk e))
      (λ n. puts_turn content sp bp sq bq (apart n) (omega arith) (omega arith))
      (same_or i j)
