-- Entries of two tree files, and of a list of given ones. Assumes nothing.
use Prim.Native.Nat.{ℕ, ◌+◌, ◌≤◌}
use mathlib.Core.Path.{◌≡◌, sym, ap, ◌∙◌, subst}
use mathlib.Core.Logic.{inl, inr}
use mathlib.Core.List.{List, [], ◌∷◌}
use native.Mathlib.Omega.{arith}
use Rattle.byte_strings.specs.Lists.{part}
use Rattle.byte_strings.proofs.Lists.{part_part}
use Rattle.byte_strings.specs.Numbers.{number}
use Rattle.file_format.specs.Sizes.{entry_place}
use Rattle.file_format.specs.Entries.{Entry, entry_bytes}
use Rattle.file_format.specs.Stored.{stored_hash, stored_size}
use Rattle.file_format.proofs.Nodes.{Proper}
use Rattle.packet.specs.Check.{entry_in}
use Rattle.packet.proofs.Above.{Distinct}
use Rattle.packet.proofs.Pieces.{entry_in_lem}
use Rattle.copy_take_in.specs.TakeIn.{Given}
use Rattle.byte_strings.proofs.Members.{In, map_in}
use Rattle.theorem_taking_laws.proofs.Distinct.{apart_out}
use Rattle.theorem_taking_laws.proofs.Given.{places_of}
use Rattle.theorem_taking_laws.proofs.Starts.{HoldsEntry}

-- the same 40 bytes are the same hash and length
pub entry_same : (t u : List ℕ) (i : ℕ) → part u (entry_place i) 40 ≡ part t (entry_place i) 40 → (stored_hash u i ≡ stored_hash t i) × (stored_size u i ≡ stored_size t i)
unfolding stored_hash stored_size
entry_same t u i e = (
  sym (whole u 0 32 (omega arith) ∙ ap (λ (x : ℕ). part u x 32) (let q : entry_place i + 0 ≡ entry_place i = omega arith in q))
      ∙ ap (λ (l : List ℕ). part l 0 32) e
      ∙ whole t 0 32 (omega arith) ∙ ap (λ (x : ℕ). part t x 32) (let q : entry_place i + 0 ≡ entry_place i = omega arith in q),
  ap number (sym (whole u 32 8 (omega arith)) ∙ ap (λ (l : List ℕ). part l 32 8) e ∙ whole t 32 8 (omega arith)),
)
  where
    whole : (xs : List ℕ) (a k : ℕ) → a + k ≤ 40 → part (part xs (entry_place i) 40) a k ≡ part xs (entry_place i + a) k
    whole xs a k l = part_part xs (entry_place i) 40 a k l

-- an entry's bytes are the entry
pub entry_held : (t : List ℕ) (x : Given) → Proper x.entry → part t (entry_place x.at) 40 ≡ entry_bytes x.entry → HoldsEntry t x
unfolding entry_in stored_hash stored_size
entry_held t x w e =
    let q : entry_in t (entry_place x.at) ≡ x.entry = entry_in_lem t (entry_place x.at) x.entry w e in
    record { hash = ap (λ (y : Entry). y.hash) q; size = ap (λ (y : Entry). y.size) q }

-- what stands at one of different indexes is one entry
pub distinct_one : (gs : List Given) → Distinct (places_of gs) → (x y : Given) → In x gs → In y gs → x.at ≡ y.at → x ≡ y
unfolding Distinct In
distinct_one [] a x y m l e = absurd m
distinct_one (z ∷ gs) a x y (inl p) (inl q) e = sym p ∙ q
distinct_one (z ∷ gs) a x y (inl p) (inr l) e =
    absurd (apart_out z.at (places_of gs) a.0
    (subst (λ (j : ℕ). In j (places_of gs)) (sym (ap (λ (v : Given). v.at) p ∙ e)) (map_in (λ (v : Given). v.at) y gs l)))
distinct_one (z ∷ gs) a x y (inr m) (inl q) e =
    absurd (apart_out z.at (places_of gs) a.0
    (subst (λ (j : ℕ). In j (places_of gs)) (e ∙ sym (ap (λ (v : Given). v.at) q)) (map_in (λ (v : Given). v.at) x gs m)))
distinct_one (z ∷ gs) a x y (inr m) (inr l) e = distinct_one gs a.1 x y m l e
