-- Laws of slots: their bytes, their leaf entries, and which of them are held.
-- Assumes nothing.
use Prim.Native.Nat.{ℕ, zero, suc, ◌≤◌, ◌<◌}
use mathlib.Core.Path.{◌≡◌, refl, sym, ap, ◌∙◌}
use mathlib.Core.Bool.{Bool, true, false, ◌||◌}
use mathlib.Core.Logic.{⊎_elim}
use mathlib.Core.List.{List, [], ◌∷◌, ◌++◌, map-append}
use native.Mathlib.Omega.{arith}
use borrow.Author.Tests.{ltb-true, ltb-false, lt-ltb, le-ltb, eqb-true, eqb-false, eq-eqb, ne_eqb}
use lib.ListN.{length, get_or, length-map, length-replicate}
use lib.Dec.{ltb, eqb}
use Rattle.byte_strings.proofs.Bools.{cases}
use Rattle.bitfield.proofs.Bits.{with_one_lem}
use Rattle.file_format.specs.Entries.{hole, leaf}
use Rattle.file_format.specs.Slots.{Slot, held, released, is_held, slot_bytes, slot_entry, all_held, contents, held_in}
use Rattle.file_format.specs.Images.{leaves}

-- a slot's place in a list of slots
abbrev pub slot_at : List Slot → ℕ → Slot
slot_at ss k = get_or ss k (held [])

pub contents_length : (ss : List Slot) → length (contents ss) ≡ length ss
unfolding contents
contents_length ss = length-map ss slot_bytes

pub contents_at : (ss : List Slot) (k : ℕ) → get_or (contents ss) k [] ≡ slot_bytes (slot_at ss k)
unfolding contents
contents_at [] k = refl
contents_at (s ∷ ss) zero = refl
contents_at (s ∷ ss) (suc k) = contents_at ss k

pub contents_append : (ss ts : List Slot) → contents (ss ++ ts) ≡ contents ss ++ contents ts
unfolding contents
contents_append ss ts = map-append slot_bytes ss ts

-- ---- which are held

pub held_at : (ss : List Slot) (k : ℕ) → k < length ss → held_in ss k ≡ is_held (slot_at ss k)
unfolding held_in
held_at [] k h = absurd (omega arith)
held_at (s ∷ ss) zero h = refl
held_at (s ∷ ss) (suc k) h = held_at ss k (omega arith)

pub held_behind_lem : (ss : List Slot) (k : ℕ) → length ss ≤ k → held_in ss k ≡ false
unfolding held_in
held_behind_lem [] k h = refl
held_behind_lem (s ∷ ss) zero h = absurd (omega arith)
held_behind_lem (s ∷ ss) (suc k) h = held_behind_lem ss k (omega arith)

-- a slot that is held is the chunk of its bytes
held_is : (s : Slot) → is_held s ≡ true → s ≡ held (slot_bytes s)
held_is (held c) e = refl
held_is (released x) e = absurd (never e)
  where
    never : false ≡ true → ⊥
    never e = let z : ◌≡◌ {A = ℕ} 0 1 = cc in omega arith

pub held_slot : (ss : List Slot) (k : ℕ) → k < length ss → held_in ss k ≡ true → slot_at ss k ≡ held (get_or (contents ss) k [])
held_slot ss k h e = held_is (slot_at ss k) (sym (held_at ss k h) ∙ e) ∙ ap held (sym (contents_at ss k))

-- ---- a chunk sequence

pub all_length : (cs : List (List ℕ)) → length (all_held cs) ≡ length cs
unfolding all_held
all_length cs = length-map cs held

pub all_contents : (cs : List (List ℕ)) → contents (all_held cs) ≡ cs
unfolding all_held contents
all_contents [] = refl
all_contents (c ∷ cs) = ap (λ (l : List (List ℕ)). c ∷ l) (all_contents cs)

ltb_suc : (k n : ℕ) → ltb k n ≡ ltb (suc k) (suc n)
ltb_suc k n =
    ⊎_elim (λ e. e ∙ sym (lt-ltb (suc k) (suc n) (omega (arith, ltb-true k n e)))) (λ e. e ∙ sym (le-ltb (suc k) (suc n) (omega (arith, ltb-false k n e))))
    (cases (ltb k n))

pub all_held_lem : (cs : List (List ℕ)) (k : ℕ) → held_in (all_held cs) k ≡ ltb k (length cs)
unfolding all_held held_in
all_held_lem [] k = sym (le-ltb k 0 (omega arith))
all_held_lem (c ∷ cs) zero = sym (lt-ltb 0 (suc (length cs)) (omega arith))
all_held_lem (c ∷ cs) (suc k) = all_held_lem cs k ∙ ltb_suc k (length cs)

pub all_append : (cs ds : List (List ℕ)) → all_held (cs ++ ds) ≡ all_held cs ++ all_held ds
unfolding all_held
all_append cs ds = map-append held cs ds

-- slots that are all held are a chunk sequence
pub all_of : (ss : List Slot) → ((k : ℕ) → k < length ss → held_in ss k ≡ true) → ss ≡ all_held (contents ss)
unfolding all_held contents held_in
all_of [] h = refl
all_of (s ∷ ss) h = λ i. held_is s (h 0 (omega arith)) i ∷ all_of ss (λ k l. h (suc k) (omega arith)) i

-- ---- a chunk more

pub contents_snoc : (ss : List Slot) (c : List ℕ) → contents (ss ++ (held c ∷ [])) ≡ contents ss ++ (c ∷ [])
unfolding contents
contents_snoc ss c = map-append slot_bytes ss (held c ∷ [])

eqb_suc : (j n : ℕ) → eqb (suc j) (suc n) ≡ eqb j n
eqb_suc j n =
    ⊎_elim (λ e. eq-eqb (suc j) (suc n) (ap suc (eqb-true j n e)) ∙ sym e) (λ e. ne_eqb (suc j) (suc n) (λ q. eqb-false j n e (omega arith)) ∙ sym e) (cases (eqb j n))

pub held_snoc : (ss : List Slot) (c : List ℕ) (j : ℕ) → with_one_lem (held_in ss) (length ss) j ≡ held_in (ss ++ (held c ∷ [])) j
unfolding held_in
held_snoc [] c zero = refl
held_snoc [] c (suc j) = ne_eqb (suc j) 0 (λ e. omega arith)
held_snoc (s ∷ ss) c zero = ap (λ (b : Bool). is_held s || b) (ne_eqb 0 (suc (length ss)) (λ e. omega arith)) ∙ or_none (is_held s)
  where
    or_none : (b : Bool) → (b || false) ≡ b
    or_none true = refl
    or_none false = refl
held_snoc (s ∷ ss) c (suc j) = ap (λ (b : Bool). held_in ss j || b) (eqb_suc j (length ss)) ∙ held_snoc ss c j

-- ---- leaf entries

module _ (F : List ℕ → List ℕ) where
  slot_size : (s : Slot) → (slot_entry F s).size ≡ length (slot_bytes s)
  unfolding leaf
  slot_size (held c) = refl
  slot_size (released e) = sym (length-replicate {A = ℕ} e.size 0)

  pub leaves_length : (ss : List Slot) → length (leaves F ss) ≡ length ss
  unfolding leaves
  leaves_length ss = length-map ss (slot_entry F)

  pub leaf_at : (ss : List Slot) (k : ℕ) → k < length ss → get_or (leaves F ss) k hole ≡ slot_entry F (slot_at ss k)
  unfolding leaves
  leaf_at [] k h = absurd (omega arith)
  leaf_at (s ∷ ss) zero h = refl
  leaf_at (s ∷ ss) (suc k) h = leaf_at ss k (omega arith)

  pub leaf_size : (ss : List Slot) (k : ℕ) → (get_or (leaves F ss) k hole).size ≡ length (get_or (contents ss) k [])
  unfolding leaves contents hole
  leaf_size [] k = refl
  leaf_size (s ∷ ss) zero = slot_size s
  leaf_size (s ∷ ss) (suc k) = leaf_size ss k

  -- the leaf of a chunk that is held
  pub leaf_held : (ss : List Slot) (k : ℕ) → k < length ss → held_in ss k ≡ true → get_or (leaves F ss) k hole ≡ leaf F (get_or (contents ss) k [])
  leaf_held ss k h e = leaf_at ss k h ∙ ap (slot_entry F) (held_slot ss k h e)
