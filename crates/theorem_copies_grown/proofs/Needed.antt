-- Both conditions are needed.
-- Assumes nothing.
use Prim.Native.Nat.{ℕ, zero, suc, ◌≤◌, ◌<◌}
use mathlib.Core.Path.{◌≡◌, refl, sym, ap, ap₂, ◌∙◌, subst}
use mathlib.Core.Bool.{Bool, true, false, cond, ◌&&◌}
use mathlib.Core.Logic.{◌⊎◌, inl, inr}
use mathlib.Core.List.{List, [], ◌∷◌}
use native.Mathlib.Nat.{zero-add}
use native.Mathlib.Omega.{arith}
use borrow.Author.Tests.{leb-true, leb-false, ne_eqb}
use lib.Dec.{leb, eqb}
use Rattle.answer_types.specs.Verdict.{Verdict, none, tree, bitfield, done, refused}
use Rattle.byte_strings.specs.Lists.{total, Bytes}
use Rattle.byte_strings.specs.Lowest.{Lowest, nowhere}
use Rattle.byte_strings.proofs.Lowest.{never_first}
use Rattle.tree_index.specs.Tree.{index, depth, block, filled, root_of, roots_below, roots, entries}
use Rattle.tree_index.proofs.Index.{depth_index, block_index, index_of}
use Rattle.tree_index.proofs.Filled.{filled_below}
use Rattle.bitfield.specs.Image.{entry_count}
use Rattle.bitfield.specs.Known.{stored_known}
use Rattle.file_format.specs.Sizes.{longest_chunk}
use Rattle.file_format.specs.Messages.{HashFunction}
use Rattle.file_format.specs.Stored.{stored_size, stored_root_sizes}
use Rattle.checks.specs.Checks.{judged, adds_up}
use Rattle.audit.specs.Audit.{hole_right, refused_at, leaf_from}
use Rattle.audit.proofs.Audited.{at_must}
use Rattle.lookup.specs.Descent.{Ending, stopped, reached, unknown}
use Rattle.copy_checks.specs.Copy.{Copy, known}
use Rattle.lookup.specs.Unknown.{first_unknown}
use Rattle.copy_checks.specs.Checks.{size_check, unknown_root, passed_over, partly_judged}
use Rattle.copy_checks.proofs.Least.{least_each}
use Rattle.copy_checks.proofs.Steps.{Lent, lent_passes, partly_passed}
use Rattle.copy_make.specs.Make.{make_verdict, made_copy}
use Rattle.copy_make.proofs.Calls.{roomy}
use Rattle.copy_take_in.specs.TakeIn.{Given, lying, take_verdict, taken_in, brought}
use Rattle.copy_checks.specs.Descents.{copy_to_chunk}
use Rattle.copy_audit.specs.Audit.{wrong_unless, wrong_from, wrong_by_leaf, wrong_by_parent, wrong_by_known}
use Rattle.copy_audit.specs.Audit.{wrong_by_unknown, wrong_by, wrong_entry_of_copy, wrong_byte_of_copy, audit_copy, AcceptedCopy}
use Rattle.byte_strings.proofs.Members.{In}
use Rattle.byte_strings.proofs.Bools.{both_true}
use Rattle.file_format.proofs.Shown.{shown_known}
use Rattle.theorem_taking_laws.proofs.Brought.{lying_brought}
use Rattle.theorem_taking_laws.proofs.Among.{brought_filled}
use Rattle.theorem_released_back.proofs.Took.{took}
use Rattle.theorem_copies_grown.specs.Grown.{leaf_short, leaves_short, Grown}
use Rattle.theorem_copies_grown.specs.Needed.{NeededForAll}
use Rattle.theorem_copies_grown.proofs.TakenEntries.{Taking, there, holds}
use Rattle.theorem_copies_grown.proofs.KnownNow.{now, holds_now, bits_now, new_now, entry_place_lem}
use Rattle.theorem_copies_grown.proofs.Begins.{made_lent}
use Rattle.theorem_copies_grown.proofs.Grown.{grown_grows}
use Rattle.copy_audit.specs.Audit.{leaf_right_from}
use Rattle.copy_audit.proofs.Judged.{unless_right}

-- ---- no chunks, and a data size

no_sum : (t : List ℕ) (n size : ℕ) → n ≡ 0 → (size ≡ 0 → ⊥) → adds_up t n size ≡ false
unfolding adds_up stored_root_sizes roots roots_below root_of total
no_sum t n size e h = subst (λ (m : ℕ). eqb (total (stored_root_sizes t m)) size ≡ false) (sym e) (ne_eqb 0 size (λ z. h (sym z)))

no_root : (knows : ℕ → Bool) (n : ℕ) → n ≡ 0 → first_unknown knows (roots n) ≡ nowhere
unfolding first_unknown roots roots_below root_of
no_root knows n e = ap (λ (m : ℕ). first_unknown knows (roots m)) e

sized_copy : (c : Copy) (next : Verdict) → Lent c → c.n ≡ 0 → (c.size ≡ 0 → ⊥) → partly_judged c next ≡ refused 6 none
unfolding partly_judged unknown_root judged
sized_copy c next l e h =
    lent_passes c (judged (size_check (passed_over (unknown_root c) (adds_up c.tree c.n c.size))) next) l
    ∙ ap₂ (λ (x : Lowest) (b : Bool). judged (size_check (passed_over x b)) next) (no_root (known c) c.n e) (no_sum c.tree c.n c.size e h)

-- ---- a longer leaf

-- one of the given entries is a longer leaf
long_leaf : (gs : List Given) → leaves_short gs ≡ false → (x : Given) × In x gs × (depth x.at ≡ 0) × (longest_chunk < x.entry.size)
unfolding leaves_short leaf_short In
long_leaf [] e = absurd (let z : ◌≡◌ {A = ℕ} 0 1 = cc in omega arith)
long_leaf (y ∷ gs) e = pick (long_leaf gs) (leaf_short y) refl e
  where
    own : (d : ℕ) → depth y.at ≡ d → elim d [ zero ↦ leb y.entry.size longest_chunk | suc k ↦ true ] ≡ false → (depth y.at ≡ 0) × (longest_chunk < y.entry.size)
    own zero f q = (f, leb-false y.entry.size longest_chunk q)
    own (suc d) f q = absurd (let z : ◌≡◌ {A = ℕ} 0 1 = cc in omega arith)

    pick : (leaves_short gs ≡ false → (x : Given) × In x gs × (depth x.at ≡ 0) × (longest_chunk < x.entry.size)) → (b : Bool) → leaf_short y ≡ b
        → (b && leaves_short gs) ≡ false → (x : Given) × ((y ≡ x) ⊎ In x gs) × (depth x.at ≡ 0) × (longest_chunk < x.entry.size)
    pick rec true f q = let r = rec q in (r.0, inr r.1, r.2, r.3)
    pick rec false f q = let o = own (depth y.at) refl f in (y, inl refl, o.0, o.1)

module _ (F : List ℕ → List ℕ) (c : Copy) (a : AcceptedCopy F c) where
  -- in an accepted copy a known leaf is no longer than a chunk may be
  all_right : (i : ℕ) → i < entries c.n → wrong_by F c i ≡ nowhere
  unfolding audit_copy wrong_entry_of_copy
  all_right i h =
      let next : Verdict = refused_at 11 bitfield (wrong_byte_of_copy c) done in
      let b = partly_passed c (refused_at 10 tree (wrong_entry_of_copy F c) next) a in
      let d = at_must 10 tree (wrong_entry_of_copy F c) next b.1.1 in
      ap (wrong_by F c) (sym (zero-add i)) ∙ least_each (wrong_by F c) 0 (entries c.n) d.0 i h

  known_right : (i : ℕ) → filled c.n i ≡ true → known c i ≡ true → wrong_by_known F c i ≡ nowhere
  unfolding wrong_by
  known_right i f e =
      sym (ap₂ by f e) ∙ all_right i (filled_below c.n i f)
    where
      by : Bool → Bool → Lowest
      by x y = cond x (cond y (wrong_by_known F c i) (wrong_by_unknown F c i)) (wrong_unless (hole_right F c.tree i) i)

  pub leaf_fits : (k : ℕ) → filled c.n (index 0 k) ≡ true → known c (index 0 k) ≡ true → stored_size c.tree (index 0 k) ≤ longest_chunk
  unfolding wrong_by_known wrong_by_leaf wrong_from leaf_from
  leaf_fits k f e =
      leaf (copy_to_chunk c k) (sym (ap₂ which (depth_index 0 k) (block_index 0 k)) ∙ known_right (index 0 k) f e)
    where
      which : ℕ → ℕ → Lowest
      which d b = elim d [ zero ↦ wrong_by_leaf F c b | suc x ↦ wrong_by_parent F c (index 0 k) ]

      leaf : (y : Ending) → wrong_from F c k y ≡ nowhere → stored_size c.tree (index 0 k) ≤ longest_chunk
      leaf (unknown i) q = never_first (index 0 k) q
      leaf (stopped i) q = never_first i q
      leaf (reached j s) q =
          leb-true (stored_size c.tree (index 0 k)) longest_chunk (both_true _ _ (unless_right (leaf_right_from F c k s) (index 0 k) q)).0

module _ (F : List ℕ → List ℕ) (hf : HashFunction F) where
  long_refused : (c : Copy) → Grown F c → (p : List ℕ) (i : ℕ) (root : List ℕ) → Bytes p → take_verdict F c p i root ≡ done
      → leaves_short (lying p c.n i) ≡ false → AcceptedCopy F (taken_in F c p i) → ⊥
  unfolding taken_in entries entry_count
  long_refused c w p i root b e s a =
      let g = grown_grows F hf c w in
      let tg : Taking F c p i = record { hash = hf; grows = g; bytes = b; took = took F c p i root e } in
      let q = long_leaf (lying p c.n i) s in
      let x : Given = q.0 in
      let k : ℕ = block x.at in
      let m : In x (brought F p c.n i) = lying_brought F p c.n i x q.1 in
      let here : index 0 k ≡ x.at = ap (λ (d : ℕ). index d k) (sym q.2) ∙ index_of x.at in
      let f : filled c.n x.at ≡ true = brought_filled c.n i (there tg) F p x m in
      let l : x.at < entries c.n = filled_below c.n x.at f in
      let y : known (taken_in F c p i) x.at ≡ true =
      ap (λ (z : List ℕ). stored_known z x.at) (bits_now tg)
      ∙ shown_known (holds_now tg) (now tg) c.n g.tail x.at (omega arith)
      ∙ new_now tg x.at (entry_place_lem tg x.at x.entry m) in
      let fits : stored_size (taken_in F c p i).tree (index 0 k) ≤ longest_chunk =
      leaf_fits F (taken_in F c p i) a k (ap (filled c.n) here ∙ f) (ap (known (taken_in F c p i)) here ∙ y) in
      let size : stored_size (taken_in F c p i).tree (index 0 k) ≡ x.entry.size =
      ap (stored_size (taken_in F c p i).tree) here ∙ (holds tg x m).size in
      omega (arith, q.3)

  size_refused : (c : Copy) → make_verdict c ≡ done → c.n ≡ 0 → (c.size ≡ 0 → ⊥) → audit_copy F (made_copy c) ≡ refused 6 none
  unfolding audit_copy made_copy
  size_refused c e z h =
      sized_copy (made_copy c) (refused_at 10 tree (wrong_entry_of_copy F (made_copy c)) (refused_at 11 bitfield (wrong_byte_of_copy (made_copy c)) done))
      (made_lent F c (roomy c (sym e))) z h

pub needed : NeededForAll
needed F hf = record { size = size_refused F hf; leaves = long_refused F hf }
