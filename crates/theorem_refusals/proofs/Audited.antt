-- The audit names the lowest wrong entry, and then the lowest wrong byte. Assumes nothing.
use Prim.Native.Nat.{ℕ, ◌-◌}
use mathlib.Core.Path.{◌≡◌, refl, sym, ap, ◌∙◌, subst}
use mathlib.Core.Bool.{Bool}
use mathlib.Core.List.{List}
use native.Mathlib.Omega.{arith}
use Rattle.answer_types.specs.Verdict.{Verdict, tree, bitfield, done, refused}
use Rattle.byte_strings.specs.Lowest.{Lowest, nowhere, first, lowest, IsLowest}
use Rattle.byte_strings.proofs.Lowest.{lowest_for_all}
use Rattle.tree_index.specs.Tree.{entries}
use Rattle.file_format.specs.Sizes.{used_bitfield}
use Rattle.file_format.specs.Belongs.{Register}
use Rattle.checks.specs.Checks.{judged, register_checks}
use Rattle.checks.proofs.Judged.{judged_done, judged_right}
use Rattle.audit.specs.Audit.{wrong_entry, wrong_byte, refused_at, images_verdict, audit}
use Rattle.theorem_refusals.specs.Refusals.{entry, byte, AuditNamesForAll}

-- ---- what is the lowest is found

module _ (right : ℕ → Bool) (i k : ℕ) where
  found_first : (j : ℕ) → IsLowest right i k (first j) → lowest right i k ≡ first j
  found_first j w = ((lowest_for_all right i k).some j).1 ((w.some j).0 refl)

  found_none : IsLowest right i k nowhere → lowest right i k ≡ nowhere
  found_none w = (lowest_for_all right i k).none.1 (w.none.0 refl)

-- ---- 10, and then 11

module _ (F : List ℕ → List ℕ) (r : Register) (checked : judged (register_checks r) done ≡ done) where
  is : (v : Verdict) → images_verdict F r ≡ v → audit F r ≡ v
  unfolding audit
  is v e = judged_right (register_checks r) (images_verdict F r) (judged_done (register_checks r) done checked).0 ∙ e

  was : (v : Verdict) → audit F r ≡ v → images_verdict F r ≡ v
  unfolding audit
  was v e = sym (judged_right (register_checks r) (images_verdict F r) (judged_done (register_checks r) done checked).0) ∙ e

  by_two : (l m : Lowest) → wrong_entry F r ≡ l → wrong_byte r ≡ m → images_verdict F r ≡ refused_at 10 tree l (refused_at 11 bitfield m done)
  unfolding images_verdict
  by_two l m e f = ap (λ (x : Lowest). refused_at 10 tree x (refused_at 11 bitfield (wrong_byte r) done)) e ∙ ap (λ (x : Lowest). refused_at 10 tree l (refused_at 11 bitfield x done)) f

  entries_tell : IsLowest (entry F r) 0 (entries r.n) (wrong_entry F r)
  unfolding wrong_entry
  entries_tell = lowest_for_all (entry F r) 0 (entries r.n)

  bytes_tell : IsLowest (byte F r) 32 (used_bitfield r.n - 32) (wrong_byte r)
  unfolding wrong_byte
  bytes_tell = lowest_for_all (byte F r) 32 (used_bitfield r.n - 32)

  -- which of the two a refusal comes from
  ten_from : (i : ℕ) (l m : Lowest) → refused_at 10 tree l (refused_at 11 bitfield m done) ≡ refused 10 (tree i) → l ≡ first i
  unfolding refused_at
  ten_from i nowhere nowhere e = absurd (let z : ◌≡◌ {A = ℕ} 0 1 = cc in omega arith)
  ten_from i nowhere (first b) e = absurd (let z : ◌≡◌ {A = ℕ} 11 10 = cc in omega arith)
  ten_from i (first j) m e = let q : j ≡ i = cc in ap first q

  eleven_from : (b : ℕ) (l m : Lowest) → refused_at 10 tree l (refused_at 11 bitfield m done) ≡ refused 11 (bitfield b) → (l ≡ nowhere) × (m ≡ first b)
  unfolding refused_at
  eleven_from b nowhere nowhere e = absurd (let z : ◌≡◌ {A = ℕ} 0 1 = cc in omega arith)
  eleven_from b nowhere (first c) e = let q : c ≡ b = cc in (refl, ap first q)
  eleven_from b (first j) m e = absurd (let z : ◌≡◌ {A = ℕ} 10 11 = cc in omega arith)

  ten_to : (i : ℕ) → audit F r ≡ refused 10 (tree i) → IsLowest (entry F r) 0 (entries r.n) (first i)
  ten_to i e =
      subst (IsLowest (entry F r) 0 (entries r.n))
      (ten_from i (wrong_entry F r) (wrong_byte r) (sym (by_two (wrong_entry F r) (wrong_byte r) refl refl) ∙ was (refused 10 (tree i)) e)) entries_tell

  ten_back : (i : ℕ) → IsLowest (entry F r) 0 (entries r.n) (first i) → audit F r ≡ refused 10 (tree i)
  unfolding wrong_entry refused_at
  ten_back i w = is (refused 10 (tree i)) (by_two (first i) (wrong_byte r) (found_first (entry F r) 0 (entries r.n) i w) refl)

  eleven_to : (b : ℕ) → audit F r ≡ refused 11 (bitfield b)
      → IsLowest (entry F r) 0 (entries r.n) nowhere × IsLowest (byte F r) 32 (used_bitfield r.n - 32) (first b)
  eleven_to b e =
      let l = eleven_from b (wrong_entry F r) (wrong_byte r) (sym (by_two (wrong_entry F r) (wrong_byte r) refl refl) ∙ was (refused 11 (bitfield b)) e) in
      (subst (IsLowest (entry F r) 0 (entries r.n)) l.0 entries_tell, subst (IsLowest (byte F r) 32 (used_bitfield r.n - 32)) l.1 bytes_tell)

  eleven_back : (b : ℕ) → IsLowest (entry F r) 0 (entries r.n) nowhere × IsLowest (byte F r) 32 (used_bitfield r.n - 32) (first b)
      → audit F r ≡ refused 11 (bitfield b)
  unfolding wrong_entry wrong_byte refused_at
  eleven_back b w =
      is (refused 11 (bitfield b))
      (by_two nowhere (first b) (found_none (entry F r) 0 (entries r.n) w.0) (found_first (byte F r) 32 (used_bitfield r.n - 32) b w.1))

pub audit_names : AuditNamesForAll
audit_names F r checked = record {
  ten = λ i. (ten_to F r checked i, ten_back F r checked i);
  eleven = λ b. (eleven_to F r checked b, eleven_back F r checked b);
}
