-- A part of a copy's audit as the code makes it. Assumes nothing.
use Rattle.std.specs.Prelude.{Result, Err, ⊤}
use Prim.Native.Nat.{ℕ, ◌+◌, ◌-◌, ◌*◌}
use mathlib.Core.Path.{◌≡◌, sym, ap, ap₂, ◌∙◌}
use mathlib.Core.Bool.{Bool, true}
use mathlib.Core.List.{List}
use Rattle.answer_types.specs.Verdict.{Verdict, tree, bitfield, done, refused, and_then}
use Rattle.answer_types.specs.Meaning.{said}
use Rattle.answer_types.specs.declared.Refusal.{Refusal}
use Rattle.byte_strings.specs.Lists.{run}
use Rattle.byte_strings.specs.Lowest.{Lowest, nowhere, first, lowest}
use Rattle.tree_index.specs.Tree.{entries}
use Rattle.bitfield.specs.Image.{entry_count}
use Rattle.checks.specs.Checks.{judged, adds_up}
use Rattle.audit.specs.Audit.{refused_at, byte_right_by}
use Rattle.audit.specs.BitfieldEntries.{tree_bits}
use Rattle.audit.proofs.Search.{then_assoc, stops, judged_then}
use Rattle.copy_checks.specs.Copy.{Copy}
use Rattle.copy_checks.specs.Least.{least_of}
use Rattle.copy_checks.specs.Checks.{lent_checks, unknown_root, size_check, passed_over, partly_judged}
use Rattle.copy_audit.specs.Audit.{wrong_by}
use Rattle.copy_audit.proofs.Verdicts.{partly_right}
use Rattle.parts_audit.specs.Range.{lesser}
use Rattle.parts_copy_audit.specs.Part.{copy_tree_part, copy_bitfield_part}

-- the checks of a copy's audit, and what comes next
pub partly_then : (c : Copy) (next : Verdict) → partly_judged c next ≡ and_then (partly_judged c done) next
unfolding partly_judged
partly_then c next =
    let size = size_check (passed_over (unknown_root c) (adds_up c.tree c.n c.size)) in
    judged_then (lent_checks c) (judged size next) ∙ ap (and_then (judged (lent_checks c) done)) (judged_then size next)
    ∙ then_assoc (judged (lent_checks c) done) (judged size done) next
    ∙ ap (λ (v : Verdict). and_then v next) (sym (judged_then (lent_checks c) (judged size done)))

module _ (c : Copy) (x : Result ⊤ Refusal) (checked : said x ≡ partly_judged c done) where
  refuses : (next : Verdict) (m : Refusal) → x ≡ Err m → said x ≡ partly_judged c next
  refuses next m e = sym (partly_then c next ∙ ap (λ (v : Verdict). and_then v next) (sym checked) ∙ stops x m e next)

  passes : (next : Verdict) → said x ≡ done → next ≡ partly_judged c next
  passes next ok = sym (partly_then c next ∙ ap (λ (v : Verdict). and_then v next) (sym checked ∙ ok))

  module _ (a b : ℕ) where
    pub bits_refused : (m : Refusal) → x ≡ Err m → said x ≡ copy_bitfield_part c a b
    unfolding copy_bitfield_part
    bits_refused = refuses _

    pub bits_say : said x ≡ done → (v : Verdict) (end k : ℕ) → k ≡ entry_count c.n → end ≡ lesser b k
        → v ≡ refused_at 11 bitfield (lowest (byte_right_by (tree_bits true c.bitfield c.n) c.bitfield c.n) (32 + 3328 * a) (3328 * (end - a))) done
        → v ≡ copy_bitfield_part c a b
    unfolding copy_bitfield_part
    bits_say ok v end k q e u =
        u ∙ ap₂ (λ (right : ℕ → Bool) (m : ℕ). refused_at 11 bitfield (lowest right (32 + 3328 * a) (3328 * (m - a))) done) (partly_right c.bitfield c.n)
        (e ∙ ap (lesser b) q)
        ∙ passes _ ok

  module _ (F : List ℕ → List ℕ) (a b : ℕ) where
    pub entries_refused : (m : Refusal) → x ≡ Err m → said x ≡ copy_tree_part F c a b
    unfolding copy_tree_part
    entries_refused = refuses _

    module _ (ok : said x ≡ done) (l : Lowest) (end k : ℕ) (q : k ≡ entries c.n) (e : end ≡ lesser b k) (u : l ≡ least_of (run (wrong_by F c) a (end - a))) where
      pub entries_say : refused_at 10 tree l done ≡ copy_tree_part F c a b
      unfolding copy_tree_part
      entries_say =
          ap (λ (y : Lowest). refused_at 10 tree y done) (u ∙ ap (λ (m : ℕ). least_of (run (wrong_by F c) a (m - a))) (e ∙ ap (lesser b) q))
          ∙ passes _ ok

      pub entries_at : (i : ℕ) → l ≡ first i → refused 10 (tree i) ≡ copy_tree_part F c a b
      unfolding refused_at
      entries_at i f = sym (ap (λ (y : Lowest). refused_at 10 tree y done) f) ∙ entries_say

      pub entries_none : l ≡ nowhere → done ≡ copy_tree_part F c a b
      unfolding refused_at
      entries_none f = sym (ap (λ (y : Lowest). refused_at 10 tree y done) f) ∙ entries_say
