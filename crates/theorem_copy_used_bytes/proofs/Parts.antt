-- The parts of an audit get the same of a copy and of the same cut to its used sizes. Assumes nothing.
use Prim.Native.Nat.{ℕ, ◌+◌, ◌*◌, ◌<◌}
use mathlib.Core.Path.{◌≡◌, ap, ◌∙◌}
use mathlib.Core.List.{List}
use Rattle.answer_types.specs.Verdict.{tree, bitfield, done}
use Rattle.byte_strings.specs.Lists.{run}
use Rattle.byte_strings.specs.Lowest.{Lowest, lowest}
use Rattle.byte_strings.proofs.Lists.{run_ext}
use Rattle.byte_strings.proofs.Lowest.{lowest_agree}
use Rattle.tree_index.specs.Tree.{entries}
use Rattle.bitfield.specs.Image.{entry_count}
use Rattle.file_format.specs.Sizes.{used_bitfield}
use Rattle.audit.specs.Audit.{refused_at}
use Rattle.parts_audit.specs.Range.{within}
use Rattle.theorem_used_bytes.proofs.Ranges.{index_within, byte_within_lem}
use Rattle.copy_checks.specs.Copy.{Copy}
use Rattle.copy_checks.specs.Least.{least_of}
use Rattle.copy_checks.specs.Checks.{partly_judged}
use Rattle.copy_audit.specs.Audit.{wrong_by, copy_byte_right}
use Rattle.parts_copy_audit.specs.Part.{copy_tree_part, copy_bitfield_part}
use Rattle.theorem_copy_used_bytes.specs.Parts.{PartsUsed}
use Rattle.theorem_copy_used_bytes.proofs.Cut.{cut_copy, partly_cut}
use Rattle.theorem_copy_used_bytes.proofs.Audits.{by, byte_cut}
use Rattle.theorem_copy_used_bytes.proofs.UsedBytes.{by_cut}

module _ (F : List ℕ → List ℕ) (c : Copy) (a b : ℕ) where
  tree_part_cut : copy_tree_part F (cut_copy c) a b ≡ copy_tree_part F c a b
  unfolding copy_tree_part
  tree_part_cut =
      partly_cut c (refused_at 10 tree (least_of (run (wrong_by F (cut_copy c)) a (within (entries c.n) a b))) done)
      ∙ ap (λ (l : List Lowest). partly_judged c (refused_at 10 tree (least_of l) done))
      (run_ext (wrong_by F (cut_copy c)) (wrong_by F c) a (within (entries c.n) a b) (λ j p q. by F c j (index_within (entries c.n) a b j p q)))

  in_bitfield : (j : ℕ) → j < 32 + 3328 * entry_count c.n → j < used_bitfield c.n
  unfolding used_bitfield
  in_bitfield j h = h

  bitfield_part_cut : copy_bitfield_part (cut_copy c) a b ≡ copy_bitfield_part c a b
  unfolding copy_bitfield_part
  bitfield_part_cut =
      partly_cut c (refused_at 11 bitfield (lowest (copy_byte_right (cut_copy c).bitfield c.n) (32 + 3328 * a) (3328 * within (entry_count c.n) a b)) done)
      ∙ ap (λ (l : Lowest). partly_judged c (refused_at 11 bitfield l done))
      (lowest_agree (copy_byte_right (cut_copy c).bitfield c.n) (copy_byte_right c.bitfield c.n) (32 + 3328 * a) (3328 * within (entry_count c.n) a b)
      (λ j p q before. byte_cut F c j (in_bitfield j (byte_within_lem (entry_count c.n) a b j p q))))

pub parts_used : PartsUsed
parts_used F x y h =
    record {
      tree = λ i j. by_cut (λ c. copy_tree_part F c i j) (λ c. tree_part_cut F c i j) x y h;
      bitfield = λ i j. by_cut (λ c. copy_bitfield_part c i j) (λ c. bitfield_part_cut F c i j) x y h;
    }
