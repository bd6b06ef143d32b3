-- What an accepted copy holds can be read. Assumes nothing.
use Prim.Native.Nat.{ℕ, ◌+◌, ◌<◌}
use mathlib.Core.Path.{◌≡◌, sym, ap, ◌∙◌}
use mathlib.Core.Bool.{true}
use mathlib.Core.List.{List}
use Rattle.answer_types.specs.Verdict.{done}
use Rattle.tree_index.specs.Tree.{index}
use Rattle.bitfield.specs.Release.{stored_held}
use Rattle.file_format.specs.Messages.{leaf_message}
use Rattle.file_format.specs.Stored.{stored_hash, stored_size}
use Rattle.lookup.specs.Lookup.{found}
use Rattle.lookup.specs.Read.{verdict_found, bytes_found, hash_judged}
use Rattle.lookup.proofs.Lookups.{hash_right, as_part_lem}
use Rattle.copy_checks.specs.Copy.{Copy}
use Rattle.copy_checks.specs.Checks.{copy_judged}
use Rattle.copy_checks.proofs.Steps.{copy_passed}
use Rattle.copy_lookup.specs.Reading.{copy_read_found, copy_read_verdict, copy_read_part}
use Rattle.copy_lookup.proofs.AsRegister.{held_found_at}
use Rattle.theorem_copy_audit.specs.Theorems.{LeafSound, Sound}

module _ (F : List ℕ → List ℕ) (c : Copy) (s : Sound F c) (e : copy_judged c done ≡ done) (k : ℕ) (below : k < c.n) (h : stored_held c.bitfield k ≡ true) where
  sound : LeafSound F c k
  sound = s.leaf k below (s.held_known k below h)

  abbrev size : ℕ
  size = stored_size c.tree (index 0 k)

  read_found_lem : copy_read_found F c k ≡ found sound.start (sound.start + size)
  unfolding copy_read_found
  read_found_lem =
      ap (hash_judged F c.tree c.content k) (held_found_at c k (copy_passed c done e).0 below h sound.comes)
      ∙ hash_right F c.tree c.content k sound.start size (sound.held h)

  pub read_done_lem : copy_read_verdict F c k ≡ done
  unfolding copy_read_verdict
  read_done_lem = ap verdict_found read_found_lem

  pub read_hash : stored_hash c.tree (index 0 k) ≡ F (leaf_message (copy_read_part F c k))
  unfolding copy_read_part
  read_hash =
      sound.held h ∙ sym (ap (λ (l : List ℕ). F (leaf_message l)) (ap (bytes_found c.content) read_found_lem ∙ as_part_lem c.content sound.start size))
