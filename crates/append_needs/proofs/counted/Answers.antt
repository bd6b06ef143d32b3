-- The numbers one by one.
use mathlib.Core.Path.{refl}
use Rattle.append_needs.proofs.Answers.{all_numbers}
use Rattle.append_needs.proofs.counted.Goals as goal

pub returns : goal.returns
returns c =
    record {
      numbers = all_numbers c.args.n c.args.size c.args.lengths.now _ _ _ _ _ _ _ c.used_tree.ensures
          c.used_signatures.ensures c.used_bitfield.ensures c.new_bytes.ensures.0
          c.leaf_runs-leaves.ensures.0 c.parent_runs-parents.ensures.0 c.root_runs-root.ensures.0;
      runs = refl;
    }
