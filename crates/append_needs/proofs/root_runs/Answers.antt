-- There are at most 20 roots.
use mathlib.Core.Path.{sym, ap, ◌∙◌}
use Prim.Native.Nat.{ℕ, ◌+◌, ◌*◌}
use native.Mathlib.Omega.{arith}
use Rattle.tree_index.proofs.Roots.{length_roots_le}
use Rattle.blake2b.specs.Hash.{blocks}
use Rattle.append_needs.proofs.Messages.{root_runs_blocks}
use Rattle.append_needs.proofs.root_runs.Goals as goal

pub returns : goal.returns
unfolding blocks
returns c = (
  c.runs_of.ensures ∙ ap (λ (k : ℕ). blocks (1 + 48 * k)) c.root_count.ensures ∙ sym (root_runs_blocks c.args.n),
  omega (arith, length_roots_le c.args.n c.requires, c.root_count.ensures, c.runs_of.ensures),
)
