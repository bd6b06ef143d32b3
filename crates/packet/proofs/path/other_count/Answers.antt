-- `packet::path::other_count` meets its contract. Assumes nothing.
use Prim.Native.Nat.{ℕ, ◌-◌}
use mathlib.Core.Path.{sym, ap, ◌∙◌}
use native.Mathlib.Omega.{arith}
use Rattle.packet.proofs.Above.{place_below, other_count_lem, few_others}
use Rattle.packet.proofs.path.other_count.Goals as goal

pub overflow_sub-result : goal.overflow_sub-result
overflow_sub-result c = let a = c.args in omega (arith, place_below a.n a.chunk.0 c.requires, c.root_count.ensures)

pub returns : goal.returns
returns c =
    let a = c.args in record {
      same = ap (λ (x : ℕ). x - 1) c.root_count.ensures ∙ sym (other_count_lem a.n a.chunk.0 c.requires);
      few = omega (arith, c.root_count.ensures, other_count_lem a.n a.chunk.0 c.requires, few_others a.n a.chunk.0 c.requires);
    }
