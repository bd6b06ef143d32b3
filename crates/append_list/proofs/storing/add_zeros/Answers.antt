-- `append_list::storing::add_zeros` meets its contract. Assumes nothing.
use Prim.Native.Nat.{ℕ, ◌-◌, ◌*◌}
use mathlib.Core.Path.{ap, ◌∙◌}
use Rattle.byte_strings.specs.Lists.{put, zeros}
use Rattle.append_list.proofs.storing.add_zeros.Goals as goal

pub returns : goal.returns
returns c =
    let a = c.args in
    c.clear.ensures ∙ ap (λ (p : ℕ). put a.signatures.now p (zeros (64 * (a.k - 1)))) c.used_signatures-at.ensures
