-- `packet::checking::entry_hash` meets its contract. Assumes nothing.
use mathlib.Core.Path.{◌≡◌, ap, ◌∙◌}
use Prim.Native.Nat.{ℕ, ◌+◌, ◌-◌}
use native.Mathlib.Omega.{arith}
use lib.ListN.{take, drop}
use Rattle.byte_strings.specs.Lists.{part}
use Rattle.packet.specs.Check.{entry_in}
use Rattle.packet.proofs.checking.entry_hash.Goals as goal

pub returns : goal.returns
unfolding entry_in part
returns c =
    let a = c.args in
    let e : a.at + 32 - a.at ≡ 32 = omega arith in
    c.copy_from_slice.ensures.after ∙ ap (λ (k : ℕ). take k (drop a.at a.packet.now)) e
