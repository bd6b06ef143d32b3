-- A length above what is left is above what the size leaves for it.
use lib.ListN.{length, take, get_or}
use lib.Dec.{eqb}
use Prim.Native.Nat.{ℕ, ◌<◌, ◌-◌}
use mathlib.Core.Bool.{false}
use mathlib.Core.List.{List}
use mathlib.Core.Path.{◌≡◌, sym, subst}
use native.Mathlib.Omega.{arith}
use borrow.Author.Rules.{rules}
use Rattle.byte_strings.specs.Lists.{total}
use Rattle.file_format.proofs.ByValue.{more_than}
use Rattle.file_format.proofs.roots.sizes_add_up.Goals as goal

pub returns-in_default : goal.returns-in_default
returns-in_default c =
    let j = c.loop-here.here-index in
    let count : ℕ = c.args.roots.count in
    let xs : List ℕ = take (count - 0) c.args.roots.sizes in
    let l : j < length xs = search rules in
    let f : c.loop-here.left < get_or xs j 0 = omega (arith, c.in_default.ensures) in
    let z : count - 0 ≡ count = omega arith in
    subst (λ (k : ℕ). false ≡ eqb (total (take k c.args.roots.sizes)) c.args.size) z
    (sym (more_than xs j c.loop-here.left c.args.size l c.loop-here.invariant f))
