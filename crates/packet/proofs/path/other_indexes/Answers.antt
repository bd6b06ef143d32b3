use Prim.Native.Nat.{ℕ, ◌-◌, ◌<◌}
use mathlib.Core.Path.{◌≡◌, sym, ap, ◌∙◌, subst}
use native.Mathlib.Omega.{arith}
use lib.ListN.{length, get_or}
use Rattle.byte_strings.specs.Lists.{run}
use Rattle.tree_index.specs.Tree.{roots}
use Rattle.tree_index.specs.Numbers.{numbers}
use Rattle.tree_index.proofs.Numbers.{numbers_set}
use Rattle.tree_index.proofs.Roots.{length_roots_le}
use Rattle.file_format.specs.RootsByValue.{padded}
use Rattle.file_format.proofs.ByValue.{filling_none, filling_next, filling_all}
use Rattle.lookup.proofs.Capped.{root_of_lem}
use Rattle.packet.specs.Inner.{skipped, other_row}
use Rattle.packet.proofs.Rows.{skipped_below}
use Rattle.packet.proofs.path.other_indexes.Goals as goal

-- the place that is read is that of a root
other_place : (place n : ℕ) {count j from : ℕ} → place < length (roots n) → count ≡ length (roots n) → j < count - 1 → from ≡ skipped place j → from < length (roots n)
other_place place n {count} {j} h e l f =
    subst (λ (x : ℕ). x < length (roots n)) (sym f)
    (skipped_below place j (length (roots n)) (subst (λ (x : ℕ). j < x - 1) e l) h)

pub loop-j-init : goal.loop-j-init
unfolding numbers
loop-j-init c = filling_none _ _ _ (omega (arith, c.root_count-count.ensures, length_roots_le c.args.n c.requires.0))

pub offset_bounds-indexes-skipping : goal.offset_bounds-indexes-skipping
offset_bounds-indexes-skipping c =
    omega (arith, other_place _ _ c.requires.1 c.root_count-count.ensures c.loop-j-test.true c.skipping.ensures, length_roots_le c.args.n c.requires.0)

pub bounds-indexes-skipping : goal.bounds-indexes-skipping
bounds-indexes-skipping c =
    omega (arith, other_place _ _ c.requires.1 c.root_count-count.ensures c.loop-j-test.true c.skipping.ensures, length_roots_le c.args.n c.requires.0)

pub loop-j-preserved : goal.loop-j-preserved
loop-j-preserved c =
    let a = c.args in
    let l = c.loop-j in
    let is = c.root_indexes-indexes in
    let q = c.skipping in
    filling_next _ _ _ l.j (numbers l.found) l.invariant _ (get_or is.result q.result (record { 0 = 0 })).0 c.loop-j-test.true
    (root_of_lem is.result a.n q.result is.ensures (other_place _ _ c.requires.1 c.root_count-count.ensures c.loop-j-test.true q.ensures)
    ∙ ap (λ (i : ℕ). get_or (roots a.n) i 0) q.ensures)
    (numbers_set l.found l.j (get_or is.result q.result (record { 0 = 0 })))

pub returns : goal.returns
unfolding other_row
returns c =
    let a = c.args in
    filling_all _ _ _ _ _ c.loop-j.invariant c.loop-j-test.false
    ∙ ap (λ (i : ℕ). padded 0 (i - 1) (run (λ j. get_or (roots a.n) (skipped a.place j) 0) 0 (i - 1))) c.root_count-count.ensures
