-- `copy_take_in::rows::left_in_row` meets its contract. Assumes nothing.
use Prim.Native.Nat.{ℕ, ◌+◌, ◌*◌}
use mathlib.Core.Path.{◌≡◌, sym, ap, ◌∙◌}
use mathlib.Core.List.{List, map}
use native.Mathlib.Omega.{arith}
use lib.ListN.{get_or}
use Rattle.number_types.specs.declared.TreeIndex.{TreeIndex}
use Rattle.byte_strings.specs.Lists.{total}
use Rattle.tree_index.specs.Numbers.{numbers}
use Rattle.file_format.proofs.ByValue.{number_at}
use Rattle.copy_take_in.specs.TakeIn.{left_size}
use Rattle.copy_take_in.specs.Inner.{lies, row_given}
use Rattle.copy_take_in.proofs.Entries.{left_none, left_next, left_whole}
use Rattle.copy_take_in.proofs.rows.left_in_row.Goals as goal

-- what a turn adds
step : (leaf : ℕ) (row : List ℕ) (at : ℕ) (is : List TreeIndex) (j : ℕ) {x : ℕ} → x ≡ left_size leaf (lies row (at + 40 * j) (get_or is j (record { 0 = 0 })).0)
    → total (map (left_size leaf) (row_given row at (numbers is) (j + 1))) ≡ total (map (left_size leaf) (row_given row at (numbers is) j)) + x
step leaf row at is j e =
    left_next leaf row at (numbers is) j
    ∙ ap (λ (x : ℕ). total (map (left_size leaf) (row_given row at (numbers is) j)) + x)
    (ap (λ (i : ℕ). left_size leaf (lies row (at + 40 * j) i)) (number_at is j) ∙ sym e)

pub loop-j-init : goal.loop-j-init
loop-j-init c = omega (arith, left_none c.args.leaf.0 c.args.row.now c.args.at (numbers c.args.indexes))

pub overflow_add-sum : goal.overflow_add-sum
overflow_add-sum c =
    let a = c.args in
    omega (
      arith,
      step a.leaf.0 a.row.now a.at a.indexes c.loop-j.j c.left_size-sum.ensures,
      left_whole a.leaf.0 a.row.now a.at (numbers a.indexes) (c.loop-j.j + 1) a.count (omega arith),
      c.requires.sum,
    )

pub loop-j-preserved : goal.loop-j-preserved
loop-j-preserved c = let a = c.args in omega (arith, step a.leaf.0 a.row.now a.at a.indexes c.loop-j.j c.left_size-sum.ensures)

pub returns : goal.returns
returns c =
    let a = c.args in
    let e : c.loop-j.j ≡ a.count = omega arith in
    c.loop-j.invariant ∙ ap (λ (j : ℕ). a.from + total (map (left_size a.leaf.0) (row_given a.row.now a.at (numbers a.indexes) j))) e
