use Prim.Native.Nat.{ℕ, ◌+◌, ◌*◌, ◌≤◌, ◌<◌}
use mathlib.Core.Path.{sym, ap, ◌∙◌, subst}
use mathlib.Core.List.{map}
use native.Mathlib.Omega.{arith}
use lib.ListN.{length}
use Rattle.byte_strings.specs.Lowest.{nowhere}
use Rattle.tree_index.specs.Numbers.{numbers}
use Rattle.file_format.proofs.ByValue.{number_at}
use Rattle.lookup.specs.Unknown.{first_entry}
use Rattle.copy_checks.proofs.Least.{Lowering, lowering_none, lowering_next, lowering_all}
use Rattle.copy_take_in.specs.TakeIn.{contradicts}
use Rattle.copy_take_in.specs.Inner.{lies, row_given, KnowableIn}
use Rattle.copy_take_in.proofs.Entries.{row_length, row_at}
use Rattle.copy_take_in.proofs.rows.lowest_in_row.Goals as goal

pub loop-j-init : goal.loop-j-init
loop-j-init c =
    lowering_none (map (contradicts c.args.tree.now c.args.bitfield.now)
    (row_given c.args.row.now c.args.at (numbers c.args.indexes) c.args.count)) (first_entry c.args.before)

pub contradiction_at-here-requires : goal.contradiction_at-here-requires
contradiction_at-here-requires c = (
  subst (KnowableIn c.args.tree.now c.args.bitfield.now) (number_at c.args.indexes c.loop-j.j)
      (c.requires.each c.loop-j.j c.loop-j-test.true),
  omega (arith, c.requires.inside.inside, c.loop-j-test.true),
)

pub loop-j-preserved : goal.loop-j-preserved
loop-j-preserved c =
    let f = contradicts c.args.tree.now c.args.bitfield.now in
    let is = numbers c.args.indexes in
    let xs = map f (row_given c.args.row.now c.args.at is c.args.count) in
    let h : c.loop-j.j < length xs = subst (λ (k : ℕ). c.loop-j.j < k) (sym (row_length f c.args.row.now c.args.at is c.args.count)) c.loop-j-test.true in
    subst (Lowering xs (first_entry c.args.before) (c.loop-j.j + 1)) (sym c.lower_of-found.ensures)
    (lowering_next xs (first_entry c.args.before) c.loop-j.j (first_entry c.loop-j.found) (first_entry c.contradiction_at-here.result) c.loop-j.invariant h
    (c.contradiction_at-here.ensures ∙ ap (λ (i : ℕ). f (lies c.args.row.now (c.args.at + 40 * c.loop-j.j) i)) (sym (number_at c.args.indexes c.loop-j.j))
    ∙ row_at f c.args.row.now c.args.at is c.args.count c.loop-j.j nowhere c.loop-j-test.true))

pub returns : goal.returns
returns c =
    let f = contradicts c.args.tree.now c.args.bitfield.now in
    let is = numbers c.args.indexes in
    let xs = map f (row_given c.args.row.now c.args.at is c.args.count) in
    lowering_all xs (first_entry c.args.before) c.loop-j.j (first_entry c.loop-j.found) c.loop-j.invariant
    (subst (λ (k : ℕ). k ≤ c.loop-j.j) (sym (row_length f c.args.row.now c.args.at is c.args.count)) c.loop-j-test.false)
