use Prim.Native.Nat.{ℕ, ◌+◌, ◌≤◌, ◌<◌}
use mathlib.Core.List.{List}
use mathlib.Core.Path.{◌≡◌, sym, ap, ◌∙◌, subst}
use native.Mathlib.Omega.{arith}
use lib.ListN.{length, get_or}
use Rattle.byte_strings.specs.Lists.{put}
use Rattle.tree_index.specs.Numbers.{numbers}
use Rattle.file_format.specs.Sizes.{entry_place}
use Rattle.file_format.specs.Inner.{EntryIn, EntriesIn}
use Rattle.number_types.specs.declared.TreeIndex.{TreeIndex}
use Rattle.file_format.proofs.ByValue.{number_at}
use Rattle.packet.specs.Inner.{entries_at}
use Rattle.packet.proofs.Rows.{writing_none, writing_next, lent_entry, lent_length}
use Rattle.packet.proofs.making.write_entries.Goals as goal

-- an entry of the row lies in the tree file, where it begins
lies : {t : List ℕ} (is : List TreeIndex) {k j start : ℕ} → EntriesIn t (numbers is) k → j < k → start ≡ entry_place (get_or is j (record { 0 = 0 })).0 → start + 40 ≤ length t
lies {t} is {j = j} w h e = subst (λ (x : ℕ). x + 40 ≤ length t) (sym e) (subst (EntryIn t) (number_at is j) (w.each j h)).inside

pub loop-j-init : goal.loop-j-init
loop-j-init c = let a = c.args in writing_none a.tree.now (numbers a.indexes) a.out.now a.at

pub entry_place-start-requires : goal.entry_place-start-requires
entry_place-start-requires c = (subst (EntryIn c.args.tree.now) (number_at c.args.indexes c.loop-j.j) (c.requires.0.each c.loop-j.j c.loop-j-test.true)).small

pub overflow_add-end : goal.overflow_add-end
overflow_add-end c =
    omega (arith, lies _ c.requires.0 c.loop-j-test.true c.entry_place-start.ensures)

pub slice_bounds-copy_to-end : goal.slice_bounds-copy_to-end
slice_bounds-copy_to-end c =
    omega (arith, lies _ c.requires.0 c.loop-j-test.true c.entry_place-start.ensures)

pub copy_to-requires : goal.copy_to-requires
copy_to-requires c =
    omega (
      arith,
      c.requires.1,
      c.loop-j.invariant.long,
      lent_length c.args.tree.now c.entry_place-start.result (lies _ c.requires.0 c.loop-j-test.true c.entry_place-start.ensures),
    )

pub loop-j-preserved : goal.loop-j-preserved
loop-j-preserved c =
    let a = c.args in
    let l = c.loop-j in
    let p = c.entry_place-start in
    writing_next a.tree.now (numbers a.indexes) a.out.now a.at a.count l.j l.out c.copy_to.new.dst _ c.requires.0
    c.loop-j-test.true c.requires.1 l.invariant c.copy_to.auto.dst
    (lent_entry a.tree.now p.result (entry_place (get_or (numbers a.indexes) l.j 0)) (p.ensures ∙ ap entry_place (sym (number_at a.indexes l.j))))
    c.copy_to.ensures

pub returns : goal.returns
returns c =
    let a = c.args in
    let e : c.loop-j.j ≡ a.count = omega arith in
    c.loop-j.invariant.holds ∙ ap (λ (i : ℕ). put a.out.now a.at (entries_at a.tree.now (numbers a.indexes) i)) e
