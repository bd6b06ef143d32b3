-- The proof of the cycle of calls {descend}. Assumes nothing.
use mathlib.Core.Path.{sym, ap, ◌∙◌, subst}
use Prim.Native.Nat.{ℕ, ◌<◌}
use Rattle.tree_index.specs.Tree.{depth}
use Rattle.lookup.specs.Unknown.{first_entry}
use Rattle.lookup.specs.Inner.{within_of, known_if, followed, Lower, Way}
use Rattle.lookup.proofs.Steps.{standing_in, standing_children, standing_next, at_unknown, at_end, at_down}
use Rattle.lookup.proofs.descent.+descend.Goals as goal

pub unknown_child-requires : goal.unknown_child-requires
unknown_child-requires t c = standing_children c.requires

pub visit-requires : goal.visit-requires
visit-requires t c = standing_in c.requires

pub descend-requires : goal.descend-requires
descend-requires t c =
    let a = c.args in
    let k = c.in-Down in
    let l = subst (Lower a.tree.now a.i.0) k.is c.visit.ensures.lower in
    let w = subst (Way (within_of a.sought) a.tree.now a.i.0 a.start.0) k.is c.visit.ensures.way in
    (subst (λ (x : ℕ). depth k.child.0 < x) c.decreases l.1, standing_next c.requires (within_of a.sought) k.child.0 k.from.0 w l.0)

pub returns-in-Some : goal.returns-in-Some
returns-in-Some t c =
    let a = c.args in
    at_unknown (known_if a.partly a.bitfield.now) (within_of a.sought) a.tree.now a.start.0 a.i.0 c.in-Some.child.0
    (sym (ap first_entry c.in-Some.is) ∙ c.unknown_child.ensures)

pub returns-in-End : goal.returns-in-End
returns-in-End t c =
    let a = c.args in
    let k = c.in-End in
    let w = subst (Way (within_of a.sought) a.tree.now a.i.0 a.start.0) k.is c.visit.ensures.way in
    sym (ap (followed (within_of a.sought) a.tree.now) k.is) ∙ c.visit.ensures.same
    ∙ at_end (known_if a.partly a.bitfield.now) (within_of a.sought) a.tree.now a.start.0 a.i.0
    (sym (ap first_entry c.in-None.is) ∙ c.unknown_child.ensures) w

pub returns-in-Down : goal.returns-in-Down
returns-in-Down t c =
    let a = c.args in
    let k = c.in-Down in
    let w = subst (Way (within_of a.sought) a.tree.now a.i.0 a.start.0) k.is c.visit.ensures.way in
    c.descend.ensures
    ∙ at_down (known_if a.partly a.bitfield.now) (within_of a.sought) a.tree.now a.start.0 a.i.0 k.child.0 k.from.0
    (sym (ap first_entry c.in-None.is) ∙ c.unknown_child.ensures) w
