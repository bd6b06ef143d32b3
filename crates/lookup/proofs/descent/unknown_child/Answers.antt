-- `lookup::descent::unknown_child` meets its contract: the left child is looked at first. Assumes nothing.
use mathlib.Core.Path.{sym, ap, ◌∙◌, subst}
use mathlib.Core.Bool.{Bool}
use mathlib.Core.List.{[], ◌∷◌}
use Rattle.byte_strings.specs.Lowest.{first}
use Rattle.tree_index.specs.Tree.{depth, left_child, right_child}
use Rattle.lookup.specs.Unknown.{first_unknown, children_read}
use Rattle.lookup.specs.Inner.{known_if, BitIn}
use Rattle.lookup.proofs.Visits.{deeper}
use Rattle.lookup.proofs.Unknown.{first_known, first_unknown_lem, all_known, children_leaf, children_parent}
use Rattle.lookup.proofs.descent.unknown_child.Goals as goal

pub returns-then-not-partly : goal.returns-then-not-partly
returns-then-not-partly c =
    let a = c.args in
    let is = children_read (depth a.i.0) a.i.0 in
    sym (ap (λ (p : Bool). first_unknown (known_if p a.bitfield.now) is) (c.if-not-partly.true) ∙ all_known is)

pub returns-then-depth-eq0 : goal.returns-then-depth-eq0
unfolding first_unknown
returns-then-depth-eq0 c =
    let a = c.args in
    sym (ap (first_unknown (known_if a.partly a.bitfield.now)) (children_leaf a.i.0 (sym c.depth.ensures ∙ c.if-depth-eq0.true)))

pub left_child-left-requires : goal.left_child-left-requires
left_child-left-requires c = (c.requires.small, deeper _ c.depth.ensures c.if-depth-eq0.false)

pub is_known-requires : goal.is_known-requires
is_known-requires c =
    subst (BitIn c.args.partly c.args.bitfield.now) (sym c.left_child-left.ensures) (c.requires.left (deeper _ c.depth.ensures c.if-depth-eq0.false))

pub returns-then-not-is_known : goal.returns-then-not-is_known
returns-then-not-is_known c =
    let a = c.args in
    let k = known_if a.partly a.bitfield.now in
    let l = c.left_child-left.ensures in
    ap first l
    ∙ sym (first_unknown_lem k (left_child a.i.0) (right_child a.i.0 ∷ []) (sym (c.if-not-is_known.true) ∙ c.is_known.ensures ∙ ap k l))
    ∙ sym (ap (first_unknown k) (children_parent a.i.0 (deeper _ c.depth.ensures c.if-depth-eq0.false)))

pub right_child-right-requires : goal.right_child-right-requires
right_child-right-requires c = (c.requires.small, deeper _ c.depth.ensures c.if-depth-eq0.false)

pub is_known-requires-2 : goal.is_known-requires-2
is_known-requires-2 c =
    subst (BitIn c.args.partly c.args.bitfield.now) (sym c.right_child-right.ensures) (c.requires.right (deeper _ c.depth.ensures c.if-depth-eq0.false))

pub returns-then-not-is_known-2 : goal.returns-then-not-is_known-2
returns-then-not-is_known-2 c =
    let a = c.args in
    let k = known_if a.partly a.bitfield.now in
    let r = c.right_child-right.ensures in
    ap first r
    ∙ sym (first_unknown_lem k (right_child a.i.0) [] (sym (c.if-not-is_known-2.true) ∙ c.is_known-2.ensures ∙ ap k r))
    ∙ sym (first_known k (left_child a.i.0) (right_child a.i.0 ∷ []) (sym (c.if-not-is_known.false) ∙ c.is_known.ensures ∙ ap k c.left_child-left.ensures))
    ∙ sym (ap (first_unknown k) (children_parent a.i.0 (deeper _ c.depth.ensures c.if-depth-eq0.false)))

pub returns : goal.returns
unfolding first_unknown
returns c =
    let a = c.args in
    let k = known_if a.partly a.bitfield.now in
    sym (first_known k (right_child a.i.0) [] (sym (c.if-not-is_known-2.false) ∙ c.is_known-2.ensures ∙ ap k c.right_child-right.ensures))
    ∙ sym (first_known k (left_child a.i.0) (right_child a.i.0 ∷ []) (sym (c.if-not-is_known.false) ∙ c.is_known.ensures ∙ ap k c.left_child-left.ensures))
    ∙ sym (ap (first_unknown k) (children_parent a.i.0 (deeper _ c.depth.ensures c.if-depth-eq0.false)))
