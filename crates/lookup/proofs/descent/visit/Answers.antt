-- `lookup::descent::visit` meets its contract: at each return the laws of one step, given what was read. Assumes nothing.
use Prim.Native.Nat.{ℕ, ◌≤◌, ◌<◌}
use mathlib.Core.Path.{◌≡◌, sym, ap, ◌∙◌, subst}
use mathlib.Core.List.{List}
use native.Mathlib.Omega.{arith}
use Rattle.tree_index.specs.Tree.{depth, left_child, right_child}
use Rattle.file_format.specs.Stored.{stored_size}
use Rattle.lookup.specs.Descent.{reached}
use Rattle.lookup.specs.Inner.{within_of}
use Rattle.lookup.proofs.Visits.{Seen, deeper, stands_entry, leaf_even, at_leaf, at_long_leaf, seen_children, seen_less, seen_other, seen_left, seen_right, seen_fits}
use Rattle.lookup.proofs.descent.visit.Goals as goal

-- what was read at a parent: its depth, its children and the three lengths
seen : {t : List ℕ} {i x l r size first second : ℕ} → x ≡ depth i → (x ≡ 0 → ⊥) → l ≡ left_child i → r ≡ right_child i
    → size ≡ stored_size t i → first ≡ stored_size t l → second ≡ stored_size t r → Seen t i l r size first second
seen {i = i} d n l r h a b = record { deep = deeper i d n; left = l; right = r; here = h; one = a; two = b }

pub stored_size-size-requires : goal.stored_size-size-requires
stored_size-size-requires c = stands_entry _ _ _ c.requires

pub depth-requires : goal.depth-requires
depth-requires c = (stands_entry _ _ _ c.requires).small

pub returns-then-size-gt65536 : goal.returns-then-size-gt65536
returns-then-size-gt65536 c =
    let a = c.args in
    let leaf = sym c.depth.ensures ∙ c.if-depth-eq0.true in
    record {
      same = sym (at_long_leaf (within_of a.sought) a.tree.now a.start.0 a.i.0 leaf (subst (λ (x : ℕ). 65536 < x) c.stored_size-size.ensures c.if-size-gt65536.true));
      lower = tt;
      way = λ p e. absurd (omega (arith, leaf));
    }

pub chunk_of_leaf-requires : goal.chunk_of_leaf-requires
chunk_of_leaf-requires c = leaf_even c.args.i.0 (sym c.depth.ensures ∙ c.if-depth-eq0.true)

pub returns-then-depth-eq0 : goal.returns-then-depth-eq0
returns-then-depth-eq0 c =
    let a = c.args in
    let leaf = sym c.depth.ensures ∙ c.if-depth-eq0.true in
    record {
      same =
          ap (λ (k : ℕ). reached k a.start.0) c.chunk_of_leaf.ensures
          ∙ sym (at_leaf (within_of a.sought) a.tree.now a.start.0 a.i.0 leaf (subst (λ (x : ℕ). x ≤ 65536) c.stored_size-size.ensures c.if-size-gt65536.false));
      lower = tt;
      way = λ p e. absurd (omega (arith, leaf));
    }

pub left_child-left-requires : goal.left_child-left-requires
left_child-left-requires c = ((stands_entry _ _ _ c.requires).small, deeper c.args.i.0 c.depth.ensures c.if-depth-eq0.false)

pub right_child-right-requires : goal.right_child-right-requires
right_child-right-requires c = ((stands_entry _ _ _ c.requires).small, deeper c.args.i.0 c.depth.ensures c.if-depth-eq0.false)

pub stored_size-first-requires : goal.stored_size-first-requires
stored_size-first-requires c = (seen_children {r = 0} c.requires (deeper c.args.i.0 c.depth.ensures c.if-depth-eq0.false)).0 c.left_child-left.ensures

pub stored_size-second-requires : goal.stored_size-second-requires
stored_size-second-requires c = (seen_children {l = 0} c.requires (deeper c.args.i.0 c.depth.ensures c.if-depth-eq0.false)).1 c.right_child-right.ensures

pub returns-then-size-first : goal.returns-then-size-first
returns-then-size-first c =
    let s = seen c.depth.ensures c.if-depth-eq0.false c.left_child-left.ensures c.right_child-right.ensures c.stored_size-size.ensures
    c.stored_size-first.ensures c.stored_size-second.ensures in
    let v = seen_less (within_of c.args.sought) c.requires s c.if-size-first.true in
    record { same = v.0; lower = tt; way = v.1 }

pub returns-then-size-first-2 : goal.returns-then-size-first-2
returns-then-size-first-2 c =
    let s = seen c.depth.ensures c.if-depth-eq0.false c.left_child-left.ensures c.right_child-right.ensures c.stored_size-size.ensures
    c.stored_size-first.ensures c.stored_size-second.ensures in
    let v = seen_other (within_of c.args.sought) c.requires s c.if-size-first-2.true in
    record { same = v.0; lower = tt; way = v.1 }

pub is_within-requires : goal.is_within-requires
is_within-requires c =
    let s = seen c.depth.ensures c.if-depth-eq0.false c.left_child-left.ensures c.right_child-right.ensures c.stored_size-size.ensures
    c.stored_size-first.ensures c.stored_size-second.ensures in (
      ((seen_children {r = 0} c.requires s.deep).0 c.left_child-left.ensures).small,
      seen_fits (within_of c.args.sought) c.requires s c.if-size-first.false c.if-size-first-2.false,
    )

pub returns-then-is_within : goal.returns-then-is_within
returns-then-is_within c =
    let s = seen c.depth.ensures c.if-depth-eq0.false c.left_child-left.ensures c.right_child-right.ensures c.stored_size-size.ensures
    c.stored_size-first.ensures c.stored_size-second.ensures in
    let v = seen_left (within_of c.args.sought) c.requires s c.if-size-first.false c.if-size-first-2.false (sym c.is_within.ensures ∙ c.if-is_within.true) in
    record { same = v.0; lower = v.1.0; way = v.1.1 }

pub returns : goal.returns
returns c =
    let s = seen c.depth.ensures c.if-depth-eq0.false c.left_child-left.ensures c.right_child-right.ensures c.stored_size-size.ensures
    c.stored_size-first.ensures c.stored_size-second.ensures in
    let v = seen_right (within_of c.args.sought) c.requires s c.if-size-first.false c.if-size-first-2.false (sym c.is_within.ensures ∙ c.if-is_within.false) in
    record { same = v.0; lower = v.1.0; way = v.1.1 }
