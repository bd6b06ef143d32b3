-- `packet::checking::root_right` meets its contract. Assumes nothing.
use Rattle.byte_strings.specs.Lists.{part}
use Prim.Native.Nat.{ℕ}
use mathlib.Core.Path.{◌≡◌, ◌∙◌}
use native.Mathlib.Omega.{arith}
use Rattle.blake2b.specs.Hash.{node_hash}
use Rattle.packet.specs.Inner.{entry_of}
use Rattle.packet.proofs.Shape.{counted, sized}
use Rattle.packet.proofs.Right.{laid, siblings_row, others_row, others_in, sum_wrong, climbable, root_judged, led_to_lem}
use Rattle.packet.proofs.checking.root_right.Goals as goal

pub read_be32-length-requires : goal.read_be32-length-requires
read_be32-length-requires c = (sized c.args.packet.now c.args.n c.args.chunk.0 c.requires.shape).front

pub overflow_add-first : goal.overflow_add-first
overflow_add-first c = omega (arith, laid c.requires (counted c.read_be32-length.ensures c.sibling_count-up.ensures.same c.other_count-others.ensures.same))

pub overflow_add-second : goal.overflow_add-second
overflow_add-second c = omega (arith, laid c.requires (counted c.read_be32-length.ensures c.sibling_count-up.ensures.same c.other_count-others.ensures.same))

pub overflow_add-second-2 : goal.overflow_add-second-2
overflow_add-second-2 c = omega (arith, laid c.requires (counted c.read_be32-length.ensures c.sibling_count-up.ensures.same c.other_count-others.ensures.same))

pub overflow_add-first-2 : goal.overflow_add-first-2
overflow_add-first-2 c = omega (arith, laid c.requires (counted c.read_be32-length.ensures c.sibling_count-up.ensures.same c.other_count-others.ensures.same))

pub overflow_add-second-3 : goal.overflow_add-second-3
overflow_add-second-3 c = omega (arith, laid c.requires (counted c.read_be32-length.ensures c.sibling_count-up.ensures.same c.other_count-others.ensures.same))

pub overflow_add-first-3 : goal.overflow_add-first-3
overflow_add-first-3 c = omega (arith, laid c.requires (counted c.read_be32-length.ensures c.sibling_count-up.ensures.same c.other_count-others.ensures.same))

pub overflow_add-second-4 : goal.overflow_add-second-4
overflow_add-second-4 c = omega (arith, laid c.requires (counted c.read_be32-length.ensures c.sibling_count-up.ensures.same c.other_count-others.ensures.same))

pub slice_bounds-leaf_node-end : goal.slice_bounds-leaf_node-end
slice_bounds-leaf_node-end c = omega (arith, laid c.requires (counted c.read_be32-length.ensures c.sibling_count-up.ensures.same c.other_count-others.ensures.same))

pub add_lengths-sum-requires : goal.add_lengths-sum-requires
add_lengths-sum-requires c =
    let k = counted c.read_be32-length.ensures c.sibling_count-up.ensures.same c.other_count-others.ensures.same in
    (siblings_row c.requires k, omega (arith, laid c.requires k))

pub add_lengths-whole-requires : goal.add_lengths-whole-requires
add_lengths-whole-requires c =
    let k = counted c.read_be32-length.ensures c.sibling_count-up.ensures.same c.other_count-others.ensures.same in
    (others_row c.requires k, c.add_lengths-sum.ensures.small)

pub returns-then-whole-gt68719476736 : goal.returns-then-whole-gt68719476736
returns-then-whole-gt68719476736 c =
    let k = counted c.read_be32-length.ensures c.sibling_count-up.ensures.same c.other_count-others.ensures.same in record {
      judged = sum_wrong c.requires k node_hash c.args.root.now c.add_lengths-sum.ensures c.add_lengths-whole.ensures c.if-whole-gt68719476736.true;
      led = λ h. let z : ◌≡◌ {A = ℕ} 0 1 = cc in absurd (omega arith);
    }

pub climb-ascent-requires : goal.climb-ascent-requires
unfolding part
climb-ascent-requires c =
    climbable c.requires (counted c.read_be32-length.ensures c.sibling_count-up.ensures.same c.other_count-others.ensures.same) node_hash c.args.root.now
    c.add_lengths-sum.ensures c.add_lengths-whole.ensures c.if-whole-gt68719476736.false {e = entry_of c.leaf_node-leaf.result} c.leaf_node-leaf.ensures

pub root_hash_with-hash-requires : goal.root_hash_with-hash-requires
root_hash_with-hash-requires c = others_in c.requires (counted c.read_be32-length.ensures c.sibling_count-up.ensures.same c.other_count-others.ensures.same)

pub returns : goal.returns
unfolding part
returns c =
    let k = counted c.read_be32-length.ensures c.sibling_count-up.ensures.same c.other_count-others.ensures.same in record {
      judged = c.same-right.ensures
          ∙ root_judged c.requires k node_hash c.args.root.now c.add_lengths-sum.ensures c.add_lengths-whole.ensures
          c.if-whole-gt68719476736.false {e = entry_of c.leaf_node-leaf.result} c.leaf_node-leaf.ensures {r = entry_of c.climb-ascent.result.top}
          c.climb-ascent.ensures.above c.root_hash_with-hash.ensures;
      led = λ h.
          led_to_lem c.requires k node_hash c.args.root.now c.add_lengths-sum.ensures c.add_lengths-whole.ensures
          c.if-whole-gt68719476736.false {e = entry_of c.leaf_node-leaf.result} c.leaf_node-leaf.ensures c.climb-ascent.ensures.passed;
    }
