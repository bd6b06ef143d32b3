-- `copy_audit::entries::parent_right` meets its contract. Assumes nothing.
use Prim.Native.Nat.{ℕ, ◌+◌, ◌/◌, ◌≤◌}
use mathlib.Core.Path.{◌≡◌, sym, ap, ◌∙◌, subst}
use mathlib.Core.Bool.{Bool}
use mathlib.Core.List.{List}
use lib.ListN.{length}
use Rattle.bitfield.specs.Append.{bits_place}
use Rattle.bitfield.specs.Known.{stored_known}
use Rattle.copy_audit.proofs.Judged.{left_unknown, right_unknown, both_known_lem}
use Rattle.copy_audit.proofs.entries.parent_right.Goals as goal

-- the bit of a child lies in the file, and is what the code reads
child_bit : (bits : List ℕ) {i j : ℕ} → j ≡ i → bits_place (i / 16384 + 1) ≤ length bits → bits_place (j / 16384 + 1) ≤ length bits
child_bit bits e h = subst (λ (k : ℕ). bits_place (k / 16384 + 1) ≤ length bits) (sym e) h

child_known : (bits : List ℕ) {i j : ℕ} {r b : Bool} → j ≡ i → r ≡ stored_known bits j → r ≡ b → stored_known bits i ≡ b
child_known bits e q h = ap (stored_known bits) (sym e) ∙ sym q ∙ h

pub is_known-requires : goal.is_known-requires
is_known-requires c = child_bit c.args.bitfield.now c.left_child-left.ensures c.requires.left

pub returns-then-not-is_known : goal.returns-then-not-is_known
returns-then-not-is_known c = left_unknown _ _ _ (child_known c.args.bitfield.now c.left_child-left.ensures c.is_known.ensures c.if-not-is_known.true)

pub is_known-requires-2 : goal.is_known-requires-2
is_known-requires-2 c = child_bit c.args.bitfield.now c.right_child-right.ensures c.requires.right

pub returns-then-not-is_known-2 : goal.returns-then-not-is_known-2
returns-then-not-is_known-2 c =
    right_unknown _ _ _ (child_known c.args.bitfield.now c.left_child-left.ensures c.is_known.ensures c.if-not-is_known.false)
    (child_known c.args.bitfield.now c.right_child-right.ensures c.is_known-2.ensures c.if-not-is_known-2.true)

pub returns : goal.returns
returns c =
    both_known_lem _ _ _ c.parent_right.result
    (child_known c.args.bitfield.now c.left_child-left.ensures c.is_known.ensures c.if-not-is_known.false)
    (child_known c.args.bitfield.now c.right_child-right.ensures c.is_known-2.ensures c.if-not-is_known-2.false)
    c.parent_right.ensures
