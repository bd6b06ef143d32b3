-- `audit::bits::held_behind` meets its contract. Assumes nothing.
use borrow.Author.Tests.{lt-ltb, le-ltb}
use native.Mathlib.Omega.{arith}
use Rattle.bitfield.specs.Image.{entry_count}
use Rattle.bitfield.specs.Append.{bits_place}
use Rattle.file_format.specs.Sizes.{used_bitfield}
use Rattle.checks.proofs.Steps.{and_stop, and_pass}
use Rattle.audit.specs.Audit.{held_bits}
use Rattle.audit.proofs.bits.held_behind.Goals as goal

pub returns-then-n-behind : goal.returns-then-n-behind
unfolding held_bits
returns-then-n-behind c = and_stop _ _ (le-ltb _ _ c.if-n-behind.true)

pub is_held-requires : goal.is_held-requires
unfolding bits_place used_bitfield entry_count
is_held-requires c = omega arith

pub returns : goal.returns
unfolding held_bits
returns c = and_pass _ _ c.is_held.result (lt-ltb _ _ c.if-n-behind.false) c.is_held.ensures
