-- `packet::path::skipping` meets its contract. Assumes nothing.
use borrow.Author.Tests.{lt-ltb, le-ltb}
use Rattle.packet.proofs.path.skipping.Goals as goal

pub returns-then-j-place : goal.returns-then-j-place
returns-then-j-place c = simp (lt-ltb _ _ c.if-j-place.true)

pub returns : goal.returns
returns c = simp (le-ltb _ _ c.if-j-place.false)
