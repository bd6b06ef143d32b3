-- `packet::checking::shape_right` meets its contract. Assumes nothing.
use mathlib.Core.Path.{refl}
use Rattle.packet.proofs.Shape.{counted, too_short, too_long, not_whole, not_up, all_tests}
use Rattle.packet.proofs.checking.shape_right.Goals as goal

pub returns-then-packet-lt4 : goal.returns-then-packet-lt4
returns-then-packet-lt4 c = too_short (counted refl c.sibling_count-up.ensures.same c.other_count-others.ensures.same) c.if-packet-lt4.true

pub returns-then-length-gt65536 : goal.returns-then-length-gt65536
returns-then-length-gt65536 c = too_long (counted c.read_be32-length.ensures c.sibling_count-up.ensures.same c.other_count-others.ensures.same) c.if-packet-lt4.false c.if-length-gt65536.true

pub returns-then-packet-second : goal.returns-then-packet-second
returns-then-packet-second c =
    not_whole (counted c.read_be32-length.ensures c.sibling_count-up.ensures.same c.other_count-others.ensures.same)
    c.if-packet-lt4.false c.if-length-gt65536.false c.if-packet-second.true

pub returns-then-from-up : goal.returns-then-from-up
returns-then-from-up c =
    not_up (counted c.read_be32-length.ensures c.sibling_count-up.ensures.same c.other_count-others.ensures.same)
    c.if-packet-lt4.false c.if-length-gt65536.false c.if-packet-second.false c.from.ensures c.if-from-up.true

pub returns : goal.returns
returns c =
    all_tests (counted c.read_be32-length.ensures c.sibling_count-up.ensures.same c.other_count-others.ensures.same) c.if-packet-lt4.false c.if-length-gt65536.false c.if-packet-second.false
    c.from.ensures c.if-from-up.false c.from-2.ensures
