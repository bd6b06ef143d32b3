-- The tag is a byte; the length follows it, and the bytes follow that.
use native.Mathlib.Omega.{arith}
use Rattle.record_fields.proofs.Put.{part_roomy, part_next, part_room, part_put}
use Rattle.record_fields.proofs.putting.put_part.Goals as goal

pub put_digits-next-requires : goal.put_digits-next-requires
put_digits-next-requires c =
    let a = c.args in
    part_roomy a.k a.out.now a.at a.bytes.now c.requires.0 c.requires.1 (omega arith)

pub copy_to-requires : goal.copy_to-requires
copy_to-requires c =
    let a = c.args in
    part_room a.k a.out.now a.at a.bytes.now c.requires.0 c.requires.1 (omega arith) _ _ c.put_digits-next.ensures

pub overflow_add-result : goal.overflow_add-result
overflow_add-result c =
    let a = c.args in
    omega (arith, part_next a.k a.out.now a.at a.bytes.now c.requires.0 c.requires.1 (omega arith) _ _ c.put_digits-next.ensures)

pub returns : goal.returns
returns c =
    let a = c.args in
    part_put a.k a.out.now a.at a.bytes.now c.requires.0 c.requires.1 (omega arith) _ _ c.put_digits-next.ensures _ c.copy_to.ensures
