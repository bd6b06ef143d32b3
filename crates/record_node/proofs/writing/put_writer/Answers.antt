-- The key, and behind it the permission.
use native.Mathlib.Omega.{arith}
use Rattle.record_node.proofs.Placed.{key_room, permission_room, writer_put}
use Rattle.record_node.proofs.writing.put_writer.Goals as goal

pub put_part-second-requires : goal.put_part-second-requires
put_part-second-requires c = (omega arith, key_room c.requires)

pub put_bytes-requires : goal.put_bytes-requires
put_bytes-requires c = permission_room c.requires c.put_part-second.ensures

pub returns : goal.returns
returns c = writer_put c.requires c.put_part-second.ensures c.put_bytes.ensures
