-- One field behind the other.
use native.Mathlib.Omega.{arith}
use Rattle.record_node.proofs.Placed.{path_room, value_room, trie_room, writers_room, number_room, node_put}
use Rattle.record_node.proofs.writing.put_node.Goals as goal

pub put_part-second-requires : goal.put_part-second-requires
put_part-second-requires c = (omega arith, path_room c.requires.fits c.args.out.now c.requires.room)

pub put_value-third-requires : goal.put_value-third-requires
put_value-third-requires c = value_room c.requires.fits _ c.requires.room c.put_part-second.ensures

pub put_bytes-fourth-requires : goal.put_bytes-fourth-requires
put_bytes-fourth-requires c = trie_room c.requires.fits _ c.requires.room c.put_part-second.ensures c.put_value-third.ensures

pub put_writers-fifth-requires : goal.put_writers-fifth-requires
put_writers-fifth-requires c = writers_room c.requires.fits _ c.requires.room c.put_part-second.ensures c.put_value-third.ensures c.put_bytes-fourth.ensures

pub put_number-requires : goal.put_number-requires
put_number-requires c =
    (omega arith, number_room c.requires.fits _ c.requires.room c.put_part-second.ensures c.put_value-third.ensures c.put_bytes-fourth.ensures c.put_writers-fifth.ensures)

pub returns : goal.returns
returns c =
    node_put c.requires.fits _ c.requires.room c.put_part-second.ensures c.put_value-third.ensures c.put_bytes-fourth.ensures c.put_writers-fifth.ensures
    c.put_number.ensures
