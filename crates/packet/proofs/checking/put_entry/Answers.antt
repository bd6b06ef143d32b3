-- `packet::checking::put_entry` meets its contract: the length goes right behind the hash. Assumes nothing.
use mathlib.Core.Path.{◌≡◌, refl}
use native.Mathlib.Omega.{arith}
use lib.ListN.{length, length-append}
use Rattle.byte_strings.specs.Numbers.{be}
use Rattle.byte_strings.proofs.Numbers.{length_be}
use Rattle.file_format.proofs.Places.{written_entry}
use borrow.Author.Rules.{rules}
use Rattle.packet.proofs.checking.put_entry.Goals as goal

pub returns : goal.returns
returns c =
    let l : length c.args.hash.now ≡ 32 = search rules in record {
      placed = written_entry c.args.row.now c.args.hash.now c.args.size refl l (search rules) c.copy_to.ensures c.be64-length.ensures
          c.copy_to-2.ensures;
      whole = omega (arith, length-append c.args.hash.now (be 8 c.args.size), length_be 8 c.args.size);
    }
