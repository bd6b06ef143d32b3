-- `listing_lines::build::add` meets its contract. Assumes nothing.
use mathlib.Core.Path.{refl}
use Rattle.listing_lines.proofs.Grown.{adds}
use Rattle.listing_lines.proofs.build.add.Goals as goal

pub returns : goal.returns
returns c =
    adds c.args.tree.now c.args.signatures.now c.args.bitfield.now c.args.content.now c.args.chunk.now _ c.args.n
    c.args.size _ _ _ _ _ _ _ _ _ _ _ c.requires.0 c.requires.1 refl c.append.ensures c.store_signature.ensures
