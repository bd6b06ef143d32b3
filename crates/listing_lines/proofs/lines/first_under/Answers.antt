-- `listing_lines::lines::first_under` meets its contract. Assumes nothing.
use native.Mathlib.Omega.{arith}
use Rattle.tree_index.proofs.Words.{depth_small}
use Rattle.listing_lines.proofs.Entries.{first_word}
use Rattle.listing_lines.proofs.lines.first_under.Goals as goal

pub overflow_shl-first : goal.overflow_shl-first
overflow_shl-first c = omega (arith, c.depth-d.ensures, depth_small c.args.i.0 (omega arith))

pub returns : goal.returns
returns c = first_word c.args.i.0 c.depth-d.result c.block-k.result c.requires c.depth-d.ensures c.block-k.ensures
