-- `blake2b::compress_gathered` meets its contract. The block that was gathered has the words of the message.
-- Assumes nothing.
use mathlib.Core.Path.{refl}
use mathlib.Core.List.{◌++◌}
use lib.ListN.{get_or-replicate}
use Rattle.blake2b.proofs.Blocks.{block_piece, of_block}
use borrow.Author.Rules.{rules}
use native.Mathlib.Omega.{arith}
use Rattle.blake2b.proofs.compress_gathered.Goals as goal

pub gather-requires : goal.gather-requires
gather-requires c = (search rules, record { long = refl; zeros = λ k l m. get_or-replicate 128 k 0 0 m })

pub compress_at-requires : goal.compress_at-requires
compress_at-requires c = omega (arith, c.gather.ensures.long)

pub returns : goal.returns
returns c =
    let a = c.args in
    of_block _ _ _ _ _ c.compress_at.ensures (block_piece (a.prefix.now ++ a.body.now) a.p _ c.gather.ensures)
