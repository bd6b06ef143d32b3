-- `listing_lines::build::read` meets its contract. Assumes nothing.
use native.Mathlib.Omega.{arith}
use Rattle.listing_lines.proofs.Chunks.{read_stopped}
use Rattle.listing_lines.proofs.Begun.{input_short, input_many, read_counted, left_started}
use Rattle.listing_lines.proofs.build.read.Goals as goal

pub returns-then-input-lt4 : goal.returns-then-input-lt4
returns-then-input-lt4 c = read_stopped _ _ (input_short c.args.input.now c.if-input-lt4.true) (omega arith) (omega arith)

pub returns-then-count-gt64 : goal.returns-then-count-gt64
returns-then-count-gt64 c =
    read_stopped _ _
    (input_many c.args.input.now c.read_be32-count.result c.if-input-lt4.false c.read_be32-count.ensures (omega (arith, c.if-count-gt64.true)))
    (omega arith) (omega arith)

pub read_chunks-requires : goal.read_chunks-requires
read_chunks-requires c =
    let a = c.args in (
      c.if-input-lt4.false,
      omega (arith, c.if-count-gt64.false),
      left_started a.tree.now a.signatures.now a.bitfield.now a.content.now c.requires _ _ _ _ _ c.start.ensures,
    )

pub returns : goal.returns
returns c =
    read_counted c.args.input.now c.read_be32-count.result c.if-input-lt4.false c.read_be32-count.ensures _ _
    (omega (arith, c.if-count-gt64.false)) c.read_chunks.ensures
