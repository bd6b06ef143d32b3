-- `writing::starting::start` meets its contract. Assumes nothing.
use native.Mathlib.Omega.{arith}
use Rattle.writing.proofs.Answers.{start_not, start_done}
use Rattle.writing.proofs.starting.start.Goals as goal

pub returns-then-tree-lt32 : goal.returns-then-tree-lt32
returns-then-tree-lt32 c = start_not _ (λ f. omega (arith, f.tree, c.if-tree-lt32.true)) c.refuse.ensures

pub returns-then-signatures-lt32 : goal.returns-then-signatures-lt32
returns-then-signatures-lt32 c =
    start_not _ (λ f. omega (arith, f.signatures, c.if-signatures-lt32.true)) c.refuse-then-signatures-lt32.ensures

pub returns-then-bitfield-lt32 : goal.returns-then-bitfield-lt32
returns-then-bitfield-lt32 c = start_not _ (λ f. omega (arith, f.bitfield, c.if-bitfield-lt32.true)) c.refuse-then-bitfield-lt32.ensures

pub returns : goal.returns
returns c =
    let a = c.args in
    start_done a.tree.now a.signatures.now a.bitfield.now a.content.now _ _ _
    (record { tree = c.if-tree-lt32.false; signatures = c.if-signatures-lt32.false; bitfield = c.if-bitfield-lt32.false }) c.write_headers.ensures
