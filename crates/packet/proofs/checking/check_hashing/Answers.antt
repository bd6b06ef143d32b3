-- `packet::checking::check_hashing` meets its contract. Assumes nothing.
use mathlib.Core.Path.{refl, sym, ap, ◌∙◌}
use native.Mathlib.Omega.{arith}
use borrow.Author.Tests.{not-true, not-false}
use Rattle.answer_types.specs.Verdict.{none, done, refused}
use Rattle.answer_types.specs.Meaning.{said}
use Rattle.blake2b.specs.Hash.{node_hash}
use Rattle.packet.proofs.Right.{handed_by, shaped, verdict_2, verdict_9, verdict_12, verdict_13, verdict_done}
use Rattle.packet.proofs.checking.check_hashing.Goals as goal

pub returns-then-n-gt1048576 : goal.returns-then-n-gt1048576
returns-then-n-gt1048576 c =
    let a = c.args in
    let e = verdict_2 node_hash a.packet.now a.n a.chunk.0 a.root.now (refused 2 none) (omega arith) refl in record {
      judged = ap said c.unhashed.ensures.same ∙ c.refuse.ensures ∙ e;
      led = handed_by node_hash a.packet.now a.n a.chunk.0 e c.unhashed.ensures.empty;
    }

pub returns-then-n-chunk : goal.returns-then-n-chunk
returns-then-n-chunk c =
    let a = c.args in
    let e = verdict_9 node_hash a.packet.now a.n a.chunk.0 a.root.now (refused 9 none) (omega arith) (omega arith) refl in record {
      judged = ap said c.unhashed-then-n-chunk.ensures.same ∙ c.refuse-then-n-chunk.ensures ∙ e;
      led = handed_by node_hash a.packet.now a.n a.chunk.0 e c.unhashed-then-n-chunk.ensures.empty;
    }

pub returns-then-not-shape_right : goal.returns-then-not-shape_right
returns-then-not-shape_right c =
    let a = c.args in
    let e = verdict_12 node_hash a.packet.now a.n a.chunk.0 a.root.now (refused 12 none) (omega arith) (omega arith)
    (sym c.shape_right.ensures ∙ c.if-not-shape_right.true) refl in record {
      judged = ap said c.unhashed-then-not-shape_right.ensures.same ∙ c.refuse-then-not-shape_right.ensures ∙ e;
      led = handed_by node_hash a.packet.now a.n a.chunk.0 e c.unhashed-then-not-shape_right.ensures.empty;
    }

pub root_right-hashed-requires : goal.root_right-hashed-requires
root_right-hashed-requires c =
    let a = c.args in
    shaped node_hash a.packet.now a.n a.chunk.0 a.root.now done (omega arith) (omega arith)
    (sym c.shape_right.ensures ∙ c.if-not-shape_right.false)

pub returns-then-not-hashed : goal.returns-then-not-hashed
returns-then-not-hashed c =
    let a = c.args in
    let e = verdict_13 node_hash a.packet.now a.n a.chunk.0 a.root.now (refused 13 none) (omega arith) (omega arith)
    (sym c.shape_right.ensures ∙ c.if-not-shape_right.false)
    (sym c.root_right-hashed.ensures.judged ∙ not-true _ c.if-not-hashed.true) refl in record {
      judged = ap said c.unhashed-then-not-hashed.ensures.same ∙ c.refuse-then-not-hashed.ensures ∙ e;
      led = handed_by node_hash a.packet.now a.n a.chunk.0 e c.unhashed-then-not-hashed.ensures.empty;
    }

pub returns : goal.returns
returns c =
    let a = c.args in
    let r = not-false _ c.if-not-hashed.false in
    let e = verdict_done node_hash a.packet.now a.n a.chunk.0 a.root.now done (omega arith) (omega arith)
    (sym c.shape_right.ensures ∙ c.if-not-shape_right.false) (sym c.root_right-hashed.ensures.judged ∙ r) refl in record {
      judged = e;
      led = handed_by node_hash a.packet.now a.n a.chunk.0 e (c.root_right-hashed.ensures.led r);
    }
