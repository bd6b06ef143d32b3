-- `writing::signing::judge_own` meets its contract. Assumes nothing.
use mathlib.Core.Path.{refl}
use borrow.Author.Tests.{eq-eqb, ne_eqb}
use Rattle.checks.proofs.Steps.{short_of, long_of_lem}
use Rattle.writing.proofs.Orders.{own_sign_answered}
use Rattle.writing.proofs.signing.judge_own.Goals as goal

pub returns-then-s-n : goal.returns-then-s-n
returns-then-s-n c =
    let a = c.args in
    own_sign_answered a.signatures.now a.n a.s (eq-eqb _ _ c.if-s-n.true) refl c.refuse.ensures

pub returns-then-signatures-used_signatures : goal.returns-then-signatures-used_signatures
returns-then-signatures-used_signatures c =
    let a = c.args in
    own_sign_answered a.signatures.now a.n a.s (ne_eqb _ _ c.if-s-n.false)
    (short_of a.signatures.now c.used_signatures.ensures c.if-signatures-used_signatures.true) c.refuse-then-signatures-used_signatures.ensures

pub returns : goal.returns
returns c =
    let a = c.args in
    own_sign_answered a.signatures.now a.n a.s (ne_eqb _ _ c.if-s-n.false)
    (long_of_lem a.signatures.now c.used_signatures.ensures c.if-signatures-used_signatures.false) refl
