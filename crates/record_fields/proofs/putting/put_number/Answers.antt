-- The tag is a byte; the number follows it.
use borrow.Author.Rules.{rules}
use native.Mathlib.Omega.{arith}
use Rattle.record_fields.proofs.Put.{number_absent, number_roomy, number_put}
use Rattle.record_fields.proofs.putting.put_number.Goals as goal

pub put_digits-requires : goal.put_digits-requires
put_digits-requires c =
    let a = c.args in
    let w = number_roomy a.k a.out.now a.at a.field _ c.in-Some.is c.requires.0 c.requires.1 in
    record { fits = search rules; room = (w (omega arith)).room }

pub returns-in-None : goal.returns-in-None
returns-in-None c = let a = c.args in number_absent a.k a.out.now a.at a.field c.in-None.is

pub returns-in-Some : goal.returns-in-Some
returns-in-Some c =
    let a = c.args in
    number_put a.k a.out.now a.at a.field _ c.in-Some.is c.requires.0 c.requires.1 _ _ c.put_digits.ensures
