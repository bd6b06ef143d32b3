-- `parts_audit::answers::comes_before` meets its contract. The tests come in the definition's order. Assumes nothing.
use mathlib.Core.Path.{refl}
use Rattle.answer_types.specs.Meaning.{spot_of}
use Rattle.parts_audit.proofs.Laws.{before_number, before_other, before_place}
use Rattle.parts_audit.proofs.answers.comes_before.Goals as goal

pub returns-then-a-b : goal.returns-then-a-b
returns-then-a-b c =
    let x = c.args.a in
    let y = c.args.b in
    before_number x.number y.number (spot_of x.place) (spot_of y.place) c.if-a-b.true

pub returns-then-a-b-2 : goal.returns-then-a-b-2
returns-then-a-b-2 c =
    let x = c.args.a in
    let y = c.args.b in
    before_other x.number y.number (spot_of x.place) (spot_of y.place) c.if-a-b.false c.if-a-b-2.true

pub returns : goal.returns
returns c =
    let if2 = c.if-a-b-2 in
    let place-number = c.place_number in
    let place-number2 = c.place_number-2 in
    let x = c.args.a in
    let y = c.args.b in
    before_place x.number y.number (spot_of x.place) (spot_of y.place) c.if-a-b.false if2.false place-number.result place-number2.result _ place-number.ensures
    place-number2.ensures refl
