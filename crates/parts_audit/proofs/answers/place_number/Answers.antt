-- `parts_audit::answers::place_number` meets its contract: case by case. Assumes nothing.
use mathlib.Core.Path.{sym, ap}
use Rattle.answer_types.specs.declared.Place.{Place}
use Rattle.answer_types.specs.Meaning.{spot_of}
use Rattle.parts_audit.specs.Together.{place_number}
use Rattle.parts_audit.proofs.answers.place_number.Goals as goal

pub returns-in-Nowhere : goal.returns-in-Nowhere
returns-in-Nowhere c = sym (ap (λ (p : Place). place_number (spot_of p)) c.in-Nowhere.is)

pub returns-in-Tree : goal.returns-in-Tree
returns-in-Tree c = sym (ap (λ (p : Place). place_number (spot_of p)) c.in-Tree.is)

pub returns-in-Bitfield : goal.returns-in-Bitfield
returns-in-Bitfield c = sym (ap (λ (p : Place). place_number (spot_of p)) c.in-Bitfield.is)
