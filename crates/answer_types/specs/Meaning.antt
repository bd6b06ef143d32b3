-- The number and the place that a refusal stands for.
use Rattle.std.specs.Prelude.{Result, Ok, Err}
use Rattle.answer_types.specs.Verdict.{Spot, Verdict, none, tree, bitfield, done, refused}
use Rattle.answer_types.specs.declared.Place.{Place}
use Rattle.answer_types.specs.declared.Place.TheVariants.{Nowhere, Tree, Bitfield}
use Rattle.answer_types.specs.declared.Refusal.{Refusal}

abbrev pub spot_of : Place → Spot
spot_of Nowhere = none
spot_of (Tree i) = tree i.0
spot_of (Bitfield b) = bitfield b.0

abbrev pub refusal_of : Refusal → Verdict
refusal_of r = refused r.number (spot_of r.place)

-- what a call says, whatever it gives where it is done
abbrev pub said : {A : Type 0} → Result A Refusal → Verdict
said (Ok x) = done
said (Err r) = refusal_of r
