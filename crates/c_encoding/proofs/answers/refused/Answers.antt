-- `c_encoding::answers::refused` meets its contract, by the case of the place.
use Rattle.c_encoding.proofs.Laws.{placed}
use Rattle.c_encoding.proofs.answers.refused.Goals as goal

pub returns-in-Nowhere : goal.returns-in-Nowhere
returns-in-Nowhere c = placed c.args.refusal.number _ _ c.in-Nowhere.is

pub returns-in-Tree : goal.returns-in-Tree
returns-in-Tree c = placed c.args.refusal.number _ _ c.in-Tree.is

pub returns-in-Bitfield : goal.returns-in-Bitfield
returns-in-Bitfield c = placed c.args.refusal.number _ _ c.in-Bitfield.is
