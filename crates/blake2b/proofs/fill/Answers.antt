use Rattle.blake2b.proofs.Filling.{copied_part, copied_all}
use native.Mathlib.Omega.{arith}
use Rattle.blake2b.proofs.fill.Goals as goal

pub returns : goal.returns
returns c =
    let a = c.args in
    copied_all _ _ _ _ _ _ (omega arith) c.requires.2
    (copied_part a.out.now a.from a.src.now a.at c.min-n.result _ c.requires.2.long (omega arith) (omega arith) c.copy_from_slice.ensures.after)
