-- What a copy that passes its checks has. Assumes nothing.
use mathlib.Core.Path.{◌≡◌}
use mathlib.Core.Bool.{Bool}
use Rattle.answer_types.specs.Verdict.{done}
use Rattle.lookup.specs.Inner.{FilesIn}
use Rattle.copy_checks.specs.Copy.{Copy}
use Rattle.copy_checks.specs.Checks.{copy_judged}
use Rattle.copy_checks.proofs.Steps.{copy_passed, roots_in}

pub copy_files : {partly : Bool} (c : Copy) → copy_judged c done ≡ done → FilesIn partly c.tree c.bitfield c.n
copy_files c e =
    let p = (copy_passed c done e).0.lent in record { roots = roots_in c p; bitfield = λ _. p.bitfield }
