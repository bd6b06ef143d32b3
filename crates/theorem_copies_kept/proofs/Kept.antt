-- The proof of `CopiesKeptForAll`. Assumes nothing.
use native.Mathlib.Omega.{arith}
use Rattle.theorem_copy_audit.proofs.Sound.{accepted_sound, sound_accepted}
use Rattle.copy_release.specs.Release.{released_copy}
use Rattle.theorem_copies_kept.specs.Theorems.{CopiesKeptForAll}
use Rattle.theorem_copies_kept.proofs.Stay.{asked, stay, long_stays}
use Rattle.theorem_copies_kept.proofs.Releases.{releases}
use Rattle.theorem_copies_kept.proofs.Leaves.{leaves_stay}

pub copies_kept : CopiesKeptForAll
copies_kept F hf =
    record {
      stays = stay F hf;
      never = λ c d w l a.
          let m = long_stays F hf c d w l in
          let short = ((accepted_sound F d a).leaf m.chunk m.below m.knows).short in
          omega (arith, m.long);
      release = λ c a i e. sound_accepted F (released_copy c i) (releases F c (accepted_sound F c a) i (asked c i e));
      leaves = leaves_stay;
    }
