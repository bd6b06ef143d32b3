-- What the release ensures: the answer and the later content of the lent files, on every input.
use Rattle.std.specs.Prelude.{ℕ, ◌≡◌}
use Rattle.answer_types.specs.Verdict.{Verdict}
use Rattle.copy_checks.specs.Copy.{Copy, Files}
use Rattle.copy_release.specs.Release.{copy_release_verdict, copy_after_release}

pub record ReleasePost (c : Copy) (i : ℕ) (v : Verdict) (left : Files) : Type 0 where
  pub answer : v ≡ copy_release_verdict c i
  pub files : left ≡ copy_after_release c i
