-- The release on a copy.
use Rattle.std.specs.Prelude.{ℕ}
use Rattle.answer_types.specs.Verdict.{Verdict, unless_refused}
use Rattle.lookup.specs.Read.{verdict_found}
use Rattle.release.specs.Release.{released_register}
use Rattle.copy_checks.specs.Copy.{Copy, Files, files_of, unsigned, lent_as_copy}
use Rattle.copy_lookup.specs.Lookups.{copy_held_place_of}

-- the refusals of the place of a chunk that is held
unfoldable pub copy_release_verdict : Copy → ℕ → Verdict
copy_release_verdict c i = verdict_found (copy_held_place_of c i)

unfoldable pub released_copy : Copy → ℕ → Copy
released_copy c i = lent_as_copy (released_register (unsigned c) i)

unfoldable pub copy_after_release : Copy → ℕ → Files
copy_after_release c i = unless_refused (copy_release_verdict c i) (files_of (released_copy c i)) (files_of c)
