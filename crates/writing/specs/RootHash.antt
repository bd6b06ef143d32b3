-- The root hash of a register: numbers 2 to 6, and the hash of the root message that its stored roots give.
use Rattle.std.specs.Prelude.{ℕ, List}
use Rattle.answer_types.specs.Verdict.{Verdict, done}
use Rattle.file_format.specs.Belongs.{Register}
use Rattle.checks.specs.Checks.{judged, register_checks}
use Rattle.writing.specs.Append.{root_unless_refused}

unfoldable pub root_verdict : Register → Verdict
root_verdict r = judged (register_checks r) done

unfoldable pub root_answer : (List ℕ → List ℕ) → Register → List ℕ
root_answer F r = root_unless_refused F (root_verdict r) r
