-- Which version this library is: docs/CHANGELOG.md has what each brought.
use Rattle.std.specs.Prelude.{ℕ, ◌+◌, ◌*◌}

-- its first number, the number of its landing, and a third, which is 0
abbrev pub version : ℕ
version = 3 * 1000000 + 51 * 1000 + 0
