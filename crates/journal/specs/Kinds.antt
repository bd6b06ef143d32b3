-- The kinds of ranges by their numbers in a journal.
use Rattle.std.specs.Prelude.{ℕ, ◌≤◌, ◌<◌, ◌≡◌, Result, MatchResult}
use Rattle.journal.specs.declared.JournalError.{JournalError}
use Rattle.journal.specs.declared.JournalError.TheVariants.{Unfit}
use Rattle.journal.specs.declared.kinds.Kind.{Kind}
use Rattle.journal.specs.declared.kinds.Kind.TheVariants.{Replaced, Fresh, Blank, Witness}

-- the number of a kind: that of its ranges (Form, `kind_of`)
abbrev pub number_of : Kind → ℕ
number_of Replaced = 1
number_of Fresh = 2
number_of Blank = 3
number_of Witness = 4

-- the kind with this number, or a refusal of a number that is no kind's
abbrev pub Decodes : ℕ → Result Kind JournalError → Type 0
Decodes number r = MatchResult r (λ kind. number_of kind ≡ number) (λ e. (e ≡ Unfit) × (1 ≤ number → 4 < number))
