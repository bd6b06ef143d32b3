-- What the inner functions find at a place of the bytes lent, and what they put there.
use Rattle.std.specs.Prelude.{Option as Maybe, None, Some, ℕ, ◌+◌, List, drop}
use Rattle.std.proofs.Math.Option.{Option}
use Rattle.record_fields.specs.Reading.{BeginsNot, both, Both}
use Rattle.record_fields.specs.Fields.{number_field, Most, Later}
use Rattle.record_fields.specs.Inner.{Upto, number_of}
use Rattle.record_fields.specs.declared.varints.Read.{Read}
use Rattle.record_format.specs.declared.stats.Stat.{Stat}

-- three numbers' fields one behind the other, the first of number k
abbrev pub three_fields : ℕ → Option ℕ × (Option ℕ × Option ℕ) → List ℕ
three_fields k = both (number_field k) (both (number_field (k + 1)) (number_field (k + 2)))

abbrev pub ThreeMost : ℕ → Option ℕ × (Option ℕ × Option ℕ) → Type 0
ThreeMost most = Both (Most most) (Both (Most most) (Most most))

-- the fields that three cases stand for
abbrev pub three_of : Maybe ℕ × Maybe ℕ × Maybe ℕ → Option ℕ × (Option ℕ × Option ℕ)
three_of t = (number_of t.0, (number_of t.1, number_of t.2))

abbrev pub ThreeRead : List ℕ → ℕ → ℕ → ℕ → Maybe (Read (Maybe ℕ × Maybe ℕ × Maybe ℕ)) → Type 0
ThreeRead d at k most None = BeginsNot (three_fields k) (ThreeMost most) (Later (k + 2)) (drop at d)
ThreeRead d at k most (Some r) = Upto (three_fields k) (ThreeMost most) (Later (k + 2)) d at (three_of r.value) r.next

-- a Stat whose mode is there
abbrev pub with_mode_of : Maybe ℕ → Stat → Maybe Stat
with_mode_of None s = None
with_mode_of (Some x) s = Some s

abbrev pub with_mode : Stat → Maybe Stat
with_mode s = with_mode_of s.mode s
