-- The public call: its verdict, and the 64 bytes that it hands out.
use Rattle.std.specs.Prelude.{ℕ, ◌-◌, Bool, true, false, List, ◌++◌, length, replicate, leb}
use Rattle.answer_types.specs.Verdict.{Verdict, none, done, refused, unless_refused}
use Rattle.blake2b.specs.Hash.{blake2b}

-- "1. The hash length isn't 1 to 64."
abbrev pub length_right : ℕ → Bool
length_right nn = elim (leb 1 nn) [ true ↦ leb nn 64 | false ↦ false ]

-- "It refuses with 17, just after 1, a longer key", one of more than 64 bytes
abbrev pub key_right : ℕ → Bool
key_right kk = leb kk 64

abbrev pub verdict_if : Bool → Bool → Verdict
verdict_if true true = done
verdict_if true false = refused 17 none
verdict_if false _ = refused 1 none

-- done, or refusal 1 or 17 without a place
unfoldable pub verdict : ℕ → ℕ → Verdict
verdict nn kk = verdict_if (length_right nn) (key_right kk)

-- the hash and then zeros, 64 bytes in all; all zeros after a refusal
unfoldable pub digest : ℕ → List ℕ → List ℕ → List ℕ
digest nn key d = unless_refused (verdict nn (length key)) (blake2b nn key d ++ replicate (64 - nn) 0) (replicate 64 0)
