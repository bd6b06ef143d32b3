-- The place lookup and the byte lookup on a copy: a register's with the checks of a copy, and with 20 in 10's turn.
use Rattle.std.specs.Prelude.{ℕ}
use Rattle.answer_types.specs.Verdict.{done}
use Rattle.lookup.specs.Lookup.{Found, found_behind, place_in, held_place_in, byte_in}
use Rattle.copy_checks.specs.Copy.{Copy, known}
use Rattle.copy_checks.specs.Checks.{copy_judged}

-- start and length of chunk i
unfoldable pub copy_place_of : Copy → ℕ → Found
copy_place_of c i = found_behind (copy_judged c done) (place_in (known c) c.tree c.n i)

-- of a chunk that must be held: 18 just after 9
unfoldable pub copy_held_place_of : Copy → ℕ → Found
copy_held_place_of c i = found_behind (copy_judged c done) (held_place_in (known c) c.tree c.n c.bitfield i)

-- the chunk whose bytes contain offset b, and b less its start; at the data size n and 0
unfoldable pub copy_byte_at : Copy → ℕ → Found
copy_byte_at c b = found_behind (copy_judged c done) (byte_in (known c) c.tree c.n c.size b)
