-- The short lookups and the short search on a copy: a register's, behind the checks of a copy, which read the leaves that it knows.
use Rattle.std.specs.Prelude.{ℕ, ◌-◌}
use Rattle.answer_types.specs.Verdict.{done}
use Rattle.byte_strings.specs.Lowest.{lowest}
use Rattle.bitfield.specs.Release.{stored_held}
use Rattle.lookup.specs.Lookup.{Found, found_behind}
use Rattle.search.specs.Search.{Sought, sought_unless}
use Rattle.short_lookup.specs.ShortLookup.{short_place_in, short_byte_in}
use Rattle.copy_checks.specs.Copy.{Copy, known}
use Rattle.copy_checks.specs.Checks.{copy_judged}

-- start and length of chunk i, by adding up leaf lengths
unfoldable pub copy_short_place_of : Copy → ℕ → Found
copy_short_place_of c i = found_behind (copy_judged c done) (short_place_in (known c) c.tree c.n i)

-- the chunk whose bytes contain offset b, and b less its start; at the data size n and 0
unfoldable pub copy_short_byte_at : Copy → ℕ → Found
copy_short_byte_at c b = found_behind (copy_judged c done) (short_byte_in (known c) c.tree c.n c.size b)

-- the first chunk from a given number on, below n, whose data bit is 0, or none. It reads data bits alone; 20 at a root is judged all the same, since 6
-- reads the roots
unfoldable pub copy_short_search : Copy → ℕ → Sought
copy_short_search c from = sought_unless (copy_judged c done) (lowest (stored_held c.bitfield) from (c.n - from))
