-- The descents of lookups on a copy: they read the entries that it knows.
use Rattle.std.specs.Prelude.{ℕ}
use Rattle.lookup.specs.Descent.{Ending, chunk_within, byte_within, descent}
use Rattle.copy_checks.specs.Copy.{Copy, known}

-- the descent to chunk i
unfoldable pub copy_to_chunk : Copy → ℕ → Ending
copy_to_chunk c i = descent (known c) (chunk_within i) c.tree c.n

-- and to the byte at offset b
unfoldable pub copy_to_byte : Copy → ℕ → Ending
copy_to_byte c b = descent (known c) (byte_within b) c.tree c.n
