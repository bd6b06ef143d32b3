-- `listing_program::list_on` meets its contract. Assumes nothing.
use native.Mathlib.Omega.{arith}
use Rattle.listing_lines.proofs.Listed.{listed_length}
use Rattle.listing_program.proofs.list_on.Goals as goal

pub slice_bounds-write_all-end : goal.slice_bounds-write_all-end
slice_bounds-write_all-end c = omega (arith, listed_length c.in-Ok.len c.list.ensures c.in-Ok.is)
