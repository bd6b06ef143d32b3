-- `packet::making::make_behind` meets its contract. Assumes nothing.
use Rattle.std.proofs.lemmas.Result.{err_from_is_err_and}
use mathlib.Core.Path.{refl}
use Rattle.byte_strings.specs.Lists.{part}
use Rattle.packet.proofs.making.make_behind.Goals as goal

pub make_read-requires : goal.make_read-requires
unfolding part
make_read-requires c = (rw c.in_ok-part.was at c.requires).readable refl

pub returns-in_err-part : goal.returns-in_err-part
returns-in_err-part c =
    let p = err_from_is_err_and c.from_residual.result c.from_residual.ensures.1 in
    rw (p.1, p.2) (rw c.in_err-part.was (record { verdict = refl; long = refl; written = refl }))

pub returns : goal.returns
unfolding part
returns c = rw c.in_ok-part.was c.make_read.ensures

pub slice_bounds-make_read-count : goal.slice_bounds-make_read-count
slice_bounds-make_read-count c = (rw c.in_ok-part.was at c.requires).part.0

pub slice_bounds-make_read-start : goal.slice_bounds-make_read-start
slice_bounds-make_read-start c = (rw c.in_ok-part.was at c.requires).part.0

pub slice_bounds-make_read-end : goal.slice_bounds-make_read-end
slice_bounds-make_read-end c = (rw c.in_ok-part.was at c.requires).part.1
