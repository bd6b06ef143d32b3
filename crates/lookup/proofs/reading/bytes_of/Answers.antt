-- `lookup::reading::bytes_of` meets its contract. Assumes nothing.
use mathlib.Core.Path.{sym, ap}
use Rattle.byte_strings.specs.Lists.{part}
use Rattle.lookup.specs.Read.{bytes_found}
use Rattle.lookup.specs.Meaning.{verified_of}
use Rattle.lookup.proofs.reading.bytes_of.Goals as goal

pub returns-in-Ok : goal.returns-in-Ok
unfolding part
returns-in-Ok c = sym (ap (λ v. bytes_found c.args.content.now (verified_of v)) c.in-Ok.is)

pub slice_bounds-result-count : goal.slice_bounds-result-count
slice_bounds-result-count c = (rw c.in-Ok.is at c.requires).0

pub slice_bounds-result-start : goal.slice_bounds-result-start
slice_bounds-result-start c = (rw c.in-Ok.is at c.requires).0

pub slice_bounds-result-end : goal.slice_bounds-result-end
slice_bounds-result-end c = (rw c.in-Ok.is at c.requires).1
