-- Nothing is lost between the fields of a Node and the 67 numbers in which they are lent. Assumes nothing.
use mathlib.Core.Path.{◌≡◌, refl, ap, ◌∙◌}
use Rattle.byte_strings.specs.Lists.{run, joined}
use Rattle.record_node.specs.declared.reading.Node.{Node}
use Rattle.c_records.specs.Flat.{flat_writers, flat_node, node_in}
use Rattle.c_records.specs.Numbers.{of_stat, of_writers, node_numbers, writers_at, flat_at, NumbersRestored, NumbersCounted}
use Rattle.c_records.proofs.Flat.{flat_restored}

flat_back : (n : Node) → flat_at (node_numbers (flat_node n)) ≡ flat_node n
unfolding node_numbers of_stat of_writers joined run writers_at flat_writers
flat_back n = refl

pub numbers_restored : NumbersRestored
numbers_restored n e = ap node_in (flat_back n) ∙ flat_restored n e

pub numbers_counted : NumbersCounted
unfolding node_numbers of_stat of_writers joined run
numbers_counted f = refl
