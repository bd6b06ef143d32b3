-- `compare::judge_held` meets its contract. Assumes nothing.
use Rattle.bitfield.specs.Missing.{found_at}
use Rattle.answer_types.specs.Meaning.{said}
use Rattle.compare.proofs.Whole.{held_checks, held_bits_lem, missing_below, missing_refuses, missing_none}
use Rattle.std.proofs.Common.{ap}
use Rattle.compare.proofs.judge_held.Goals as goal

pub returns-in_default : goal.returns-in_default
returns-in_default c = held_checks _ c.judge-checked.result c.judge-checked.ensures _ c.in_default.is

pub first_missing-missing-requires : goal.first_missing-missing-requires
first_missing-missing-requires c = held_bits_lem _ c.judge-checked.result c.judge-checked.ensures (ap said c.in-Ok.is)

pub leaf_index-requires : goal.leaf_index-requires
leaf_index-requires c =
    missing_below _ c.judge-checked.result c.judge-checked.ensures (ap said c.in-Ok.is) c.first_missing-missing.ensures (ap found_at c.in-Some.is)

pub returns-in-Some : goal.returns-in-Some
returns-in-Some c =
    missing_refuses _ c.judge-checked.result c.judge-checked.ensures (ap said c.in-Ok.is) c.first_missing-missing.ensures (ap found_at c.in-Some.is) c.leaf_index.ensures c.refuse_entry.ensures

pub returns : goal.returns
returns c =
    missing_none _ c.judge-checked.result c.judge-checked.ensures (ap said c.in-Ok.is) c.first_missing-missing.ensures (ap found_at c.in_default-missing.is)
