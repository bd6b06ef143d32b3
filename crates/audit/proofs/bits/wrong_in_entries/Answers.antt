use Rattle.audit.proofs.Bytes.{entering_start, entering_entry, entering_next, entering_found, entering_done}
use Rattle.audit.proofs.Search.{stops}
use Rattle.answer_types.specs.Meaning.{said}
use mathlib.Core.Path.{ap}
use Rattle.audit.proofs.bits.wrong_in_entries.Goals as goal

pub loop-e-init : goal.loop-e-init
loop-e-init c = entering_start

pub wrong_in_entry-answer-requires : goal.wrong_in_entry-answer-requires
wrong_in_entry-answer-requires c = entering_entry c.loop-e.invariant c.requires.0 c.requires.1 c.loop-e-test.true

pub returns-in_default : goal.returns-in_default
returns-in_default c = entering_found c.loop-e.invariant c.loop-e-test.true c.wrong_in_entry-answer.ensures (stops _ _ c.in_default.is)

pub loop-e-preserved : goal.loop-e-preserved
loop-e-preserved c = entering_next c.loop-e.invariant c.loop-e-test.true c.wrong_in_entry-answer.ensures (ap said c.in-Ok.is)

pub returns : goal.returns
returns c = entering_done c.loop-e.invariant c.loop-e-test.false
