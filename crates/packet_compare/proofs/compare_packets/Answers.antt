-- `packet_compare::compare_packets` meets its contract. Assumes nothing.
use mathlib.Core.Path.{sym, ◌∙◌}
use Rattle.answer_types.specs.Meaning.{spot_of}
use Rattle.blake2b.specs.Hash.{node_hash}
use Rattle.packet_compare.proofs.Tells.{both_done, first_refused_lem, second_refused_lem}
use Rattle.packet_compare.proofs.compare_packets.Goals as goal

pub walk-requires : goal.walk-requires
walk-requires c = record { root = c.args.root.now; first = sym c.in-Ok.ensures; second = sym c.in-Ok-check_answer.ensures }

pub returns-in-Err : goal.returns-in-Err
returns-in-Err c =
    let a = c.args in
    sym (first_refused_lem node_hash a.first.now a.second.now a.n a.chunk.0 a.root.now c.in-Err.refusal.number (spot_of c.in-Err.refusal.place)
    (sym c.in-Err.ensures))

pub returns-in-Err-check_answer : goal.returns-in-Err-check_answer
returns-in-Err-check_answer c =
    let a = c.args in
    let r = c.in-Err-check_answer.refusal in
    sym (second_refused_lem node_hash a.first.now a.second.now a.n a.chunk.0 a.root.now r.number (spot_of r.place)
    (sym c.in-Ok.ensures) (sym c.in-Err-check_answer.ensures))

pub returns-in-Ok-check_answer : goal.returns-in-Ok-check_answer
returns-in-Ok-check_answer c =
    let a = c.args in
    c.walk.ensures
    ∙ sym (both_done node_hash a.first.now a.second.now a.n a.chunk.0 a.root.now (sym c.in-Ok.ensures) (sym c.in-Ok-check_answer.ensures))
