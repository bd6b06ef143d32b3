-- The field decides, and then the bytes of its part.
use Prim.Native.Nat.{◌+◌}
use Rattle.record_node.proofs.Keyed.{one_bad, one_none, one_read, from_front}
use Rattle.record_node.proofs.writers.one_writer.Goals as goal

pub returns-in_err-field : goal.returns-in_err-field
returns-in_err-field c = rw c.from_residual.ensures (one_bad c.args.d.now c.args.at c.in_err-field.ensures)

pub returns-in_err-writer-in-Some : goal.returns-in_err-writer-in-Some
returns-in_err-writer-in-Some c =
    let p = c.in-Some.part in
    rw c.from_residual-in_err-writer-in-Some.ensures
    (one_none c.args.d.now c.args.at c.in_ok-field.ensures c.in-Some.is (from_front c.args.d.now (p.at + p.len)) c.in_err-writer-in-Some.ensures)

pub returns-in_ok-writer-in-Some : goal.returns-in_ok-writer-in-Some
returns-in_ok-writer-in-Some c =
    let p = c.in-Some.part in
    one_read c.args.d.now c.args.at c.in_ok-field.ensures c.in-Some.is c.requires (from_front c.args.d.now (p.at + p.len)) c.in_ok-writer-in-Some.ensures
