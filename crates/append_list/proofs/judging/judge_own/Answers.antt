-- `append_list::judging::judge_own` meets its contract. Assumes nothing.
use Rattle.std.proofs.lemmas.Result.{err_from_is_err_and}
use Rattle.append_list.proofs.Orders.{some_listed, own_refused, own_passed}
use Rattle.append_list.proofs.judging.judge_own.Goals as goal

pub judge_room-requires : goal.judge_room-requires
judge_room-requires c = (some_listed c.args.lengths.now c.args.bytes.now c.in_ok-judge_list.was c.judge_list.ensures, c.requires.0, c.requires.1)

pub returns-in_err-judge_list : goal.returns-in_err-judge_list
returns-in_err-judge_list c =
    let p = err_from_is_err_and c.from_residual.result c.from_residual.ensures.1 in
    rw (p.1, p.2) (own_refused _ c.args.lengths.now c.args.bytes.now c.in_err-judge_list.was c.judge_list.ensures)

pub returns : goal.returns
returns c = own_passed _ c.args.lengths.now c.args.bytes.now c.in_ok-judge_list.was c.judge_list.ensures c.judge_room.ensures
