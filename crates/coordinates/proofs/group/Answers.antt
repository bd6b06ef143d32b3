-- The planes, and the remaining bytes behind them.
use Rattle.std.proofs.lemmas.Result.{err_from_is_err_and}
use Rattle.coordinates.specs.Grouping.{count, difference, planes, grouped}
use Rattle.coordinates.proofs.Planes.{length_planes, grouped_is}
use Rattle.coordinates.proofs.Calls.{words_room, rest_room, written_none, written_whole}
use Rattle.coordinates.proofs.group.Goals as goal

pub write_planes-requires : goal.write_planes-requires
write_planes-requires c = words_room c.args.bytes.now c.args.out.now c.judge.result c.in_ok-judge.was c.judge.ensures

pub copy_to-requires : goal.copy_to-requires
copy_to-requires c =
    rest_room c.args.bytes.now c.args.out.now c.judge.result c.in_ok-judge.was c.judge.ensures
    c.write_planes.new.out c.write_planes.auto.out

pub returns-in_err-judge : goal.returns-in_err-judge
returns-in_err-judge c =
    let p = err_from_is_err_and c.from_residual.result c.from_residual.ensures.1 in
    rw (p.1, p.2) (written_none grouped c.args.bytes.now c.args.out.now c.in_err-judge.field-0.0 c.judge.result c.in_err-judge.was c.judge.ensures)

pub returns : goal.returns
unfolding count
returns c =
    let d = c.args.bytes.now in
    written_whole d c.args.out.now c.judge.result c.in_ok-judge.was c.judge.ensures
    grouped (planes (difference d) (count d)) _ _ (grouped_is d) (length_planes (difference d) (count d)) c.write_planes.ensures c.copy_to.ensures
