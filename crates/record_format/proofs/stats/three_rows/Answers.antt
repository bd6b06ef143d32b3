-- One field behind the other.
use Rattle.record_format.proofs.Nine.{three_first, three_second, three_third, three_read}
use Rattle.record_format.proofs.stats.three_rows.Goals as goal

pub returns-in_err-first : goal.returns-in_err-first
returns-in_err-first c =
    let a = c.args in
    rw c.from_residual.ensures (three_first a.d.now a.at a.k a.most c.requires.1 c.in_err-first.ensures)

pub returns-in_err-second : goal.returns-in_err-second
returns-in_err-second c =
    let a = c.args in
    rw c.from_residual-in_err-second.ensures (three_second a.d.now a.at a.k a.most c.requires.1 c.in_ok-first.first c.in_ok-first.ensures c.in_err-second.ensures)

pub returns-in_err-third : goal.returns-in_err-third
returns-in_err-third c =
    let a = c.args in
    rw c.from_residual-in_err-third.ensures
    (three_third a.d.now a.at a.k a.most c.requires.1 c.in_ok-first.first c.in_ok-first.ensures c.in_ok-second.second c.in_ok-second.ensures c.in_err-third.ensures)

pub returns : goal.returns
returns c =
    let a = c.args in
    three_read a.d.now a.at a.k a.most c.requires.1 c.in_ok-first.first c.in_ok-first.ensures c.in_ok-second.second c.in_ok-second.ensures c.in_ok-third.third c.in_ok-third.ensures
