-- The words, and the remaining bytes behind them.
use Rattle.std.proofs.lemmas.Result.{err_from_is_err_and}
use Rattle.coordinates.specs.Grouping.{count, words, restored, ungrouped}
use Rattle.coordinates.proofs.Words.{length_words, ungrouped_is}
use Rattle.coordinates.proofs.Calls.{words_room, rest_room, written_none, written_whole}
use Rattle.coordinates.proofs.ungroup.Goals as goal

pub write_words-requires : goal.write_words-requires
write_words-requires c = words_room c.args.bytes.now c.args.out.now c.judge.result c.in_ok-judge.was c.judge.ensures

pub copy_to-requires : goal.copy_to-requires
copy_to-requires c =
    rest_room c.args.bytes.now c.args.out.now c.judge.result c.in_ok-judge.was c.judge.ensures
    c.write_words.new.out c.write_words.auto.out

pub returns-in_err-judge : goal.returns-in_err-judge
returns-in_err-judge c =
    let p = err_from_is_err_and c.from_residual.result c.from_residual.ensures.1 in
    rw (p.1, p.2) (written_none ungrouped c.args.bytes.now c.args.out.now c.in_err-judge.field-0.0 c.judge.result c.in_err-judge.was c.judge.ensures)

pub returns : goal.returns
unfolding count
returns c =
    let d = c.args.bytes.now in
    written_whole d c.args.out.now c.judge.result c.in_ok-judge.was c.judge.ensures
    ungrouped (words (restored d) (count d)) _ _ (ungrouped_is d) (length_words (restored d) (count d)) c.write_words.ensures c.copy_to.ensures
