-- `compare::compare` meets its contract.  Assumes nothing.
use Rattle.blake2b.specs.Hash.{node_hash}
use Rattle.compare.proofs.Walked.{first_refuses, second_refuses, both_rooted, walk_says}
use Rattle.compare.proofs.compare.Goals as goal

pub returns-in-Err : goal.returns-in-Err
returns-in-Err c = first_refuses node_hash _ _ c.judge_whole-first.result c.judge_whole-first.ensures _ c.in-Err.is

pub returns-in-Err-second : goal.returns-in-Err-second
returns-in-Err-second c =
    second_refuses node_hash _ _ c.judge_whole-first.result
    c.judge_whole-first.ensures c.in_default.is c.judge_whole-second.result c.judge_whole-second.ensures _ c.in-Err-second.is

pub walk-requires : goal.walk-requires
walk-requires c =
    both_rooted node_hash _ _ c.judge_whole-first.result
    c.judge_whole-first.ensures c.in_default.is c.judge_whole-second.result c.judge_whole-second.ensures c.in_default-second.is

pub returns : goal.returns
returns c =
    walk_says node_hash _ _ c.judge_whole-first.result
    c.judge_whole-first.ensures c.in_default.is c.judge_whole-second.result c.judge_whole-second.ensures
    c.in_default-second.is c.walk.ensures
