-- `compare::judge_whole` meets its contract. Assumes nothing.
use Rattle.blake2b.specs.Hash.{node_hash}
use Rattle.answer_types.specs.Meaning.{said}
use Rattle.compare.proofs.Whole.{whole_refuses, whole_files, images_say}
use Rattle.std.proofs.Common.{ap}
use Rattle.compare.proofs.judge_whole.Goals as goal

pub returns-in_default : goal.returns-in_default
returns-in_default c = whole_refuses node_hash _ c.judge_held-held.result c.judge_held-held.ensures _ c.in_default.is

pub images-requires : goal.images-requires
images-requires c = whole_files node_hash _ c.judge_held-held.result c.judge_held-held.ensures (ap said c.in-Ok.is)

pub returns : goal.returns
returns c =
    images_say node_hash _ c.judge_held-held.result c.judge_held-held.ensures (ap said c.in-Ok.is) c.images.ensures
