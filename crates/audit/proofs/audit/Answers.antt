-- `audit::audit` meets its contract. Assumes nothing.
use Rattle.audit.specs.Audit.{audit}
use Rattle.audit.proofs.Whole.{checks_refuse, checks_pass, files_in_lem, images_of}
use Rattle.blake2b.specs.Hash.{node_hash}
use Rattle.answer_types.specs.Verdict.{done}
use Rattle.answer_types.specs.Meaning.{said}
use mathlib.Core.Path.{ap, ◌∙◌}
use Rattle.audit.proofs.audit.Goals as goal

pub returns-in_default : goal.returns-in_default
unfolding audit
returns-in_default c = checks_refuse _ _ c.judge-checked.result c.judge-checked.ensures _ c.in_default.is

pub images-requires : goal.images-requires
images-requires c = files_in_lem _ done c.judge-checked.result c.judge-checked.ensures (ap said c.in-Ok.is)

pub returns : goal.returns
unfolding audit
returns c =
    checks_pass _ _ c.judge-checked.result c.judge-checked.ensures (ap said c.in-Ok.is) (said c.images.result)
    (c.images.ensures ∙ images_of node_hash _)
