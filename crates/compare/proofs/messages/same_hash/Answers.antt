-- `compare::messages::same_hash` meets its contract.  Assumes nothing.
use Rattle.byte_strings.specs.Lists.{same_list}
use Rattle.std.proofs.Common.{◌∙◌, ap₂}
use Rattle.compare.proofs.messages.same_hash.Goals as goal

pub returns : goal.returns
returns c = c.same.ensures ∙ ap₂ same_list c.stored_hash-hash.ensures c.stored_hash-hash2.ensures
