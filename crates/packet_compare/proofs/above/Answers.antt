-- `packet_compare::above` meets its contract. Assumes nothing.
use Prim.Native.Nat.{◌+◌, ◌≤◌}
use mathlib.Core.Path.{sym, ap, ◌∙◌, subst}
use Rattle.blake2b.specs.Hash.{node_hash}
use Rattle.file_format.specs.Entries.{Entry, parent_of}
use Rattle.packet.specs.Check.{ordered}
use Rattle.packet.specs.Inner.{entry_of}
use Rattle.packet_compare.proofs.above.Goals as goal

pub step_up-requires : goal.step_up-requires
step_up-requires c = subst (λ (x : Entry). c.args.node.size + x.size ≤ 68719476736) (sym c.entry_node.ensures) c.requires.sum

pub returns : goal.returns
returns c = c.step_up.ensures ∙ ap (ordered c.args.k (parent_of node_hash) (entry_of c.args.node)) c.entry_node.ensures
