-- `audit::images` meets its contract. Assumes nothing.
use Prim.Native.Nat.{ℕ, ◌-◌}
use mathlib.Core.Bool.{Bool}
use Rattle.answer_types.specs.Verdict.{bitfield, done}
use Rattle.file_format.specs.Sizes.{used_bitfield}
use Rattle.audit.specs.Audit.{lowest, refused_at}
use Rattle.audit.proofs.Bytes.{whole_right}
use Rattle.audit.proofs.Whole.{tree_refuses, bitfield_says}
use Rattle.blake2b.specs.Hash.{node_hash}
use Rattle.checks.specs.Lent.{register_of}
use Rattle.answer_types.specs.Meaning.{said}
use mathlib.Core.List.{[]}
use mathlib.Core.Path.{◌∙◌, ap}
use Rattle.audit.proofs.images.Goals as goal

pub returns-in_default : goal.returns-in_default
returns-in_default c =
    let a = c.args in
    tree_refuses node_hash (register_of a.tree.now [] a.bitfield.now a.content.now a.n 0 a.size) c.wrong_entry-entry.result
    c.wrong_entry-entry.ensures _ c.in_default.is

pub returns : goal.returns
returns c =
    let a = c.args in
    bitfield_says node_hash (register_of a.tree.now [] a.bitfield.now a.content.now a.n 0 a.size) c.wrong_entry-entry.result
    c.wrong_entry-entry.ensures (ap said c.in-Ok.is) (said c.wrong_byte.result)
    (c.wrong_byte.ensures ∙ ap (λ (right : ℕ → Bool). refused_at 11 bitfield (lowest right 32 (used_bitfield a.n - 32)) done) (whole_right a.bitfield.now a.n))
