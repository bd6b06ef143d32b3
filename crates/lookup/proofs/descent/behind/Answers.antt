-- `lookup::descent::behind` meets its contract. Assumes nothing.
use Prim.Native.Nat.{◌+◌, ◌-◌}
use mathlib.Core.Path.{refl, sym, ap, ◌∙◌, subst}
use Rattle.lookup.specs.Inner.{within_of}
use Rattle.lookup.specs.declared.descent.Sought.{Sought}
use Rattle.lookup.specs.Capped.{Passed}
use Rattle.lookup.proofs.Capped.{behind_chunk, behind_byte}
use Rattle.lookup.proofs.descent.behind.Goals as goal

pub overflow_sub-result : goal.overflow_sub-result
overflow_sub-result c = subst (λ (q : Sought). Passed q c.args.size) c.in-Byte.is c.requires

pub returns-in-Chunk : goal.returns-in-Chunk
returns-in-Chunk c d k s z =
    let a = c.args in
    behind_chunk c.in-Chunk.c a.size d k s z ∙ sym (ap (λ (q : Sought). within_of q d k (a.size + s) z) c.in-Chunk.is)

pub returns-in-Byte : goal.returns-in-Byte
returns-in-Byte c d k s z =
    let a = c.args in
    behind_byte c.in-Byte.b (record { 0 = c.in-Byte.b.0 - a.size }) a.size (subst (λ (q : Sought). Passed q a.size) c.in-Byte.is c.requires) refl d k s z
    ∙ sym (ap (λ (q : Sought). within_of q d k (a.size + s) z) c.in-Byte.is)
