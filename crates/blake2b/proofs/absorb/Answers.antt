use mathlib.Core.Path.{◌≡◌, refl, sym, ap, ◌∙◌}
use mathlib.Core.Bool.{true}
use mathlib.Core.List.{List, ◌++◌}
use Prim.Native.Nat.{ℕ, ◌*◌, ◌/◌}
use lib.ListN.{length-append}
use Rattle.blake2b_compression.specs.Compression.{F}
use Rattle.blake2b.specs.Hash.{block}
use Rattle.blake2b.specs.Inner.{onward}
use Rattle.blake2b.proofs.Blocks.{onward_more, absorbed_last}
use native.Mathlib.Omega.{arith}
use Rattle.blake2b.proofs.absorb.Goals as goal

pub loop-i-init : goal.loop-i-init
unfolding onward
loop-i-init c = refl

pub loop-i-preserved : goal.loop-i-preserved
loop-i-preserved c =
    let a = c.args in
    onward_more a.h.now a.front (a.prefix.now ++ a.body.now) c.loop-i.i c.loop-i.h _ c.loop-i.invariant c.compress_inner.ensures

pub returns : goal.returns
returns c =
    let a = c.args in
    let d : List ℕ = a.prefix.now ++ a.body.now in
    let last : ℕ = c.saturating_sub-last.result / 128 in
    let e : c.loop-i.i ≡ last = omega arith in
    absorbed_last a.h.now a.front d last _ c.loop-i.h _ (sym (length-append a.prefix.now a.body.now)) (omega arith)
    (c.loop-i.invariant ∙ ap (onward a.h.now a.front d) e)
    (c.compress_gathered.ensures ∙ ap (λ (t : ℕ). F c.loop-i.h (block d (128 * last)) t true) c.counter-taken.ensures)
