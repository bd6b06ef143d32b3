use mathlib.Core.Path.{sym, ap, ◌∙◌}
use mathlib.Core.List.{List}
use Prim.Native.Nat.{ℕ, ◌+◌}
use lib.ListN.{set, get_or}
use lib.Seq.{take_all}
use Rattle.byte_strings.specs.Lists.{put}
use Rattle.byte_strings.proofs.Lists.{put_nil, put_take}
use Rattle.byte_strings.proofs.copy_to.Goals as goal

pub loop-i-init : goal.loop-i-init
loop-i-init c = sym (put_nil _ _)

pub loop-i-preserved : goal.loop-i-preserved
loop-i-preserved c =
    ap (λ (l : List ℕ). set l (c.args.at + c.loop-i.i) (get_or c.args.src.now c.loop-i.i 0)) c.loop-i.invariant
    ∙ put_take c.args.dst.now c.args.at c.args.src.now c.loop-i.i 0 c.requires c.loop-i-test.true

pub returns : goal.returns
returns c = c.loop-i.invariant ∙ ap (put c.args.dst.now c.args.at) (take_all c.loop-i.i c.args.src.now c.loop-i-test.false)
