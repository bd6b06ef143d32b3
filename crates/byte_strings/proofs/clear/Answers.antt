use Rattle.byte_strings.proofs.Lists.{put_back}
use native.Mathlib.Omega.{arith}
use mathlib.Core.Path.{◌≡◌, ap, ◌∙◌}
use borrow.Rule.Slice.PartMut.{put_mid, mid_len}
use Prim.Native.Nat.{◌+◌, ◌-◌}
use lib.ListN.{length-replicate}
use Rattle.byte_strings.specs.Lists.{zeros}
use Rattle.byte_strings.proofs.clear.Goals as goal

pub returns : goal.returns
returns c =
    let at = c.args.at in
    let n = c.args.count in
    let dst = c.args.dst.now in
    let e : at + n - at ≡ n = omega arith in
    ap (put_mid at (at + n - at) dst) (c.fill.ensures.after (λ y e. e) ∙ ap zeros (mid_len at (at + n) dst c.requires ∙ e))
    ∙ put_back dst (zeros n) at n (length-replicate n 0)
