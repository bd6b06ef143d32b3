use mathlib.Core.Path.{ap, ◌∙◌}
use mathlib.Core.List.{List, ◌++◌}
use Prim.Native.Nat.{ℕ}
use lib.ListN.{take, drop, replicate}
use Rattle.std.proofs.lemmas.List.{drop-replicate}
use Rattle.blake2b.proofs.cut.Goals as goal

pub returns : goal.returns
returns c =
    let n = c.args.n in
    ap (λ (us : List ℕ). us ++ drop n (replicate 64 0)) c.copy_from_slice.ensures.after
    ∙ ap (λ (us : List ℕ). take n c.args.d ++ us) (drop-replicate n 64 0)
