use Prim.Native.Nat.{◌-◌}
use mathlib.Core.Path.{refl, ap, ◌∙◌}
use native.Mathlib.Omega.{arith}
use Rattle.blake2b.specs.Hash.{node_hash}
use Rattle.std.specs.Prelude.{Ok, Err}
use Rattle.std.proofs.lemmas.Result.{err_from_is_err_and}
use Rattle.record_find.specs.Inner.{path_behind}
use Rattle.record_find.proofs.Chunk.{read_placed}
use Rattle.record_find.proofs.Search.{left_all, left_none, left_told}
use Rattle.record_find.proofs.finding.search.Goals as goal

pub path_behind-requires : goal.path_behind-requires
path_behind-requires c = read_placed c.requires node_hash _ c.read_in-read.ensures

pub loop-c-init : goal.loop-c-init
loop-c-init c = left_all refl

pub returns-in_err-same : goal.returns-in_err-same
returns-in_err-same c =
    let a = c.args in
    let p = err_from_is_err_and c.from_residual.result c.from_residual.ensures.1 in
    rw (p.1, p.2)
    -- what is told of the chunk below decides, or leaves those below it
    (left_told c.loop-c.invariant c.loop-c-test.true {x = Err c.in_err-same.field-0.0} {y = Err c.in_err-same.field-0.0}
    (c.in_err-same.ensures ∙ ap (λ f. path_behind a.content.now (c.loop-c.c - 1) f a.path.now) c.read_in-read.ensures) refl)

pub returns-then-same : goal.returns-then-same
returns-then-same c =
    let a = c.args in
    left_told c.loop-c.invariant c.loop-c-test.true
    (c.in_ok-same.ensures ∙ ap (λ f. path_behind a.content.now (c.loop-c.c - 1) f a.path.now) c.read_in-read.ensures) (ap Ok c.if-same.true)

pub loop-c-preserved : goal.loop-c-preserved
loop-c-preserved c =
    let a = c.args in
    record {
      most = omega (arith, c.loop-c.invariant.most);
      rest = left_told c.loop-c.invariant c.loop-c-test.true
          (c.in_ok-same.ensures ∙ ap (λ f. path_behind a.content.now (c.loop-c.c - 1) f a.path.now) c.read_in-read.ensures) (ap Ok c.if-same.false);
    }

pub returns : goal.returns
returns c = left_none c.loop-c.invariant c.loop-c-test.false
