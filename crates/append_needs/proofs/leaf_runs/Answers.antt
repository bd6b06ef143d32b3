-- `append_needs::leaf_runs` meets its contract. Assumes nothing.
use Rattle.std.proofs.Common.{rules, ◌≡◌, ℕ, ◌∙◌, sym, ◌<◌, ◌≤◌, ◌^◌, arith, length, get_or}
use Rattle.std.proofs.iter.Serving.{serving}
use Rattle.append_needs.proofs.Lists.{short_each, all_runs, runs_sum, listed_runs}
use Rattle.append_needs.proofs.leaf_runs.Goals as goal

pub sum-requires-clause-can : goal.sum-requires-clause-can
sum-requires-clause-can c =
    let short : (k d : ℕ) → k < length c.args.lengths.now → get_or c.args.lengths.now k d ≤ 65536 = short_each c.args.lengths.now c.requires in
    grind (serving, short)

pub sum-requires-clause-fits : goal.sum-requires-clause-fits
sum-requires-clause-fits c =
    let small : all_runs c.args.lengths.now < 2 ^ 64 = omega (arith, listed_runs c.args.lengths.now c.requires) in
    search rules

pub returns : goal.returns
returns c =
    let all : c.sum.result ≡ all_runs c.args.lengths.now = search rules in
    (all ∙ sym (runs_sum c.args.lengths.now), omega (arith, all, listed_runs c.args.lengths.now c.requires))
