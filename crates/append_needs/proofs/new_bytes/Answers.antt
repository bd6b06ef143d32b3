-- `append_needs::new_bytes` meets its contract. Assumes nothing.
use Rattle.std.proofs.Common.{rules, ◌≡◌, ◌∙◌, sym, ◌<◌, ◌^◌, arith}
use Rattle.std.specs.List.{sum}
use Rattle.append_needs.proofs.Lists.{total_sum, listed_sum}
use Rattle.append_needs.proofs.new_bytes.Goals as goal

pub sum-requires-clause-fits : goal.sum-requires-clause-fits
sum-requires-clause-fits c =
    let small : sum c.args.lengths.now < 2 ^ 64 = omega (arith, listed_sum c.args.lengths.now c.requires) in
    search rules

pub returns : goal.returns
returns c =
    let all : c.sum.result ≡ sum c.args.lengths.now = search rules in
    (all ∙ sym (total_sum c.args.lengths.now), omega (arith, all, listed_sum c.args.lengths.now c.requires))
