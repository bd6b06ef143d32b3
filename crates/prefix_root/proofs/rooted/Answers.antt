-- `prefix_root::rooted` meets its contract. Assumes nothing.
use Rattle.std.proofs.lemmas.Result.{err_from_is_err_and}
use mathlib.Core.Path.{sym, ap, ◌∙◌}
use Rattle.answer_types.specs.Verdict.{Verdict}
use Rattle.answer_types.specs.Meaning.{said}
use Rattle.blake2b.specs.Hash.{node_hash}
use Rattle.prefix_root.specs.PrefixRoot.{root_unless}
use Rattle.prefix_root.proofs.rooted.Goals as goal

pub stored_root_hash-requires : goal.stored_root_hash-requires
stored_root_hash-requires c = c.requires (ap said c.in_ok-found.was)

pub returns-in_err-found : goal.returns-in_err-found
returns-in_err-found c =
    let p = err_from_is_err_and c.from_residual.result c.from_residual.ensures.1 in
    rw (p.1, p.2) (let e = ap said c.in_err-found.was in
    record { answer = sym e; root = sym (ap (λ (v : Verdict). root_unless node_hash v c.args.tree.now c.args.m) e) })

pub returns : goal.returns
returns c =
    let e = ap said c.in_ok-found.was in
    record {
      answer = sym e;
      root = c.stored_root_hash.ensures ∙ sym (ap (λ (v : Verdict). root_unless node_hash v c.args.tree.now c.args.m) e);
    }
