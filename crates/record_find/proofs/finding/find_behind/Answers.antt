-- The answer of the checks, the empty register, chunk 0, and then the search.
use mathlib.Core.Path.{sym, ap, ◌∙◌}
use Rattle.answer_types.specs.Verdict.{Verdict}
use Rattle.answer_types.specs.Meaning.{said}
use Rattle.blake2b.specs.Hash.{node_hash}
use Rattle.std.proofs.lemmas.Result.{err_from_is_err_and}
use Rattle.record_find.specs.Finding.{Outcome, find_among}
use Rattle.record_find.specs.Inner.{header_behind, find_behind}
use Rattle.record_find.proofs.Chunk.{read_placed}
use Rattle.record_find.proofs.Search.{with_head}
use Rattle.record_find.proofs.finding.find_behind.Goals as goal

pub returns-then-n-eq0 : goal.returns-then-n-eq0
returns-then-n-eq0 c =
    let answer : Verdict → Outcome = λ v. let a = c.args in find_behind a.partly a.tree.now a.bitfield.now a.content.now a.n node_hash v a.path.now in
    ap (find_among _ _) (sym c.if-n-eq0.true) ∙ sym (ap (answer) (ap said c.in_ok-checked.was))

pub returns-in_err-checked : goal.returns-in_err-checked
returns-in_err-checked c =
    let p = err_from_is_err_and c.from_residual.result c.from_residual.ensures.1 in
    let answer : Verdict → Outcome = λ v. let a = c.args in find_behind a.partly a.tree.now a.bitfield.now a.content.now a.n node_hash v a.path.now in
    rw (p.1, p.2) (sym (ap answer (ap said c.in_err-checked.was)))

pub returns-in_err-_header : goal.returns-in_err-_header
returns-in_err-_header c =
    let answer : Verdict → Outcome = λ v. let a = c.args in find_behind a.partly a.tree.now a.bitfield.now a.content.now a.n node_hash v a.path.now in
    let a = c.args in
    let p = err_from_is_err_and c.from_residual-in_err-_header.result c.from_residual-in_err-_header.ensures.1 in
    rw (p.1, p.2)
    -- what follows on what is told of chunk 0
    (with_head _ c.if-n-eq0.false
    (ap (λ x. x.0) c.in_err-_header.ensures ∙ ap (λ f. (header_behind a.content.now 0 f).0) c.read_in-read.ensures)
    ∙ sym (ap (answer) (ap said c.in_ok-checked.was)))

pub returns : goal.returns
returns c =
    let answer : Verdict → Outcome = λ v. let a = c.args in find_behind a.partly a.tree.now a.bitfield.now a.content.now a.n node_hash v a.path.now in
    let a = c.args in
    c.search.ensures
    ∙ with_head _ c.if-n-eq0.false
    (ap (λ x. x.0) c.in_ok-_header.ensures ∙ ap (λ f. (header_behind a.content.now 0 f).0) c.read_in-read.ensures)
    ∙ sym (ap (answer) (ap said c.in_ok-checked.was))

pub search-requires : goal.search-requires
search-requires c = c.requires (ap said c.in_ok-checked.was)

pub read_in-read-requires : goal.read_in-read-requires
read_in-read-requires c = c.requires (ap said c.in_ok-checked.was)

pub header_behind-requires : goal.header_behind-requires
header_behind-requires c =
    read_placed (c.requires (ap said c.in_ok-checked.was)) node_hash 0 c.read_in-read.ensures
