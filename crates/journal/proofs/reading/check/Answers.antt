-- `journal::reading::check` meets its contract, test by test. Assumes nothing.
use mathlib.Core.Path.{refl, sym, ◌∙◌}
use Rattle.std.specs.Prelude.{Ok}
use mathlib.Core.Bool.{true, false}
use Prim.Native.Nat.{◌-◌}
use lib.ListN.{length}
use borrow.Author.Tests.{eq-eqb}
use Rattle.journal.proofs.Answers.{read_done_lem, read_hash, hash_said, same_said}
use Rattle.journal.proofs.reading.check.Goals as goal

pub returns : goal.returns
returns c =
    let j = c.args.journal.now in
    read_done_lem _ _ (sym c.length_right.ensures ∙ c.if-not-length_right.false)
    (sym c.begins.ensures ∙ c.if-not-begins.false)
    (eq-eqb _ _ (sym c.read_be64.ensures ∙ c.if-read_be64-journal.false)) (Ok _) c.in_ok-judge_table.ensures refl
    (same_said j _ (length j - 32) _ true (hash_said j _ (length j - 32) c.hash_parts-hash.ensures) c.same.ensures c.if-not-same.false)

pub returns-then-not-same : goal.returns-then-not-same
returns-then-not-same c =
    let j = c.args.journal.now in
    read_hash _ _ (sym c.length_right.ensures ∙ c.if-not-length_right.false)
    (sym c.begins.ensures ∙ c.if-not-begins.false)
    (eq-eqb _ _ (sym c.read_be64.ensures ∙ c.if-read_be64-journal.false)) (Ok _) c.in_ok-judge_table.ensures refl
    (same_said j _ (length j - 32) _ false (hash_said j _ (length j - 32) c.hash_parts-hash.ensures) c.same.ensures c.if-not-same.true)
