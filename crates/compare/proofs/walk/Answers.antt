-- `compare::walk` meets its contract. Assumes nothing.
use Rattle.std.proofs.Common.{sym, refl, ap, ◌∙◌, arith}
use Rattle.blake2b.specs.Hash.{node_hash}
use Rattle.compare.specs.Meaning.{roots_told}
use Rattle.compare.proofs.Walked.{walk_told, walk_found, walk_count}
use Rattle.compare.proofs.walk.Goals as goal

pub lowest_collision-requires : goal.lowest_collision-requires
lowest_collision-requires c =
    let a = c.args in (
      c.requires.0,
      walk_count node_hash a.tree.now a.content.now a.tree2.now a.content2.now a.n a.n2 c.requires.0 c.requires.1
          (sym (ap roots_told c.in-Same.is) ∙ c.compare_roots.ensures),
      omega (arith, c.entry_count.ensures),
    )

pub returns-in-Differ : goal.returns-in-Differ
returns-in-Differ c =
    let a = c.args in
    walk_told node_hash a.tree.now a.content.now a.tree2.now a.content2.now a.n a.n2
    (sym (ap roots_told c.in-Differ.is) ∙ c.compare_roots.ensures) (λ next. refl)

pub returns-in-Collide : goal.returns-in-Collide
returns-in-Collide c =
    let a = c.args in
    walk_told node_hash a.tree.now a.content.now a.tree2.now a.content2.now a.n a.n2
    (sym (ap roots_told c.in-Collide.is) ∙ c.compare_roots.ensures) (λ next. refl)

pub returns-in-Same : goal.returns-in-Same
returns-in-Same c =
    let a = c.args in
    walk_found node_hash a.tree.now a.content.now a.tree2.now a.content2.now a.n a.n2
    (sym (ap roots_told c.in-Same.is) ∙ c.compare_roots.ensures) c.entry_count.ensures c.lowest_collision.ensures
