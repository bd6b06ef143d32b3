-- `search::runs::in_run` meets its contract. Assumes nothing.
use Prim.Native.Nat.{ℕ, ◌+◌, ◌/◌, ◌≤◌}
use mathlib.Core.Path.{sym, subst}
use lib.ListN.{length}
use Rattle.bitfield.specs.Append.{bits_place}
use Rattle.search.proofs.Steps.{data_at}
use Rattle.search.proofs.runs.in_run.Goals as goal

pub run_tuples-tuples-requires : goal.run_tuples-tuples-requires
run_tuples-tuples-requires c =
    let a = c.args in
    subst (λ (j : ℕ). bits_place (j / 8192 + 1) ≤ length a.xs.now) (sym c.chunk_behind.ensures)
    (data_at a.xs.now a.end a.from c.requires.1.room c.requires.0)
