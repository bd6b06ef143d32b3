-- `journal::ranges::range_at` meets its contract. Assumes nothing.
use native.Mathlib.Omega.{arith}
use mathlib.Core.Path.{refl, ◌∙◌}
use Rattle.journal.proofs.Behind.{cut_off, no_kind, no_end, one_end, behind_is, new_is}
use Rattle.journal.proofs.ranges.range_at.Goals.{then-end-at-via-then-end-at, then-end-at-via-else-end-at+then-end-at-lt18}
use Rattle.journal.proofs.ranges.range_at.Goals as goal

pub returns-then-end-at : goal.returns-then-end-at
returns-then-end-at c = elim c.then-end-at.branch [
  | then-end-at-via-then-end-at w ↦ cut_off _ _ _ (omega arith)
  | then-end-at-via-else-end-at+then-end-at-lt18 w ↦ cut_off _ _ _ (omega arith)
]

pub returns-in_default : goal.returns-in_default
returns-in_default c = no_kind _ _ _ (omega arith) _ c.from.ensures _ c.in_default.not-Ok c.try_from.ensures

pub returns-in_err-behind : goal.returns-in_err-behind
returns-in_err-behind c =
    rw c.from_residual.ensures
    (no_end _ _ _ (omega arith) c.in-Ok.kind _ (c.in-Ok.ensures ∙ c.from.ensures) c.read_be64-size.ensures c.in_err-behind.ensures)

pub new_bytes-requires : goal.new_bytes-requires
new_bytes-requires c =
    let k = c.in-Ok.ensures ∙ c.from.ensures in
    let w = one_end _ _ _ (omega arith) c.in-Ok.kind _ k c.read_be64-size.ensures _ c.in_ok-behind.ensures in
    w.1 ∙ behind_is _ _ _ _ k c.read_be64-size.ensures

pub returns : goal.returns
returns c =
    let k = c.in-Ok.ensures ∙ c.from.ensures in
    let w = one_end _ _ _ (omega arith) c.in-Ok.kind _ k c.read_be64-size.ensures _ c.in_ok-behind.ensures in record {
      is = w.0;
      reads = record {
        at = refl;
        file = refl;
        kind = k;
        offset = c.read_be64.ensures;
        size = c.read_be64-size.ensures;
        bytes = c.new_bytes.ensures ∙ new_is _ _ _ _ k c.read_be64-size.ensures;
        behind = w.1;
      };
    }
