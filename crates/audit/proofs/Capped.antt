-- Leaves whose start is told up to the largest number that fits.
-- Assumes nothing.
use Prim.Native.Nat.{ℕ, ◌+◌, ◌*◌, ◌<◌}
use mathlib.Core.Path.{◌≡◌, refl, sym, ◌∙◌}
use mathlib.Core.Bool.{Bool, true, false, cond, ◌&&◌}
use mathlib.Core.List.{List}
use native.Mathlib.Omega.{arith}
use borrow.Author.Tests.{lt-leb}
use lib.Dec.{leb}
use Rattle.byte_strings.specs.Lists.{part, same_list, all_zero}
use Rattle.file_format.specs.Sizes.{longest_chunk}
use Rattle.file_format.specs.Messages.{leaf_message}
use Rattle.file_format.specs.Stored.{stored_hash, stored_size}
use Rattle.checks.proofs.Steps.{and_stop}
use Rattle.checks.specs.Capped.{most, capped}
use Rattle.checks.proofs.Capped.{capped_either}
use Rattle.audit.specs.Audit.{leaf_from}

module _ (F : List ℕ → List ℕ) (t d : List ℕ) (size : ℕ) (held : Bool) (k : ℕ) where
  -- a leaf whose data would begin past the data
  pub start_past : (start : ℕ) → size < start → false ≡ leaf_from F t d size held (2 * k) start
  unfolding leaf_from
  start_past start h = go (leb (stored_size t (2 * k)) longest_chunk)
    where
      rest : Bool
      rest = cond held (same_list (stored_hash t (2 * k)) (F (leaf_message (part d start (stored_size t (2 * k)))))) (all_zero (part d start (stored_size t (2 * k))))

      go : (b : Bool) → false ≡ (b && (leb (start + stored_size t (2 * k)) size && rest))
      go true = and_stop _ _ (lt-leb (start + stored_size t (2 * k)) size (omega arith))
      go false = refl

  -- a start that is told as the largest number is past the data, and so is the start itself
  pub capped_leaf : (start : ℕ) → size < most → leaf_from F t d size held (2 * k) (capped start) ≡ leaf_from F t d size held (2 * k) start
  capped_leaf start h =
      capped_either (λ x. leaf_from F t d size held (2 * k) x ≡ leaf_from F t d size held (2 * k) start) start (λ l. refl)
      (λ l. sym (start_past most h) ∙ start_past start (omega arith))
