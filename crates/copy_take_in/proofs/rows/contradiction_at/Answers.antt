-- `copy_take_in::rows::contradiction_at` meets its contract. Assumes nothing.
use Prim.Native.Nat.{ℕ, ◌+◌, ◌-◌, ◌≤◌}
use mathlib.Core.Path.{◌≡◌, refl, sym, ap₂, ◌∙◌}
use mathlib.Core.Bool.{Bool}
use mathlib.Core.List.{List}
use lib.ListN.{length, take, drop}
use Rattle.byte_strings.specs.Lists.{Bytes, part, same_list}
use Rattle.file_format.specs.Sizes.{entry_place}
use Rattle.file_format.specs.Entries.{entry_bytes}
use Rattle.packet.specs.Check.{entry_in}
use Rattle.packet.proofs.Rows.{lent_entry}
use Rattle.copy_take_in.specs.TakeIn.{contradicted}
use Rattle.copy_take_in.proofs.Entries.{given_bytes}
use Rattle.copy_take_in.proofs.rows.contradiction_at.Goals as goal

-- what is stored and what is given, compared
compared : (t row : List ℕ) (at place : ℕ) {start : ℕ} {b : Bool} → start ≡ entry_place place → Bytes row → at + 40 ≤ length row
    → b ≡ same_list (take (start + 40 - start) (drop start t)) (take (at + 40 - at) (drop at row))
    → same_list (part t (entry_place place) 40) (entry_bytes (entry_in row at)) ≡ b
compared t row at place {start} e w h f =
    sym (f ∙ ap₂ same_list (lent_entry t start _ e) (lent_entry row at _ refl ∙ sym (given_bytes row at w h)))

pub returns-then-not-is_known : goal.returns-then-not-is_known
unfolding contradicted
returns-then-not-is_known c = rw (sym c.is_known.ensures ∙ c.if-not-is_known.true)

pub returns-then-same : goal.returns-then-same
unfolding contradicted
returns-then-same c =
    rw (
      sym c.is_known.ensures ∙ c.if-not-is_known.false,
      compared c.args.tree.now c.args.row.now c.args.at c.args.i.0 c.entry_place-start.ensures (λ j. (c.type_inv.row j).fits) c.requires.1 c.same.ensures ∙ c.if-same.true,
    )

pub returns : goal.returns
unfolding contradicted
returns c =
    rw (
      sym c.is_known.ensures ∙ c.if-not-is_known.false,
      compared c.args.tree.now c.args.row.now c.args.at c.args.i.0 c.entry_place-start.ensures (λ j. (c.type_inv.row j).fits) c.requires.1 c.same.ensures ∙ c.if-same.false,
    )
