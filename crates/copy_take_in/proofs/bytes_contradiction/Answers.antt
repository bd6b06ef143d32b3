-- `copy_take_in::bytes_contradiction` meets its contract. Assumes nothing.
use mathlib.Core.Path.{◌≡◌, sym, ap, ◌∙◌}
use mathlib.Core.List.{List}
use mathlib.Core.Bool.{Bool}
use Prim.Native.Nat.{ℕ, ◌+◌, ◌-◌}
use lib.ListN.{length, take, drop}
use Rattle.byte_strings.specs.Lists.{part, same_list}
use Rattle.byte_strings.specs.Lowest.{first}
use Rattle.byte_strings.proofs.Lists.{as_part_lem}
use Rattle.copy_take_in.specs.TakeIn.{bytes_contradicted}
use Rattle.copy_take_in.proofs.bytes_contradiction.Goals as goal

-- the bytes at the start, compared
compared : (content bytes : List ℕ) (start : ℕ) {b : Bool} → b ≡ same_list (take (start + length bytes - start) (drop start content)) bytes
    → same_list (part content start (length bytes)) bytes ≡ b
compared content bytes start f = sym (f ∙ ap (λ (x : List ℕ). same_list x bytes) (as_part_lem content start (length bytes)))

pub returns-then-not-is_held : goal.returns-then-not-is_held
unfolding bytes_contradicted
returns-then-not-is_held c = rw (sym c.is_held.ensures ∙ c.if-not-is_held.true)

pub returns-then-same : goal.returns-then-same
unfolding bytes_contradicted
returns-then-same c = rw (sym c.is_held.ensures ∙ c.if-not-is_held.false, compared c.args.content.now c.args.bytes.now c.args.start c.same.ensures ∙ c.if-same.true)

pub returns : goal.returns
unfolding bytes_contradicted
returns c = rw (sym c.is_held.ensures ∙ c.if-not-is_held.false, compared c.args.content.now c.args.bytes.now c.args.start c.same.ensures ∙ c.if-same.false) (ap first c.leaf_index.ensures)
