-- What number 4 gives to the numbers 5 and 6: the room of the buffers.
use mathlib.Core.Path.{sym, ◌∙◌}
use Rattle.checks.proofs.Steps.{rooms}
use Rattle.checks.proofs.judge_later.Goals as goal

pub heads_right-requires : goal.heads_right-requires
heads_right-requires c = (rooms _ (sym c.long_right.ensures ∙ c.if-not-long_right.false)).heads

pub adds_up-requires : goal.adds_up-requires
adds_up-requires c = record { count = c.requires; inside = (rooms _ (sym c.long_right.ensures ∙ c.if-not-long_right.false)).tree }
