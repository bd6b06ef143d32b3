-- `copy_take_in::way::entry_row` meets its contract. Assumes nothing.
use mathlib.Core.Path.{sym, ◌∙◌}
use Prim.Native.Nat.{ℕ}
use lib.ListN.{replicate, length-replicate}
use Rattle.byte_strings.proofs.Lists.{put_whole}
use Rattle.file_format.specs.Entries.{entry_bytes}
use Rattle.packet.specs.Inner.{entry_of}
use Rattle.copy_take_in.proofs.way.entry_row.Goals as goal

pub returns : goal.returns
unfolding entry_bytes
returns c = c.put_entry.ensures.placed ∙ put_whole (replicate 40 0) (entry_bytes (entry_of c.args.node)) (length-replicate {A = ℕ} 40 0 ∙ sym c.put_entry.ensures.whole)
