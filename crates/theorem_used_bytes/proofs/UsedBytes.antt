-- No byte behind a used size is looked at: the proof of `UsedBytes`.
-- Assumes nothing.
use Rattle.theorem_used_bytes.specs.UsedBytes.{UsedBytes}
use Rattle.theorem_used_bytes.proofs.Reading.{reads}
use Rattle.theorem_used_bytes.proofs.Writing.{writes}

pub used_bytes : UsedBytes
used_bytes = record { reads = reads; writes = writes }
