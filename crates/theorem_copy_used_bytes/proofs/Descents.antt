-- The descents of a copy and of the same cut to its used sizes end alike. Assumes nothing.
use Prim.Native.Nat.{ℕ}
use mathlib.Core.Path.{◌≡◌}
use Rattle.lookup.specs.Descent.{chunk_within, byte_within}
use Rattle.theorem_used_bytes.proofs.Lookups.{descent_cut}
use Rattle.copy_checks.specs.Copy.{Copy, known}
use Rattle.copy_checks.specs.Descents.{copy_to_chunk, copy_to_byte}
use Rattle.theorem_copy_used_bytes.proofs.Cut.{cut_copy, known_cut}

module _ (c : Copy) where
  pub to_chunk_cut : (i : ℕ) → copy_to_chunk (cut_copy c) i ≡ copy_to_chunk c i
  unfolding copy_to_chunk
  to_chunk_cut i = descent_cut (known (cut_copy c)) (known c) (chunk_within i) c.tree c.n (known_cut c.bitfield c.n)

  pub to_byte_cut : (b : ℕ) → copy_to_byte (cut_copy c) b ≡ copy_to_byte c b
  unfolding copy_to_byte
  to_byte_cut b = descent_cut (known (cut_copy c)) (known c) (byte_within b) c.tree c.n (known_cut c.bitfield c.n)
