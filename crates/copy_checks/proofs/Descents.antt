-- The descents on a copy beside a register's: one that is not ended by an unknown entry is the register's.
-- Assumes nothing.
use Prim.Native.Nat.{ℕ}
use mathlib.Core.Path.{◌≡◌, refl, sym, ap, ◌∙◌}
use native.Mathlib.Omega.{arith}
use Rattle.byte_strings.specs.Lowest.{Lowest, nowhere, first}
use Rattle.lookup.specs.Descent.{Ending, reached, chunk_within, byte_within}
use Rattle.lookup.specs.Unknown.{first_unknown}
use Rattle.lookup.specs.Lookup.{to_chunk, to_byte}
use Rattle.lookup.proofs.ReadOrder.{reads, pair, law_descent}
use Rattle.copy_checks.specs.Copy.{Copy, known, unsigned}
use Rattle.copy_checks.specs.Descents.{copy_to_chunk, copy_to_byte}

-- the first unknown entry that the descent to chunk i reads, and that to the byte at offset b
unfoldable pub unknown_to_chunk : Copy → ℕ → Lowest
unknown_to_chunk c i = first_unknown (known c) (reads (chunk_within i) c.tree c.n)

unfoldable pub unknown_to_byte : Copy → ℕ → Lowest
unknown_to_byte c b = first_unknown (known c) (reads (byte_within b) c.tree c.n)

-- all that a descent reads it has read by the time it comes to a leaf
pair_reached : (x : Lowest) (e : Ending) {k s : ℕ} → pair x e ≡ reached k s → x ≡ nowhere
pair_reached nowhere e q = refl
pair_reached (first i) e q = let z : ◌≡◌ {A = ℕ} 0 1 = cc in absurd (omega arith)

module _ (c : Copy) (i : ℕ) where
  pub to_chunk_lem : copy_to_chunk c i ≡ pair (unknown_to_chunk c i) (to_chunk (unsigned c) i)
  unfolding copy_to_chunk to_chunk unknown_to_chunk
  to_chunk_lem = law_descent (known c) (chunk_within i) c.tree c.n

  -- one that comes to a leaf has met no unknown entry, and is the register's
  pub chunk_read : {k s : ℕ} → copy_to_chunk c i ≡ reached k s → unknown_to_chunk c i ≡ nowhere
  chunk_read e = pair_reached (unknown_to_chunk c i) (to_chunk (unsigned c) i) (sym to_chunk_lem ∙ e)

  pub chunk_same : unknown_to_chunk c i ≡ nowhere → copy_to_chunk c i ≡ to_chunk (unsigned c) i
  chunk_same e = to_chunk_lem ∙ ap (λ (x : Lowest). pair x (to_chunk (unsigned c) i)) e

module _ (c : Copy) (b : ℕ) where
  pub to_byte_lem : copy_to_byte c b ≡ pair (unknown_to_byte c b) (to_byte (unsigned c) b)
  unfolding copy_to_byte to_byte unknown_to_byte
  to_byte_lem = law_descent (known c) (byte_within b) c.tree c.n

  pub byte_same : unknown_to_byte c b ≡ nowhere → copy_to_byte c b ≡ to_byte (unsigned c) b
  byte_same e = to_byte_lem ∙ ap (λ (x : Lowest). pair x (to_byte (unsigned c) b)) e
