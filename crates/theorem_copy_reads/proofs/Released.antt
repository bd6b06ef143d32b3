-- A release changes no tree bit: what was known stays known. Assumes nothing.
use Prim.Native.Nat.{ℕ, ◌+◌, ◌-◌, ◌*◌, ◌/◌, ◌%◌, ◌≤◌}
use mathlib.Core.Path.{◌≡◌, ap, ◌∙◌}
use mathlib.Core.Logic.{inl, inr}
use mathlib.Core.List.{List}
use native.Mathlib.Decide.{dec_lt}
use native.Mathlib.Omega.{arith}
use lib.Dec.{eqb}
use lib.ListN.{length, length-set}
use lib.Seq.{get_or-set_other}
use Rattle.byte_strings.specs.Lists.{part}
use Rattle.bitfield.specs.Bits.{digit, bit_at, change_bit}
use Rattle.bitfield.specs.Index.{index_bytes}
use Rattle.bitfield.specs.Append.{bits_place, regenerated}
use Rattle.bitfield.specs.Known.{stored_known}
use Rattle.bitfield.specs.Release.{clear_data_bit, released_bits}
use Rattle.bitfield.proofs.Levels.{length_index}
use Rattle.bitfield.proofs.Beside.{bit_beside}

module _ (xs : List ℕ) (k : ℕ) (room : bits_place (k / 8192 + 1) ≤ length xs) (i : ℕ) where
  -- the data bit that is cleared lies in the first 1,024 bytes of its entry, the Index in the last 256, and tree bits between them
  bit_cleared : stored_known (clear_data_bit xs k) i ≡ stored_known xs i
  unfolding stored_known bit_at clear_data_bit change_bit bits_place
  bit_cleared =
      ap (λ (x : ℕ). eqb (digit x (7 - i % 16384 % 8)) 1)
      (get_or-set_other xs (32 + 3328 * (k / 8192) + k % 8192 / 8) (32 + 3328 * (i / 16384) + 1024 + i % 16384 / 8) _ 0 (λ e. omega arith))

  pub known_released : stored_known (released_bits xs k) i ≡ stored_known xs i
  unfolding stored_known released_bits regenerated clear_data_bit change_bit bits_place
  known_released =
      let e : ℕ = 32 + 3328 * (k / 8192) in
      let l = length_index (part (clear_data_bit xs k) e 1024) in
      let long : length (clear_data_bit xs k) ≡ length xs = simp length-set in
      bit_beside (clear_data_bit xs k) (e + 3072) (index_bytes (part (clear_data_bit xs k) e 1024)) (32 + 3328 * (i / 16384) + 1024) (i % 16384)
      (elim (dec_lt (k / 8192) (i / 16384)) [ yes h ↦ inr (omega arith) | no h ↦ inl (omega arith) ]) (omega arith) ∙ bit_cleared
