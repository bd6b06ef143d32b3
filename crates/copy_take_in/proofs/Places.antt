-- Where a packet's parts lie in its bytes. Assumes nothing.
use Prim.Native.Nat.{ℕ, ◌+◌, ◌-◌, ◌*◌, ◌^◌, ◌≤◌, ◌<◌}
use mathlib.Core.Path.{◌≡◌, ap}
use mathlib.Core.List.{List}
use native.Mathlib.Omega.{arith}
use lib.ListN.{length, take, drop}
use Rattle.byte_strings.specs.Lists.{part}
use Rattle.byte_strings.proofs.Lists.{length_part}
use Rattle.packet.specs.Packet.{siblings, other_roots}
use Rattle.packet.specs.Check.{chunk_length, siblings_place, others_place, packet_chunk}
use Rattle.packet.specs.Inner.{RowIn, Shaped}
use Rattle.packet.proofs.Above.{few_siblings, few_others}
use Rattle.packet.proofs.Shape.{sized}

module _ (p : List ℕ) (n c : ℕ) (s : Shaped p n c) where
  pub record Placed (l u o : ℕ) : Type 0 where
    pub chunk : l ≤ 65536
    pub up : u ≤ 20
    pub others : o ≤ 19
    pub whole : length p ≡ 4 + l + 1 + 40 * u + 1 + 40 * o

  pub placed : Placed (chunk_length p) (length (siblings n c)) (length (other_roots n c))
  placed =
      let z = sized p n c s.shape in
      record { chunk = z.chunk; up = few_siblings n c s.chunk; others = few_others n c s.chunk; whole = z.whole }

  pub chunk_long : length (packet_chunk p) ≡ chunk_length p
  unfolding packet_chunk
  chunk_long = let z = placed in length_part p 4 (chunk_length p) (omega arith)

module _ {p : List ℕ} {n c : ℕ} (s : Shaped p n c) where
  pub front : 4 ≤ length p
  front = (sized p n c s.shape).front

  module _ {first : ℕ} (e : first ≡ siblings_place p + 1) where
    pub first_is : first ≡ 4 + chunk_length p + 1
    unfolding siblings_place
    first_is = e

    pub second_is : {u : ℕ} → u ≡ length (siblings n c) → first + 40 * u + 1 ≡ others_place p n c + 1
    unfolding others_place
    second_is f = omega (arith, e, f)

    pub chunk_part : take (first - 1 - 4) (drop 4 p) ≡ packet_chunk p
    unfolding packet_chunk part
    chunk_part = let q : first - 1 - 4 ≡ chunk_length p = omega (arith, first_is) in ap (λ (k : ℕ). take k (drop 4 p)) q

    pub chunk_in : (4 ≤ first - 1) × (first - 1 ≤ length p) × (1 ≤ first)
    chunk_in = let z = placed p n c s in (omega (arith, first_is), omega (arith, first_is), omega (arith, first_is))

    pub beside_in : {u : ℕ} → u ≡ length (siblings n c) → RowIn p first u
    beside_in f = let z = placed p n c s in record { few = omega arith; inside = omega (arith, first_is) }

    pub roots_in : {u o : ℕ} → u ≡ length (siblings n c) → o ≡ length (other_roots n c) → RowIn p (first + 40 * u + 1) o
    roots_in f g = let z = placed p n c s in record { few = omega arith; inside = omega (arith, first_is) }

    pub places_fit : {u : ℕ} → u ≡ length (siblings n c) → first + 40 * u + 1 < 2 ^ 64
    places_fit f = let z = placed p n c s in omega (arith, first_is)
