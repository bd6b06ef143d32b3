-- The part of a packet that passes the check lies within the packet. Assumes nothing.
use mathlib.Core.Path.{ap}
use mathlib.Core.List.{[]}
use native.Mathlib.Omega.{arith}
use Rattle.answer_types.specs.Verdict.{Verdict, done, unless_refused}
use Rattle.checks.proofs.Passed.{all-must}
use Rattle.packet.specs.Check.{packet_chunk, packet_verdict, checked_chunk}
use Rattle.packet.specs.Theorems.{PartStaysInsideForAll}
use Rattle.packet.proofs.Shape.{sized}

pub part_stays_inside : PartStaysInsideForAll
unfolding packet_verdict checked_chunk packet_chunk
part_stays_inside F p n i root e =
    let s = sized p n i (all-must _ done e).0.1.1.0 in
    record { inside = omega (arith, s.whole); is = ap (λ (v : Verdict). unless_refused v (packet_chunk p) []) e }
