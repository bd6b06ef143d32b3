-- What a packet is that is taken in. Assumes nothing.
use Prim.Native.Nat.{ℕ, ◌≤◌}
use mathlib.Core.Path.{◌≡◌, sym}
use mathlib.Core.List.{List, [], ◌∷◌, map}
use native.Mathlib.Omega.{arith}
use borrow.Author.Tests.{eqb-true}
use lib.Dec.{eqb}
use lib.ListN.{length}
use Rattle.answer_types.specs.Verdict.{tree, done, Verdict, and_then}
use Rattle.byte_strings.specs.Lists.{Bytes}
use Rattle.byte_strings.specs.Numbers.{number}
use Rattle.byte_strings.specs.Lowest.{nowhere}
use Rattle.byte_strings.proofs.Lists.{bytes_part}
use Rattle.tree_index.specs.Tree.{index}
use Rattle.checks.specs.Checks.{Check, judged}
use Rattle.checks.proofs.Judged.{judged_done}
use Rattle.audit.specs.Audit.{refused_at}
use Rattle.audit.proofs.Audited.{at_must}
use Rattle.packet.specs.Check.{chunk_length, packet_chunk, packet_total, packet_verdict}
use Rattle.packet.specs.Inner.{Shaped}
use Rattle.packet.proofs.Shape.{sized}
use Rattle.copy_checks.specs.Copy.{Copy}
use Rattle.copy_checks.specs.Least.{least_of}
use Rattle.copy_checks.proofs.Least.{lower_none}
use Rattle.copy_checks.proofs.Steps.{Lent, partly_passed}
use Rattle.copy_take_in.specs.TakeIn.{bytes_contradicted, index_if, contradicts, packet_start, brought, contradiction, take_verdict}
use Rattle.copy_take_in.specs.Inner.{Fits}
use Rattle.copy_take_in.proofs.Stages.{fits, then_done}
use Rattle.copy_take_in.proofs.Places.{chunk_long}

-- a copy took in a packet: it passes 2, 4 and 5, the packet its check, its total is the data size, and nothing is contradicted
pub record Took (F : List ℕ → List ℕ) (c : Copy) (p : List ℕ) (i : ℕ) : Type 0 where
  pub lent : Lent c
  pub packet : Fits p c.n i
  pub total : packet_total p c.n i ≡ c.size
  pub bytes : index_if (bytes_contradicted c.bitfield c.content i (packet_start p c.n i) (packet_chunk p)) (index 0 i) ≡ nowhere
  pub entries : least_of (map (contradicts c.tree c.bitfield) (brought F p c.n i)) ≡ nowhere

pub took : (F : List ℕ → List ℕ) (c : Copy) (p : List ℕ) (i : ℕ) (root : List ℕ) → take_verdict F c p i root ≡ done → Took F c p i
unfolding take_verdict contradiction
took F c p i root e =
    let check : Check = record { number = 6; right = eqb (packet_total p c.n i) c.size } in
    let last : Verdict = refused_at 19 tree (contradiction F c p i) done in
    let a = partly_passed c (and_then (packet_verdict F p c.n i root) (judged (check ∷ []) last)) e in
    let b = then_done (packet_verdict F p c.n i root) (judged (check ∷ []) last) a.1.1 in
    let d = judged_done (check ∷ []) last b.1 in
    let n = lower_none _ _ (at_must 19 tree (contradiction F c p i) done d.1).0 in
    record {
      lent = a.0;
      packet = fits F c p i root (sym b.0);
      total = eqb-true (packet_total p c.n i) c.size d.0.0;
      bytes = n.0;
      entries = n.1;
    }

-- ---- its chunk

module _ (p : List ℕ) (n c : ℕ) (s : Shaped p n c) (b : Bytes p) where
  pub chunk_bytes : Bytes (packet_chunk p)
  unfolding packet_chunk
  chunk_bytes = bytes_part p 4 (chunk_length p) b

  pub chunk_short : length (packet_chunk p) ≤ 65536
  chunk_short = omega (arith, chunk_long p n c s, (sized p n c s.shape).chunk)
