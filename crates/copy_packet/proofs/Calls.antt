-- What the code of making a packet from a copy needs of the definitions: what the read found, p, may go into a packet. Assumes nothing.
use Rattle.std.specs.Prelude.{Result}
use Prim.Native.Nat.{ℕ}
use mathlib.Core.Path.{◌≡◌, sym, ap, ◌∙◌}
use mathlib.Core.List.{List}
use Rattle.answer_types.specs.Verdict.{done}
use Rattle.lookup.specs.Lookup.{Found}
use Rattle.lookup.specs.Read.{verdict_found, bytes_found, chunk_bytes}
use Rattle.lookup.proofs.Lookups.{found_done}
use Rattle.packet.specs.Packet.{packet_of, packet_with}
use Rattle.packet.specs.Inner.{ReadIn}
use Rattle.packet.specs.Post.{MadeBehind}
use Rattle.answer_types.specs.declared.Refusal.{Refusal}
use Rattle.packet.proofs.Makes.{readable, made_alike, part_bytes as register-bytes}
use Rattle.copy_checks.specs.Copy.{Copy, unsigned}
use Rattle.copy_checks.proofs.Signed.{signed}
use Rattle.copy_lookup.specs.Reading.{copy_read_found}
use Rattle.copy_lookup.proofs.AsRegister.{read_as, read_found_as}
use Rattle.copy_lookup.proofs.Calls.{read_in_lem as part_in_lem, read_says_lem}
use Rattle.copy_packet.specs.Making.{copy_make_verdict, CopyMadeAs}

module _ (F : List ℕ → List ℕ) (c : Copy) (i : ℕ) (p : Found) (e : p ≡ copy_read_found F c i) where
  part_bytes : verdict_found p ≡ done → bytes_found c.content p ≡ chunk_bytes (unsigned c) i
  unfolding chunk_bytes
  part_bytes d =
      let a = found_done p d in
      register-bytes F (signed c) i p (a.2 ∙ read_found_as F c i a.0 a.1 (sym a.2 ∙ e)) d

  pub read_in_lem : ReadIn c.tree c.content c.n i p
  unfolding chunk_bytes
  read_in_lem =
      record {
        part = part_in_lem F c i p e;
        readable = λ d. readable F (signed c) i (sym (read_as F c i (sym (read_says_lem F c i p e) ∙ d))) _ (part_bytes d);
      }

  pub made_as : {out : List ℕ} {answer : Result ℕ Refusal} {after : List ℕ}
      → MadeBehind (verdict_found p) (packet_with c.tree c.n i (bytes_found c.content p)) out answer after → CopyMadeAs F c i out answer after
  unfolding copy_make_verdict packet_of
  made_as = made_alike (read_says_lem F c i p e) (λ d. ap (packet_with c.tree c.n i) (part_bytes d))
