-- Demand 2, of packets: "Lookups and packets answer as document 01 defines them." On a register that belongs to chunks, held or released, the packet made of a
-- chunk that is held passes the check under their root hash, whatever else is released, and the check gives the very chunk back.
--
-- The notions in it: `HashFunction` (file_format, Messages), `Slot` and `Within` (file_format, Slots), `Register` and `Belongs` (file_format, Belongs), `root_hash_for` (file_format, Images),
-- `judged` and `register_checks` (checks, Checks), `chunk_bytes` and `read_verdict` (lookup, Read), `packet_of`, `packet_extra` and `make_verdict`
-- (Packet), `packet_verdict` and `checked_chunk` (Check).
use Rattle.std.specs.Prelude.{ℕ, ◌+◌, ◌*◌, ◌≤◌, ◌<◌, ◌≡◌, true, List, [], length, get_or}
use Rattle.answer_types.specs.Verdict.{done}
use Rattle.byte_strings.specs.Lists.{part}
use Rattle.file_format.specs.Messages.{HashFunction}
use Rattle.file_format.specs.Sizes.{most_chunks}
use Rattle.file_format.specs.Images.{root_hash_for}
use Rattle.file_format.specs.Slots.{Slot, contents, held_in, Within}
use Rattle.file_format.specs.Belongs.{Register, Belongs}
use Rattle.checks.specs.Checks.{judged, register_checks}
use Rattle.lookup.specs.Read.{chunk_bytes, read_verdict}
use Rattle.packet.specs.Packet.{siblings, other_roots, packet_of, packet_extra, make_verdict}
use Rattle.packet.specs.Check.{chunk_length, packet_verdict, checked_chunk}

-- what is claimed of a register that passes the checks 2 to 6 and belongs to the chunks ss, and of its chunk i, which is held
pub record PacketAnswers (F : List ℕ → List ℕ) (r : Register) (ss : List Slot) (i : ℕ) : Type 0 where
  -- the packet is made wherever the buffer has room for it
  pub made : (out : List ℕ) → length (packet_of r i) ≤ length out → make_verdict F r i out ≡ done
  pub long : length (packet_of r i)
      ≡ 4 + length (get_or (contents ss) i []) + 1 + 40 * length (siblings r.n i) + 1 + 40 * length (other_roots r.n i)
  -- it passes the check under the root hash
  pub passes : packet_verdict F (packet_of r i) r.n i (root_hash_for F ss) ≡ done
  -- and the check gives the chunk back
  pub gives : checked_chunk F (packet_of r i) r.n i (root_hash_for F ss) ≡ get_or (contents ss) i []

-- for every function F from byte strings to 32 bytes
abbrev pub PacketAnswersForAll : Type 0
PacketAnswersForAll =
    (F : List ℕ → List ℕ) → HashFunction F → (ss : List Slot) → Within ss → (r : Register) → Belongs F r ss
    → judged (register_checks r) done ≡ done → (i : ℕ) → held_in ss i ≡ true → PacketAnswers F r ss i

-- what is claimed of every packet that passes the check, whatever bytes it is made of
pub record PartStaysInside (F : List ℕ → List ℕ) (p : List ℕ) (n i : ℕ) (root : List ℕ) : Type 0 where
  -- the chunk's part, behind its 4-byte length, lies within the packet
  pub inside : 4 + chunk_length p ≤ length p
  pub is : checked_chunk F p n i root ≡ part p 4 (chunk_length p)

abbrev pub PartStaysInsideForAll : Type 0
PartStaysInsideForAll =
    (F : List ℕ → List ℕ) (p : List ℕ) (n i : ℕ) (root : List ℕ) → packet_verdict F p n i root ≡ done → PartStaysInside F p n i root

-- what is claimed of the packet of chunk i of every register, whatever its buffers hold
pub record PacketStaysShort (r : Register) (i : ℕ) : Type 0 where
  -- 1,048,576 chunks have one root, with 20 siblings below it; fewer have at most 19 siblings and 19 other roots
  pub few : length (siblings r.n i) + length (other_roots r.n i) ≤ 38
  pub short : length (packet_of r i) ≤ length (chunk_bytes r i) + packet_extra
  -- so a buffer with room for the chunk and so many bytes more is never too short: making the packet says what the read says
  pub room : (F : List ℕ → List ℕ) (out : List ℕ) → length (chunk_bytes r i) + packet_extra ≤ length out
      → make_verdict F r i out ≡ read_verdict F r i

abbrev pub PacketStaysShortForAll : Type 0
PacketStaysShortForAll = (r : Register) → r.n ≤ most_chunks → (i : ℕ) → i < r.n → PacketStaysShort r i
