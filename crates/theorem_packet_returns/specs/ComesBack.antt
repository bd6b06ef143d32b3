-- "A released piece comes back this way too, a register's by lending it as a copy." The packet made of a chunk before its release is taken in by the
-- released register, lent as a copy, under the register's root hash, and every byte is as it was. Other chunks of the register may be released, with
-- whatever hash and length their entries have.
--
-- The notions in it: `HashFunction` (file_format, Messages), `Register` and `Lent` (file_format, Belongs), `Accepted` (audit, Audit), `packet_of` and the
-- making of a packet (packet, Packet), `release_verdict` and `released_register` (release, Release), `root_verdict` and `root_answer` (writing, RootHash),
-- `lent_as_copy` (copy_checks, Copy), `take_verdict` and `after_taking` (copy_take_in, TakeIn), `returned` (theorem_released_back, Returned).
use Rattle.std.specs.Prelude.{ℕ, ◌≤◌, ◌<◌, ◌≡◌, true, List, length}
use Rattle.answer_types.specs.Verdict.{done}
use Rattle.byte_strings.specs.Lists.{put}
use Rattle.bitfield.specs.Release.{stored_held}
use Rattle.file_format.specs.Messages.{HashFunction}
use Rattle.file_format.specs.Belongs.{Register, Lent}
use Rattle.writing.specs.RootHash.{root_verdict, root_answer}
use Rattle.audit.specs.Audit.{Accepted}
use Rattle.release.specs.Release.{release_verdict, released_register}
use Rattle.packet.specs.Packet.{packet_of, make_verdict, after_make, made_length}
use Rattle.copy_checks.specs.Copy.{files_of, lent_as_copy}
use Rattle.copy_take_in.specs.TakeIn.{take_verdict, after_taking}
use Rattle.theorem_released_back.specs.Returned.{returned}

module _ (F : List ℕ → List ℕ) where
  -- what is claimed of an accepted register r and of its chunk i, which is held
  pub record ComesBack (r : Register) (i : ℕ) : Type 0 where
    -- the packet is made, with room for it: it stands at the buffer's front, and its length is the answer
    pub made_done : (out : List ℕ) → length (packet_of r i) ≤ length out → make_verdict F r i out ≡ done
    pub made : (out : List ℕ) → length (packet_of r i) ≤ length out → after_make F r i out ≡ put out 0 (packet_of r i)
    pub long : (out : List ℕ) → length (packet_of r i) ≤ length out → made_length F r i out ≡ length (packet_of r i)
    -- the root hash is given, and the release is done
    pub root_done : root_verdict r ≡ done
    pub release_done : release_verdict r i ≡ done
    -- and the register, lent as a copy, takes the packet in: its files are what they were
    pub taken_done : take_verdict F (lent_as_copy (released_register r i)) (packet_of r i) i (root_answer F r) ≡ done
    pub taken : after_taking F (lent_as_copy (released_register r i)) (packet_of r i) i (root_answer F r) ≡ files_of (lent_as_copy r)
    -- so it is the register that it was, byte for byte
    pub back : returned F (released_register r i) (packet_of r i) i ≡ r

-- for every function F from byte strings to 32 bytes, every accepted register in buffers that hold bytes, and each of its chunks that is held
abbrev pub ComesBackForAll : Type 0
ComesBackForAll =
    (F : List ℕ → List ℕ) → HashFunction F → (r : Register) → Lent r → Accepted F r → (i : ℕ) → i < r.n → stored_held r.bitfield i ≡ true
    → ComesBack F r i
