-- A copy hands on what it holds: a packet that is made from an accepted copy passes the check under the copy's root hash and gives the chunk that the copy
-- reads, and after a release the copy takes it in and is what it was, byte for byte.
--
-- The data size is at most 68,719,476,736, what 1,048,576 chunks of 65,536 bytes have. Without that it is false: the roots of 3 chunks are the tree indexes 1
-- and 4; a copy that knows root 1 with 2^37 bytes, not its children, and holds chunk 2 under root 4 is accepted, and the packet of chunk 2 is made, but its
-- lengths add up to over 68,719,476,736, which is 13.
--
-- The notions in it: `HashFunction` (file_format, Messages), `Copy` and `unsigned` (copy_checks, Copy), `AcceptedCopy` (copy_audit, Audit), `packet_of`
-- (packet, Packet), `packet_verdict` and `checked_chunk` (packet, Check), `copy_make_verdict` (copy_packet, Making), `copy_read_part` (copy_lookup, Reading),
-- `copy_root_answer` (copy_roots, Roots), the release (copy_release, Release), `take_verdict` and `after_taking` (copy_take_in, TakeIn).
use Rattle.std.specs.Prelude.{ℕ, ◌≤◌, ◌≡◌, List}
use Rattle.answer_types.specs.Verdict.{done}
use Rattle.byte_strings.specs.Lists.{Bytes}
use Rattle.file_format.specs.Messages.{HashFunction}
use Rattle.packet.specs.Packet.{packet_of}
use Rattle.packet.specs.Check.{packet_verdict, checked_chunk}
use Rattle.copy_checks.specs.Copy.{Copy, files_of, unsigned}
use Rattle.copy_lookup.specs.Reading.{copy_read_part}
use Rattle.copy_roots.specs.Roots.{copy_root_verdict, copy_root_answer}
use Rattle.copy_packet.specs.Making.{copy_make_verdict}
use Rattle.copy_release.specs.Release.{copy_release_verdict, released_copy}
use Rattle.copy_take_in.specs.TakeIn.{take_verdict, taken_in, after_taking}
use Rattle.copy_audit.specs.Audit.{AcceptedCopy}

module _ (F : List ℕ → List ℕ) where
  -- what is claimed of an accepted copy c, from which the packet p of chunk i was made
  pub record HandsOn (c : Copy) (i : ℕ) (p : List ℕ) : Type 0 where
    -- the packet passes the check under the copy's root hash, and gives the chunk
    pub root_done : copy_root_verdict c ≡ done
    pub passes : packet_verdict F p c.n i (copy_root_answer F c) ≡ done
    pub gives : checked_chunk F p c.n i (copy_root_answer F c) ≡ copy_read_part F c i
    -- after a release it is taken in, and every byte is as it was
    pub release_done : copy_release_verdict c i ≡ done
    pub taken_done : take_verdict F (released_copy c i) p i (copy_root_answer F c) ≡ done
    pub taken : after_taking F (released_copy c i) p i (copy_root_answer F c) ≡ files_of c
    pub back : taken_in F (released_copy c i) p i ≡ c

-- for every function F from byte strings to 32 bytes, every accepted copy whose tree and data files hold bytes, of so many bytes at most, and every packet
-- that is made from it
abbrev pub HandsOnForAll : Type 0
HandsOnForAll =
    (F : List ℕ → List ℕ) → HashFunction F → (c : Copy) → Bytes c.tree → Bytes c.content → AcceptedCopy F c → c.size ≤ 68719476736
    → (i : ℕ) (out : List ℕ) → copy_make_verdict F c i out ≡ done → HandsOn F c i (packet_of (unsigned c) i)
