-- A packet of the first m chunks, as a register had them when it had m: the making of a packet, told m for n and the size of m chunks, on the register of more chunks.
-- Its tree file holds entries where m chunks have holes, and its bitfield bits behind them, so it does not belong to the first m chunks; but the making reads complete
-- subtrees alone.
--
-- The notions in it: `HashFunction` (file_format, Messages), `Slot` and `Within` (file_format, Slots), `Register` and `Belongs` (file_format, Belongs), `data_size` and
-- `root_hash_for` (file_format, Images), the used sizes (file_format, Sizes), `signed_right`, `judged` and `register_checks` (checks, Checks), `packet_of`, `make_verdict`,
-- `made_length` and `after_make` (packet, Packet), `packet_verdict` and `checked_chunk` (packet, Check).
use Rattle.std.specs.Prelude.{ℕ, ◌≤◌, ◌<◌, ◌≡◌, true, List, [], length, get_or, take}
use Rattle.answer_types.specs.Verdict.{done}
use Rattle.file_format.specs.Messages.{HashFunction}
use Rattle.file_format.specs.Sizes.{used_signatures}
use Rattle.file_format.specs.Images.{data_size, root_hash_for}
use Rattle.file_format.specs.Slots.{Slot, contents, held_in, Within}
use Rattle.file_format.specs.Belongs.{Register, Belongs}
use Rattle.checks.specs.Checks.{signed_right, judged, register_checks}
use Rattle.packet.specs.Packet.{packet_of, make_verdict, made_length, after_make}
use Rattle.packet.specs.Check.{packet_verdict, checked_chunk}

-- the four images of a register, told other numbers
unfoldable pub told_as : Register → ℕ → ℕ → ℕ → Register
told_as r m s size =
    record { tree = r.tree; signatures = r.signatures; bitfield = r.bitfield; content = r.content; n = m; s = s; size = size }

-- what is told of the first m chunks of a register that belongs to ss: their data size, which 6 asks for, and a count of signatures that 3 and 4 let pass, m or m - 1. (The
-- register's own count is refused with 3 unless m is n or n - 1.)
pub record Told (r : Register) (ss : List Slot) (m s size : ℕ) : Type 0 where
  pub few : m ≤ length ss
  pub sized : size ≡ data_size (contents (take m ss))
  pub signed : signed_right m s ≡ true
  pub stored : used_signatures s ≤ length r.signatures

-- of its chunk i, which is held and among the first m
pub record PrefixPacket (F : List ℕ → List ℕ) (p : Register) (ss : List Slot) (m i : ℕ) : Type 0 where
  -- it is done where there is room
  pub made : (out : List ℕ) → length (packet_of p i) ≤ length out → make_verdict F p i out ≡ done
  -- it gives the very packet that a register of the first m chunks gives, whichever that is, and leaves the same buffer
  pub same : (q : Register) → Belongs F q (take m ss) → judged (register_checks q) done ≡ done → packet_of p i ≡ packet_of q i
  pub says : (q : Register) → Belongs F q (take m ss) → judged (register_checks q) done ≡ done
      → (out : List ℕ) → make_verdict F p i out ≡ make_verdict F q i out
  pub long : (q : Register) → Belongs F q (take m ss) → judged (register_checks q) done ≡ done
      → (out : List ℕ) → made_length F p i out ≡ made_length F q i out
  pub left : (q : Register) → Belongs F q (take m ss) → judged (register_checks q) done ≡ done
      → (out : List ℕ) → after_make F p i out ≡ after_make F q i out
  -- which passes the check under their root hash, and gives the chunk back
  pub passes : packet_verdict F (packet_of p i) m i (root_hash_for F (take m ss)) ≡ done
  pub gives : checked_chunk F (packet_of p i) m i (root_hash_for F (take m ss)) ≡ get_or (contents ss) i []

-- for every function F from byte strings to 32 bytes
abbrev pub PrefixPacketsForAll : Type 0
PrefixPacketsForAll =
    (F : List ℕ → List ℕ) → HashFunction F → (ss : List Slot) → Within ss → (r : Register) → Belongs F r ss → judged (register_checks r) done ≡ done
    → (m s size : ℕ) → Told r ss m s size
    → (judged (register_checks (told_as r m s size)) done ≡ done) × ((i : ℕ) → i < m → held_in ss i ≡ true → PrefixPacket F (told_as r m s size) ss m i)
