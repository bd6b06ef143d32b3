-- A copy made for a chunk sequence's count and data size that took in each chunk's packet, in any order and as often as it likes, made from registers of
-- that sequence or from such copies, as that chunk and under that sequence's root hash, and that holds every chunk, has that sequence's tree, bitfield and
-- data images: in demand 2's words it belongs to the sequence. Pieces may have been released in between, and the registers may have released others. Such a
-- copy takes in every such packet.
--
-- The notions in it: `HashFunction` (file_format, Messages), `Slot`, `all_held` and `Within` (file_format, Slots), `Register` and `Belongs` (file_format, Belongs), `root_hash_for`
-- (file_format, Images), `Copy` and `unsigned` (copy_checks, Copy), `make_verdict` and `made_copy` (copy_make, Make), `packet_of` and the making of a packet (packet,
-- Packet) and from a copy (copy_packet, Making), `take_verdict` and `taken_in` (copy_take_in, TakeIn), `copy_release_verdict` and `released_copy` (copy_release,
-- Release).
use Rattle.std.specs.Prelude.{ℕ, ◌<◌, ◌≡◌, ◌⊎◌, true, List, [], length, get_or}
use Rattle.answer_types.specs.Verdict.{done}
use Rattle.byte_strings.specs.Lists.{part}
use Rattle.bitfield.specs.Release.{stored_held}
use Rattle.tree_index.specs.Tree.{entries}
use Rattle.file_format.specs.Sizes.{entry_place}
use Rattle.file_format.specs.Messages.{HashFunction}
use Rattle.file_format.specs.Entries.{entry_bytes, leaf, node_at}
use Rattle.file_format.specs.Images.{data_size, leaves, root_hash_for}
use Rattle.file_format.specs.Slots.{Slot, held, released, all_held, Within}
use Rattle.file_format.specs.Belongs.{Register, Belongs}
use Rattle.packet.specs.Packet.{packet_of, make_verdict}
use Rattle.lookup.specs.Theorems.{start_in}
use Rattle.copy_checks.specs.Copy.{Copy, unsigned, known}
use Rattle.copy_make.specs.Make.{make_verdict as making_verdict, made_copy}
use Rattle.copy_packet.specs.Making.{copy_make_verdict}
use Rattle.copy_take_in.specs.TakeIn.{take_verdict, taken_in}
use Rattle.copy_release.specs.Release.{copy_release_verdict, released_copy}

module _ (F : List ℕ → List ℕ) (cs : List (List ℕ)) where
  -- the chunks of a register of the sequence cs: each is held, or released with its leaf entry left
  pub record SlotsOf (ss : List Slot) : Type 0 where
    pub count : length ss ≡ length cs
    pub each : (k : ℕ) → k < length cs → (get_or ss k (held []) ≡ held (get_or cs k [])) ⊎ (get_or ss k (held []) ≡ released (leaf F (get_or cs k [])))

  -- the packet of chunk i, made from a register of the sequence
  pub record MadeFrom (p : List ℕ) (i : ℕ) : Type 0 where
    pub register : Register
    pub slots : List Slot
    pub within : Within slots
    pub belongs : Belongs F register slots
    pub sequence : SlotsOf slots
    pub out : List ℕ
    pub made : make_verdict F register i out ≡ done
    pub packet : p ≡ packet_of register i

  -- the copies in question
  pub data Grown : Copy → Type 0 where
    made : (c : Copy) → c.n ≡ length cs → c.size ≡ data_size cs → making_verdict c ≡ done → Grown (made_copy c)
    and_took : (c : Copy) (p : List ℕ) (i : ℕ) → Grown c → MadeFrom p i → take_verdict F c p i (root_hash_for F (all_held cs)) ≡ done → Grown (taken_in F c p i)
    -- a packet that is made from one of these copies, which hand on what they hold
    and_took_from : (c d : Copy) (i : ℕ) (out : List ℕ) → Grown c → Grown d → copy_make_verdict F d i out ≡ done
        → take_verdict F c (packet_of (unsigned d) i) i (root_hash_for F (all_held cs)) ≡ done → Grown (taken_in F c (packet_of (unsigned d) i) i)
    and_released : (c : Copy) (i : ℕ) → Grown c → copy_release_verdict c i ≡ done → Grown (released_copy c i)

  -- what is claimed of each of them
  pub record GrownOf (c : Copy) : Type 0 where
    -- a known entry is that of the sequence
    pub knows : (j : ℕ) → j < entries c.n → known c j ≡ true → part c.tree (entry_place j) 40 ≡ entry_bytes (node_at F (leaves F (all_held cs)) j)
    -- a chunk that is held lies where the sequence has it
    pub lies : (k : ℕ) → k < c.n → stored_held c.bitfield k ≡ true → part c.content (start_in cs k) (length (get_or cs k [])) ≡ get_or cs k []
    -- no packet that is made from a register of the sequence is refused
    pub takes : (p : List ℕ) (i : ℕ) → MadeFrom p i → take_verdict F c p i (root_hash_for F (all_held cs)) ≡ done
    -- nor one that is made from a copy of the sequence
    pub takes_from : (d : Copy) (i : ℕ) (out : List ℕ) → Grown d → copy_make_verdict F d i out ≡ done
        → take_verdict F c (packet_of (unsigned d) i) i (root_hash_for F (all_held cs)) ≡ done
    -- and a copy that holds every chunk is the whole
    pub whole : ((k : ℕ) → k < c.n → stored_held c.bitfield k ≡ true) → Belongs F (unsigned c) (all_held cs)

-- for every function F from byte strings to 32 bytes, and every chunk sequence
abbrev pub GrownForAll : Type 0
GrownForAll = (F : List ℕ → List ℕ) → HashFunction F → (cs : List (List ℕ)) → Within (all_held cs) → (c : Copy) → Grown F cs c → GrownOf F cs c
