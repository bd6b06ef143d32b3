-- "Taking in a packet": what holds of every copy afterwards, accepted by the audit or not, whatever else its files hold. The chunk is read as the packet
-- has it, the root hash is the one that the packet was checked against, the packet made of that chunk is the very packet, and a release is undone by it.
--
-- The notions in it: `HashFunction` (file_format, Messages), `Copy` and `known` (copy_checks, Copy), `take_verdict` and `taken_in` (copy_take_in, TakeIn),
-- `packet_chunk` (packet, Check), `siblings` and `other_roots` (packet, Packet), `copy_read_verdict` and `copy_read_part` (copy_lookup, Reading), the root hash of
-- a copy (copy_roots, Roots), the making of a packet from a copy (copy_packet, Making), the release (copy_release, Release).
use Rattle.std.specs.Prelude.{ℕ, suc, ◌/◌, ◌^◌, ◌≤◌, ◌≡◌, true, false, ◌||◌, List, ◌++◌, length}
use Rattle.answer_types.specs.Verdict.{done}
use Rattle.byte_strings.specs.Lists.{part, put, run, among, Bytes}
use Rattle.tree_index.specs.Tree.{index}
use Rattle.bitfield.specs.Release.{stored_held}
use Rattle.file_format.specs.Sizes.{entry_place}
use Rattle.file_format.specs.Messages.{HashFunction}
use Rattle.packet.specs.Packet.{siblings, other_roots}
use Rattle.packet.specs.Check.{packet_chunk}
use Rattle.copy_checks.specs.Copy.{Copy, known}
use Rattle.copy_lookup.specs.Reading.{copy_read_verdict, copy_read_part}
use Rattle.copy_roots.specs.Roots.{copy_root_verdict, copy_root_answer}
use Rattle.copy_packet.specs.Making.{copy_make_verdict, copy_after_make, copy_made_length}
use Rattle.copy_release.specs.Release.{copy_release_verdict, released_copy}
use Rattle.copy_take_in.specs.TakeIn.{take_verdict, taken_in}

-- "leaf, siblings, parents on the way and roots": the tree indexes of what any packet of chunk i among n chunks brings. They are those of the way from the
-- leaf up to the root above it, of the siblings beside it, and of the other roots
unfoldable pub brought_indexes : ℕ → ℕ → List ℕ
brought_indexes n i = run (λ d. index d (i / 2 ^ d)) 0 (suc (length (siblings n i))) ++ (siblings n i ++ other_roots n i)

module _ (F : List ℕ → List ℕ) where
  -- what is claimed of the copy c, which took in the packet p of chunk i under a root hash and is `after` now
  pub record TakenIn (c : Copy) (p : List ℕ) (i : ℕ) (root : List ℕ) (after : Copy) : Type 0 where
    -- the read of chunk i is done, and gives the packet's chunk
    pub read_done : copy_read_verdict F after i ≡ done
    pub reads : copy_read_part F after i ≡ packet_chunk p
    -- the root hash is the one that the packet was taken in under
    pub root_done : copy_root_verdict after ≡ done
    pub root_same : copy_root_answer F after ≡ root
    -- the packet made of chunk i, with room for it, is that packet
    pub made_done : (out : List ℕ) → length p ≤ length out → copy_make_verdict F after i out ≡ done
    pub made : (out : List ℕ) → length p ≤ length out → copy_after_make F after i out ≡ put out 0 p
    pub long : (out : List ℕ) → length p ≤ length out → copy_made_length F after i out ≡ length p
    -- chunk i is released, and taken in again, and every byte is as it was
    pub release_done : copy_release_verdict after i ≡ done
    pub again_done : take_verdict F (released_copy after i) p i root ≡ done
    pub again : taken_in F (released_copy after i) p i ≡ after
    -- chunk i is held, and no other data bit has changed
    pub holds : stored_held after.bitfield i ≡ true
    pub held_stay : (j : ℕ) → (j ≡ i → ⊥) → stored_held after.bitfield j ≡ stored_held c.bitfield j
    -- an entry is known exactly if it was or was brought, and one that was not brought, or was known, is what it was
    pub knows : (j : ℕ) → known after j ≡ (among j (brought_indexes c.n i) || known c j)
    pub entries_stay : (j : ℕ) → among j (brought_indexes c.n i) ≡ false → part after.tree (entry_place j) 40 ≡ part c.tree (entry_place j) 40
    pub known_stay : (j : ℕ) → known c j ≡ true → part after.tree (entry_place j) 40 ≡ part c.tree (entry_place j) 40

-- for every function F from byte strings to 32 bytes, every copy, and every packet that it takes in, under whatever root hash
abbrev pub TakenInForAll : Type 0
TakenInForAll =
    (F : List ℕ → List ℕ) → HashFunction F → (c : Copy) (p : List ℕ) → Bytes p → (i : ℕ) (root : List ℕ) → take_verdict F c p i root ≡ done
    → TakenIn F c p i root (taken_in F c p i)
