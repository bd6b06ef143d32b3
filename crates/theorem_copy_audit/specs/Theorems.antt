-- What the audit of a copy accepts, said without the audit's own words: hashes, lengths, zeros and bits, entry by entry; that what an accepted copy holds can
-- be read; that the two audits accept the same registers; and which copies have the images of some chunks.
--
-- The notions in it: `filled` and `entries` (tree_index, Tree), `HashFunction` (file_format, Messages), `Slot` and `Within` (file_format, Slots), `Register`,
-- `Lent` and `Belongs` (file_format, Belongs), `bitfield_of` (file_format, Images), `stored_hash` and `stored_size` (file_format, Stored), `Accepted` (audit, Audit),
-- `copy_to_chunk` (copy_checks, Descents), `copy_judged` and `partly_judged` (copy_checks, Checks), `AcceptedCopy` (copy_audit, Audit), `copy_read_verdict` and
-- `copy_read_part` (copy_lookup, Reading), `AllKnown` (theorem_copies_agree, Theorems).
use Rattle.std.specs.Prelude.{ℕ, suc, ◌+◌, ◌*◌, ◌≤◌, ◌<◌, ◌≡◌, ◌↔◌, Bool, true, false, ◌&&◌, List, ltb, take}
use Rattle.answer_types.specs.Verdict.{done}
use Rattle.byte_strings.specs.Lists.{part, zeros}
use Rattle.tree_index.specs.Tree.{index, filled, entries}
use Rattle.bitfield.specs.Release.{stored_held}
use Rattle.file_format.specs.Headers.{signatures_header}
use Rattle.file_format.specs.Sizes.{longest_chunk, entry_place, used_signatures, used_bitfield}
use Rattle.file_format.specs.Messages.{HashFunction, leaf_message, parent_message}
use Rattle.file_format.specs.Stored.{stored_hash, stored_size}
use Rattle.file_format.specs.Slots.{Slot, Within}
use Rattle.file_format.specs.Belongs.{Register, Lent, Belongs}
use Rattle.checks.specs.Checks.{signed_right, holds, headed}
use Rattle.audit.specs.Audit.{Accepted}
use Rattle.lookup.specs.Descent.{reached}
use Rattle.copy_checks.specs.Copy.{Copy, known, lent_as_copy, unsigned}
use Rattle.copy_checks.specs.Descents.{copy_to_chunk}
use Rattle.copy_checks.specs.Checks.{copy_judged, partly_judged}
use Rattle.copy_audit.specs.Audit.{AcceptedCopy}
use Rattle.copy_lookup.specs.Reading.{copy_read_verdict, copy_read_part}
use Rattle.theorem_copies_agree.specs.Theorems.{AllKnown}
use Rattle.file_format.specs.Images.{bitfield_of}

-- the data of chunk k, from where they begin
abbrev pub leaf_data : Copy → ℕ → ℕ → List ℕ
leaf_data c k start = part c.content start (stored_size c.tree (index 0 k))

-- the entry i of a tree file is zero
abbrev pub EntryZero : List ℕ → ℕ → Type 0
EntryZero t i = part t (entry_place i) 40 ≡ zeros 40

-- the bitfield file of a copy: a data bit for each chunk below n that is held, and "a tree bit for each entry that is no hole" and known; "others are 0", and the
-- Index bytes follow from the data bytes
abbrev pub data_bits : Copy → ℕ → Bool
data_bits c k = ltb k c.n && stored_held c.bitfield k

abbrev pub tree_bits : Copy → ℕ → Bool
tree_bits c i = filled c.n i && known c i

abbrev pub bits_of : Copy → List ℕ
bits_of c = bitfield_of (data_bits c) (tree_bits c) c.n

module _ (F : List ℕ → List ℕ) where
  -- a known leaf
  pub record LeafSound (c : Copy) (k : ℕ) : Type 0 where
    -- the descent comes to it: it meets no unknown entry and no stop. There its data begin
    pub start : ℕ
    pub comes : copy_to_chunk c k ≡ reached k start
    pub short : stored_size c.tree (index 0 k) ≤ longest_chunk
    pub inside : start + stored_size c.tree (index 0 k) ≤ c.size
    -- of a chunk that is held it has F of the leaf message
    pub held : stored_held c.bitfield k ≡ true → stored_hash c.tree (index 0 k) ≡ F (leaf_message (leaf_data c k start))
    -- of one that is not its data are zero
    pub released : stored_held c.bitfield k ≡ false → leaf_data c k start ≡ zeros (stored_size c.tree (index 0 k))

  -- a known parent whose children are known: the sum of their lengths, and F of the parent message
  pub record ParentSound (t : List ℕ) (d k : ℕ) : Type 0 where
    pub size : stored_size t (index (suc d) k) ≡ stored_size t (index d (2 * k)) + stored_size t (index d (2 * k + 1))
    pub hash : stored_hash t (index (suc d) k)
        ≡ F (parent_message (stored_size t (index d (2 * k)) + stored_size t (index d (2 * k + 1))) (stored_hash t (index d (2 * k))) (stored_hash t (index d (2 * k + 1))))

  pub record Sound (c : Copy) : Type 0 where
    pub checks : partly_judged c done ≡ done
    pub hole : (i : ℕ) → i < entries c.n → filled c.n i ≡ false → EntryZero c.tree i
    -- "an entry whose tree bit is clear must be zero and its chunk not held"
    pub unknown : (i : ℕ) → filled c.n i ≡ true → known c i ≡ false → EntryZero c.tree i
    pub held_known : (k : ℕ) → k < c.n → stored_held c.bitfield k ≡ true → known c (index 0 k) ≡ true
    pub leaf : (k : ℕ) → k < c.n → known c (index 0 k) ≡ true → LeafSound c k
    pub parent : (d k : ℕ) → filled c.n (index (suc d) k) ≡ true → known c (index (suc d) k) ≡ true → known c (index d (2 * k)) ≡ true
        → known c (index d (2 * k + 1)) ≡ true → ParentSound c.tree d k
    pub bits : take (used_bitfield c.n) c.bitfield ≡ bits_of c

-- the signatures of a register pass 3, 4 and 5
pub record SignaturesPass (r : Register) : Type 0 where
  pub count : signed_right r.n r.s ≡ true
  pub long : holds r.signatures (used_signatures r.s) ≡ true
  pub front : headed r.signatures signatures_header ≡ true

pub record CopyAudit (F : List ℕ → List ℕ) : Type 0 where
  -- the audit of copies accepts a copy exactly when it is so
  pub exactly : (c : Copy) → AcceptedCopy F c ↔ Sound F c
  -- a chunk that an accepted copy holds is read, wherever the copy passes the checks of a call
  pub reads : (c : Copy) → AcceptedCopy F c → copy_judged c done ≡ done → (k : ℕ) → k < c.n → stored_held c.bitfield k ≡ true → copy_read_verdict F c k ≡ done
  -- and its leaf has F of the leaf message of what the read gives
  pub hashes : (c : Copy) → AcceptedCopy F c → copy_judged c done ≡ done → (k : ℕ) → k < c.n → stored_held c.bitfield k ≡ true
      → stored_hash c.tree (index 0 k) ≡ F (leaf_message (copy_read_part F c k))
  -- a register is accepted exactly when it is as a copy, its signatures pass and every entry but the holes is known. Where both audits refuse, the places may
  -- differ: a leaf whose descent stops counts at the stop in the one, and by its own bytes in the other
  pub register : (r : Register) → Accepted F r ↔ (AcceptedCopy F (lent_as_copy r) × (AllKnown (lent_as_copy r) × SignaturesPass r))
  -- so a copy of bytes that is accepted and knows every entry but the holes has the images of some chunks, held or released; and only such a one has
  pub belongs : HashFunction F → (c : Copy) → Lent (unsigned c) → (AcceptedCopy F c × AllKnown c) ↔ ((ss : List Slot) × (Within ss × Belongs F (unsigned c) ss))

-- whatever function stands in for BLAKE2b
abbrev pub CopyAuditForAll : Type 0
CopyAuditForAll = (F : List ℕ → List ℕ) → CopyAudit F
