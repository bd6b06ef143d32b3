-- A register that is lent as a copy gets from each call on a copy what the register's own call gives: the same answer, refusals and places too, and the same
-- bytes. It needs signatures that pass 3, 4 and 5, which no call on a copy looks at, and every entry but the holes known; an accepted register has both.
--
-- The notions in it: `lent_as_copy` (copy_checks, Copy), `AllKnown` (theorem_copies_agree, Theorems), `SignaturesPass` (theorem_copy_audit, Theorems); of each call
-- the definition on a copy, and beside it the one on a register.
use Rattle.std.specs.Prelude.{ℕ, ◌≡◌, List}
use Rattle.file_format.specs.Belongs.{Register, Buffers}
use Rattle.writing.specs.RootHash.{root_verdict, root_answer}
use Rattle.audit.specs.Audit.{audit, Accepted}
use Rattle.prefix_root.specs.PrefixRoot.{prefix_verdict, prefix_root}
use Rattle.lookup.specs.Lookup.{place_of, held_place_of, byte_at}
use Rattle.lookup.specs.Read.{read_found, read_verdict, read_part}
use Rattle.release.specs.Release.{release_verdict, released_register, after_release}
use Rattle.search.specs.Search.{search_for}
use Rattle.stored_leaf.specs.StoredLeaf.{leaf_verdict, leaf_hash, leaf_length}
use Rattle.short_lookup.specs.ShortLookup.{short_place_of, short_byte_at, short_search_for}
use Rattle.record_find.specs.ChunkRecords.{header_in, node_in, path_in}
use Rattle.record_find.specs.Finding.{find_in}
use Rattle.packet.specs.Packet.{make_verdict, after_make, made_length}
use Rattle.copy_checks.specs.Copy.{Files, files_lent, lent_as_copy}
use Rattle.copy_audit.specs.Audit.{audit_copy}
use Rattle.copy_lookup.specs.Lookups.{copy_place_of, copy_held_place_of, copy_byte_at}
use Rattle.copy_lookup.specs.Reading.{copy_read_verdict, copy_read_part, copy_read_found}
use Rattle.copy_roots.specs.Roots.{copy_root_verdict, copy_root_answer, copy_prefix_verdict, copy_prefix_root, copy_search}
use Rattle.copy_short_lookup.specs.Short.{copy_short_place_of, copy_short_byte_at, copy_short_search}
use Rattle.copy_packet.specs.Making.{copy_make_verdict, copy_after_make, copy_made_length}
use Rattle.copy_release.specs.Release.{copy_release_verdict, released_copy, copy_after_release}
use Rattle.copy_stored_leaf.specs.StoredLeaf.{copy_leaf_verdict}
use Rattle.copy_records.specs.Records.{copy_header, copy_node, copy_path, copy_find}
use Rattle.theorem_copies_agree.specs.Theorems.{AllKnown}
use Rattle.theorem_copy_audit.specs.Theorems.{SignaturesPass}

-- of four buffers the three that a copy has
abbrev pub files_in : Buffers → Files
files_in b = files_lent b.tree b.bitfield b.content

module _ (F : List ℕ → List ℕ) (r : Register) where
  -- the numbers that lookups give
  pub record LentLookups : Type 0 where
    pub place : (i : ℕ) → copy_place_of (lent_as_copy r) i ≡ place_of r i
    pub held_place : (i : ℕ) → copy_held_place_of (lent_as_copy r) i ≡ held_place_of r i
    pub byte : (b : ℕ) → copy_byte_at (lent_as_copy r) b ≡ byte_at r b
    pub search : (from : ℕ) → copy_search (lent_as_copy r) from ≡ search_for r from
    pub short_place : (i : ℕ) → copy_short_place_of (lent_as_copy r) i ≡ short_place_of r i
    pub short_byte : (b : ℕ) → copy_short_byte_at (lent_as_copy r) b ≡ short_byte_at r b
    pub short_search : (from : ℕ) → copy_short_search (lent_as_copy r) from ≡ short_search_for r from

  -- hashes and bytes
  pub record LentReads : Type 0 where
    pub root_verdicts : copy_root_verdict (lent_as_copy r) ≡ root_verdict r
    pub root : copy_root_answer F (lent_as_copy r) ≡ root_answer F r
    pub old_verdicts : (m : ℕ) → copy_prefix_verdict (lent_as_copy r) m ≡ prefix_verdict r m
    pub old_root : (m : ℕ) → copy_prefix_root F (lent_as_copy r) m ≡ prefix_root F r m
    pub verdict : (i : ℕ) → copy_read_verdict F (lent_as_copy r) i ≡ read_verdict F r i
    pub part : (i : ℕ) → copy_read_part F (lent_as_copy r) i ≡ read_part F r i
    pub found : (i : ℕ) → copy_read_found F (lent_as_copy r) i ≡ read_found F r i
    -- the stored entry of a leaf
    pub leaf_verdicts : (k : ℕ) → copy_leaf_verdict (lent_as_copy r) k ≡ leaf_verdict r k
    pub leaf_hashes : (k : ℕ) (out : List ℕ) → leaf_hash (copy_leaf_verdict (lent_as_copy r) k) (lent_as_copy r).tree k out ≡ leaf_hash (leaf_verdict r k) r.tree k out
    pub leaf_lengths : (k : ℕ) → leaf_length (copy_leaf_verdict (lent_as_copy r) k) (lent_as_copy r).tree k ≡ leaf_length (leaf_verdict r k) r.tree k

  -- what is written
  pub record LentWrites : Type 0 where
    pub release_verdicts : (i : ℕ) → copy_release_verdict (lent_as_copy r) i ≡ release_verdict r i
    pub released : (i : ℕ) → released_copy (lent_as_copy r) i ≡ lent_as_copy (released_register r i)
    pub files : (i : ℕ) → copy_after_release (lent_as_copy r) i ≡ files_in (after_release r i)
    pub make_verdicts : (i : ℕ) (out : List ℕ) → copy_make_verdict F (lent_as_copy r) i out ≡ make_verdict F r i out
    pub long : (i : ℕ) (out : List ℕ) → copy_made_length F (lent_as_copy r) i out ≡ made_length F r i out
    pub packet : (i : ℕ) (out : List ℕ) → copy_after_make F (lent_as_copy r) i out ≡ after_make F r i out

  -- records, and paths in them
  pub record LentRecords : Type 0 where
    pub header : (i : ℕ) → copy_header F (lent_as_copy r) i ≡ header_in F r i
    pub node : (i : ℕ) → copy_node F (lent_as_copy r) i ≡ node_in F r i
    pub path : (i : ℕ) (path : List ℕ) → copy_path F (lent_as_copy r) i path ≡ path_in F r i path
    pub find : (path : List ℕ) → copy_find F (lent_as_copy r) path ≡ find_in F r path

  pub record LentAlike : Type 0 where
    pub lookups : LentLookups
    pub reads : LentReads
    pub writes : LentWrites
    pub records : LentRecords

-- whatever function stands in for BLAKE2b
pub record LentForAll : Type 0 where
  pub every : (F : List ℕ → List ℕ) (r : Register) → AllKnown (lent_as_copy r) → SignaturesPass r → LentAlike F r
  -- an accepted register is such a one, and both audits answer done
  pub accepted : (F : List ℕ → List ℕ) (r : Register) → Accepted F r → LentAlike F r × (audit_copy F (lent_as_copy r) ≡ audit F r)
