-- "20 another call on such a copy that would read an unknown entry": no call but the audit looks at an unknown entry. Two copies with the same count, data size,
-- bitfield and data whose tree files have the same header, the same known entries, and each its used size or neither, get the same from every call.
--
-- The notions in it: `HashFunction` (file_format, Messages), `Bytes` and `part` (byte_strings, Lists), `filled` (tree_index, Tree), `used_tree` and `entry_place`
-- (file_format, Sizes), `Copy` and `known` (copy_checks, Copy), `copy_judged` (copy_checks, Checks), and the calls' verdicts and answers (copy_lookup, Lookups and
-- Reading; copy_short_lookup, Short; copy_roots, Roots; copy_release, Release; copy_packet, Making; copy_records, Records; copy_stored_leaf, StoredLeaf, with
-- `leaf_hash` and `leaf_length` (stored_leaf, StoredLeaf); copy_take_in, TakeIn).
use Rattle.std.specs.Prelude.{ℕ, ◌≡◌, true, ◌⊎◌, List, get_or, take}
use Rattle.answer_types.specs.Verdict.{done}
use Rattle.byte_strings.specs.Lists.{part, Bytes}
use Rattle.tree_index.specs.Tree.{filled}
use Rattle.file_format.specs.Sizes.{entry_place, used_tree}
use Rattle.file_format.specs.Messages.{HashFunction}
use Rattle.checks.specs.Checks.{holds}
use Rattle.stored_leaf.specs.StoredLeaf.{leaf_hash, leaf_length}
use Rattle.copy_checks.specs.Copy.{Copy, known}
use Rattle.copy_lookup.specs.Lookups.{copy_place_of, copy_held_place_of, copy_byte_at}
use Rattle.copy_lookup.specs.Reading.{copy_read_verdict, copy_read_part, copy_read_found}
use Rattle.copy_short_lookup.specs.Short.{copy_short_place_of, copy_short_byte_at, copy_short_search}
use Rattle.copy_roots.specs.Roots.{copy_root_verdict, copy_root_answer, copy_prefix_verdict, copy_prefix_root, copy_search}
use Rattle.copy_release.specs.Release.{copy_release_verdict, released_copy}
use Rattle.copy_packet.specs.Making.{copy_make_verdict, copy_made_length, copy_after_make}
use Rattle.copy_records.specs.Records.{copy_header, copy_node, copy_find}
use Rattle.copy_stored_leaf.specs.StoredLeaf.{copy_leaf_verdict}
use Rattle.copy_take_in.specs.TakeIn.{take_verdict, taken_in}

-- copies that differ in nothing but entries that are not known, holes, and what lies behind the used size of the tree file
pub record SameKnown (a b : Copy) : Type 0 where
  pub n : a.n ≡ b.n
  pub size : a.size ≡ b.size
  pub bitfield : a.bitfield ≡ b.bitfield
  pub content : a.content ≡ b.content
  -- each tree file has its used size, or neither
  pub long : holds a.tree (used_tree a.n) ≡ holds b.tree (used_tree a.n)
  pub header : take 32 a.tree ≡ take 32 b.tree
  pub entries : (i : ℕ) → filled a.n i ≡ true → known a i ≡ true → part a.tree (entry_place i) 40 ≡ part b.tree (entry_place i) 40

-- what two copies get from the calls that read
pub record ReadAlike (F : List ℕ → List ℕ) (a b : Copy) : Type 0 where
  pub place : (i : ℕ) → copy_place_of a i ≡ copy_place_of b i
  pub held_place : (i : ℕ) → copy_held_place_of a i ≡ copy_held_place_of b i
  pub byte : (x : ℕ) → copy_byte_at a x ≡ copy_byte_at b x
  pub read_says : (i : ℕ) → copy_read_verdict F a i ≡ copy_read_verdict F b i
  pub read : (i : ℕ) → copy_read_part F a i ≡ copy_read_part F b i
  -- where the chunk's bytes begin and end
  pub read_finds : (i : ℕ) → copy_read_found F a i ≡ copy_read_found F b i
  -- the short way
  pub short_place : (i : ℕ) → copy_short_place_of a i ≡ copy_short_place_of b i
  pub short_byte : (x : ℕ) → copy_short_byte_at a x ≡ copy_short_byte_at b x
  pub short_search : (from : ℕ) → copy_short_search a from ≡ copy_short_search b from
  pub search : (from : ℕ) → copy_search a from ≡ copy_search b from
  pub root_says : copy_root_verdict a ≡ copy_root_verdict b
  pub root : copy_root_answer F a ≡ copy_root_answer F b
  pub old_says : (m : ℕ) → copy_prefix_verdict a m ≡ copy_prefix_verdict b m
  pub old : (m : ℕ) → copy_prefix_root F a m ≡ copy_prefix_root F b m
  -- a packet made into the same buffer: the verdict, its length, and the buffer with it
  pub make_says : (i : ℕ) (out : List ℕ) → copy_make_verdict F a i out ≡ copy_make_verdict F b i out
  pub make_length : (i : ℕ) (out : List ℕ) → copy_made_length F a i out ≡ copy_made_length F b i out
  pub packet : (i : ℕ) (out : List ℕ) → copy_after_make F a i out ≡ copy_after_make F b i out
  -- records and paths
  pub headed : (i : ℕ) → copy_header F a i ≡ copy_header F b i
  pub node : (i : ℕ) → copy_node F a i ≡ copy_node F b i
  pub found : (path : List ℕ) → copy_find F a path ≡ copy_find F b path
  -- the stored entry of a leaf: the verdict, what is left in the bytes lent for the hash, and the length
  pub leaf_says : (k : ℕ) → copy_leaf_verdict a k ≡ copy_leaf_verdict b k
  pub leaf_hashes : (k : ℕ) (out : List ℕ) → leaf_hash (copy_leaf_verdict a k) a.tree k out ≡ leaf_hash (copy_leaf_verdict b k) b.tree k out
  pub leaf_lengths : (k : ℕ) → leaf_length (copy_leaf_verdict a k) a.tree k ≡ leaf_length (copy_leaf_verdict b k) b.tree k

-- at a place of two files, before and after: both have the same byte after, or each has the byte that it had
abbrev pub SameWritten : List ℕ → List ℕ → List ℕ → List ℕ → ℕ → Type 0
SameWritten t u t' u' at = (get_or t' at 0 ≡ get_or u' at 0) ⊎ ((get_or t' at 0 ≡ get_or t at 0) × (get_or u' at 0 ≡ get_or u at 0))

-- and from those that write: the same answer and the same bytes. What they leave in the bitfield and data files is the same whole
pub record WriteAlike (F : List ℕ → List ℕ) (a b : Copy) : Type 0 where
  pub release : (i : ℕ) → copy_release_verdict a i ≡ copy_release_verdict b i
  pub released : (i : ℕ) → copy_release_verdict a i ≡ done → SameKnown (released_copy a i) (released_copy b i)
  pub take : (p : List ℕ) (i : ℕ) (root : List ℕ) → take_verdict F a p i root ≡ take_verdict F b p i root
  pub taken : HashFunction F → (p : List ℕ) → Bytes p → (i : ℕ) (root : List ℕ) → take_verdict F a p i root ≡ done
      → SameKnown (taken_in F a p i) (taken_in F b p i)
  pub written : HashFunction F → (p : List ℕ) → Bytes p → (i : ℕ) (root : List ℕ) → take_verdict F a p i root ≡ done
      → (at : ℕ) → SameWritten a.tree b.tree (taken_in F a p i).tree (taken_in F b p i).tree at

-- for every F; where a packet is taken in, of every function F from byte strings to 32 bytes
pub record KnownAlone (F : List ℕ → List ℕ) (a b : Copy) : Type 0 where
  pub reads : ReadAlike F a b
  pub writes : WriteAlike F a b

abbrev pub KnownAloneForAll : Type 0
KnownAloneForAll = (F : List ℕ → List ℕ) (a b : Copy) → SameKnown a b → KnownAlone F a b
