-- No byte behind a used size is looked at: two copies with the same n and data size whose used bytes are the same, in buffers of any length, get the same
-- from every call that reads. A release and a taking in say the same of both, and leave the same used bytes in both; a making looks at no byte.
--
-- The notions in it: `HashFunction` (file_format, Messages), `Bytes` (byte_strings, Lists), `Copy` (copy_checks, Copy), the used sizes (file_format, Sizes), and
-- the calls' verdicts and answers (copy_audit, Audit; copy_roots, Roots; copy_lookup, Lookups and Reading; copy_short_lookup, Short; copy_records, Records;
-- copy_packet, Making; copy_release, Release; copy_take_in, TakeIn; copy_make, Make).
use Rattle.std.specs.Prelude.{ℕ, ◌≡◌, List, take}
use Rattle.answer_types.specs.Verdict.{done}
use Rattle.byte_strings.specs.Lists.{Bytes}
use Rattle.file_format.specs.Sizes.{used_tree, used_bitfield}
use Rattle.file_format.specs.Messages.{HashFunction}
use Rattle.checks.specs.Checks.{holds}
use Rattle.copy_checks.specs.Copy.{Copy}
use Rattle.copy_audit.specs.Audit.{audit_copy}
use Rattle.copy_roots.specs.Roots.{copy_root_verdict, copy_root_answer, copy_prefix_verdict, copy_prefix_root, copy_search}
use Rattle.copy_lookup.specs.Lookups.{copy_place_of, copy_held_place_of, copy_byte_at}
use Rattle.copy_lookup.specs.Reading.{copy_read_verdict, copy_read_part, copy_read_found}
use Rattle.copy_short_lookup.specs.Short.{copy_short_place_of, copy_short_byte_at, copy_short_search}
use Rattle.copy_records.specs.Records.{copy_header, copy_node, copy_find}
use Rattle.copy_packet.specs.Making.{copy_make_verdict, copy_made_length, copy_after_make}
use Rattle.copy_release.specs.Release.{copy_release_verdict, released_copy}
use Rattle.copy_take_in.specs.TakeIn.{take_verdict, taken_in}
use Rattle.copy_make.specs.Make.{make_verdict, made_copy}

-- the same n and data size, and the same used bytes. A buffer that is shorter than its used size is the same in both
pub record SameUsed (a b : Copy) : Type 0 where
  pub n : a.n ≡ b.n
  pub size : a.size ≡ b.size
  pub tree : take (used_tree a.n) a.tree ≡ take (used_tree a.n) b.tree
  pub bitfield : take (used_bitfield a.n) a.bitfield ≡ take (used_bitfield a.n) b.bitfield
  pub content : take a.size a.content ≡ take a.size b.content

-- what two copies get
pub record Alike (F : List ℕ → List ℕ) (a b : Copy) : Type 0 where
  pub audits : audit_copy F a ≡ audit_copy F b
  pub root_says : copy_root_verdict a ≡ copy_root_verdict b
  pub root : copy_root_answer F a ≡ copy_root_answer F b
  pub old_says : (m : ℕ) → copy_prefix_verdict a m ≡ copy_prefix_verdict b m
  pub old : (m : ℕ) → copy_prefix_root F a m ≡ copy_prefix_root F b m
  pub place : (i : ℕ) → copy_place_of a i ≡ copy_place_of b i
  pub held_place : (i : ℕ) → copy_held_place_of a i ≡ copy_held_place_of b i
  pub byte : (x : ℕ) → copy_byte_at a x ≡ copy_byte_at b x
  pub read_says : (i : ℕ) → copy_read_verdict F a i ≡ copy_read_verdict F b i
  pub read : (i : ℕ) → copy_read_part F a i ≡ copy_read_part F b i
  -- where the chunk's bytes begin and end
  pub read_finds : (i : ℕ) → copy_read_found F a i ≡ copy_read_found F b i
  pub search : (from : ℕ) → copy_search a from ≡ copy_search b from
  -- the short way
  pub short_place : (i : ℕ) → copy_short_place_of a i ≡ copy_short_place_of b i
  pub short_byte : (x : ℕ) → copy_short_byte_at a x ≡ copy_short_byte_at b x
  pub short_search : (from : ℕ) → copy_short_search a from ≡ copy_short_search b from
  -- records and paths
  pub header : (i : ℕ) → copy_header F a i ≡ copy_header F b i
  pub node : (i : ℕ) → copy_node F a i ≡ copy_node F b i
  pub found : (path : List ℕ) → copy_find F a path ≡ copy_find F b path
  -- a packet made into the same buffer: the verdict, its length, and the buffer with it
  pub make_says : (i : ℕ) (out : List ℕ) → copy_make_verdict F a i out ≡ copy_make_verdict F b i out
  pub make_length : (i : ℕ) (out : List ℕ) → copy_made_length F a i out ≡ copy_made_length F b i out
  pub packet : (i : ℕ) (out : List ℕ) → copy_after_make F a i out ≡ copy_after_make F b i out
  -- a release writes within the used bytes
  pub release : (i : ℕ) → copy_release_verdict a i ≡ copy_release_verdict b i
  pub released : (i : ℕ) → copy_release_verdict a i ≡ done → SameUsed (released_copy a i) (released_copy b i)
  -- so does a taking in
  pub take : (p : List ℕ) (i : ℕ) (root : List ℕ) → take_verdict F a p i root ≡ take_verdict F b p i root
  pub taken : HashFunction F → (p : List ℕ) → Bytes p → (i : ℕ) (root : List ℕ) → take_verdict F a p i root ≡ done
      → SameUsed (taken_in F a p i) (taken_in F b p i)

-- no byte behind the used sizes is looked at, for every F; where a packet is taken in, of every function F from byte strings to 32 bytes
abbrev pub UsedBytes : Type 0
UsedBytes = (F : List ℕ → List ℕ) (a b : Copy) → SameUsed a b → Alike F a b

-- two makings for the same n and data size, in buffers that both have the room or both lack it
pub record SameRoom (a b : Copy) : Type 0 where
  pub n : a.n ≡ b.n
  pub size : a.size ≡ b.size
  pub tree : holds a.tree (used_tree a.n) ≡ holds b.tree (used_tree a.n)
  pub bitfield : holds a.bitfield (used_bitfield a.n) ≡ holds b.bitfield (used_bitfield a.n)
  pub content : holds a.content a.size ≡ holds b.content a.size

-- what they leave is the same, whatever stood in the buffers
pub record MadeAlike (a b : Copy) : Type 0 where
  pub says : make_verdict a ≡ make_verdict b
  pub made : make_verdict a ≡ done → SameUsed (made_copy a) (made_copy b)

abbrev pub MakesUsed : Type 0
MakesUsed = (a b : Copy) → SameRoom a b → MadeAlike a b
