-- No byte behind a used size is looked at: two registers with the same n, s and data size whose used bytes are the same, in buffers of any
-- length, get the same from every call that reads. A call that writes says the same of both, where both have room for its result or both
-- lack it, and leaves the same used bytes in both.
--
-- The notions in it: `HashFunction` (file_format, Messages), `Register`, `Buffers` and `Lent` (file_format, Belongs), the used sizes (file_format, Sizes), the
-- calls' verdicts and answers (writing, Start, Append, Sign and RootHash; append_list, Append, with Chunks and Conditions; prefix_root, PrefixRoot; audit, Audit;
-- compare, Walk; lookup, Lookup, Read and Meaning; release, Release; search, Search; short_lookup, ShortLookup; packet, Packet) and what a call that writes asks for (writing, Conditions).
use Rattle.std.specs.Prelude.{ℕ, ◌≡◌, ◌↔◌, List, length, take}
use Rattle.answer_types.specs.Verdict.{done}
use Rattle.byte_strings.specs.Lists.{Bytes}
use Rattle.file_format.specs.Sizes.{used_tree, used_signatures, used_bitfield}
use Rattle.file_format.specs.Messages.{HashFunction}
use Rattle.file_format.specs.Belongs.{Buffers, Register, Lent}
use Rattle.writing.specs.Start.{start_verdict, started_register}
use Rattle.writing.specs.Append.{append_verdict, appended_register, append_root}
use Rattle.writing.specs.Sign.{sign_verdict, signed_register}
use Rattle.writing.specs.RootHash.{root_verdict, root_answer}
use Rattle.writing.specs.Conditions.{StartFits, AppendFits, SignFits}
use Rattle.append_list.specs.Chunks.{chunks_of}
use Rattle.append_list.specs.Append.{list_verdict, appended_list, list_root}
use Rattle.append_list.specs.Conditions.{ListFits}
use Rattle.prefix_root.specs.PrefixRoot.{prefix_verdict, prefix_root}
use Rattle.audit.specs.Audit.{audit}
use Rattle.compare.specs.Walk.{compare}
use Rattle.lookup.specs.Lookup.{place_of, byte_at}
use Rattle.lookup.specs.Read.{read_found, read_verdict, read_part}
use Rattle.release.specs.Release.{release_verdict, released_register}
use Rattle.search.specs.Search.{search_for}
use Rattle.short_lookup.specs.ShortLookup.{short_place_of, short_byte_at, short_search_for}
use Rattle.packet.specs.Packet.{make_verdict, made_length, after_make}

-- the same n, s and data size, and the same used bytes. A buffer that is shorter than its used size is the same in both
pub record SameUsed (a b : Register) : Type 0 where
  pub n : a.n ≡ b.n
  pub s : a.s ≡ b.s
  pub size : a.size ≡ b.size
  pub tree : take (used_tree a.n) a.tree ≡ take (used_tree a.n) b.tree
  pub signatures : take (used_signatures a.s) a.signatures ≡ take (used_signatures a.s) b.signatures
  pub bitfield : take (used_bitfield a.n) a.bitfield ≡ take (used_bitfield a.n) b.bitfield
  pub content : take a.size a.content ≡ take a.size b.content

-- what two registers get from the calls that read one
pub record ReadAlike (F : List ℕ → List ℕ) (a b : Register) : Type 0 where
  pub audits : audit F a ≡ audit F b
  pub root_says : root_verdict a ≡ root_verdict b
  pub root : root_answer F a ≡ root_answer F b
  pub old_says : (m : ℕ) → prefix_verdict a m ≡ prefix_verdict b m
  pub old : (m : ℕ) → prefix_root F a m ≡ prefix_root F b m
  pub place : (c : ℕ) → place_of a c ≡ place_of b c
  pub byte : (x : ℕ) → byte_at a x ≡ byte_at b x
  pub read_says : (c : ℕ) → read_verdict F a c ≡ read_verdict F b c
  pub read : (c : ℕ) → read_part F a c ≡ read_part F b c
  -- where the chunk's bytes begin and end
  pub read_finds : (c : ℕ) → read_found F a c ≡ read_found F b c
  -- the first chunk from a given number on that is not held
  pub search : (from : ℕ) → search_for a from ≡ search_for b from
  -- the short way
  pub short_place : (c : ℕ) → short_place_of a c ≡ short_place_of b c
  pub short_byte : (x : ℕ) → short_byte_at a x ≡ short_byte_at b x
  pub short_search : (from : ℕ) → short_search_for a from ≡ short_search_for b from
  -- a packet made into the same buffer: the verdict, its length, and the buffer with it
  pub make_says : (c : ℕ) (out : List ℕ) → make_verdict F a c out ≡ make_verdict F b c out
  pub make_length : (c : ℕ) (out : List ℕ) → made_length F a c out ≡ made_length F b c out
  pub packet : (c : ℕ) (out : List ℕ) → after_make F a c out ≡ after_make F b c out

-- of the calls that read
pub record ReadsUsed (F : List ℕ → List ℕ) : Type 0 where
  pub one : (a b : Register) → SameUsed a b → ReadAlike F a b
  -- the comparing walk, on two registers
  pub two : (a b c d : Register) → SameUsed a b → SameUsed c d → compare F a c ≡ compare F b d

-- of the calls that write. What they ask for besides the numbers 2 to 6 is room, and facts of n, s and the chunk that two such registers share.
-- Refused, they change no byte (`unchanged` in theorem_images, Demand2). That the buffers and the chunk hold bytes is asked where F hashes them
pub record WritesUsed (F : List ℕ → List ℕ) : Type 0 where
  -- a start looks at no byte
  pub start : (a b : Buffers) → StartFits a ↔ StartFits b → start_verdict a ≡ start_verdict b
  pub started : (a b : Buffers) → start_verdict a ≡ done → start_verdict b ≡ done → SameUsed (started_register a) (started_register b)
  pub append : (a b : Register) (chunk : List ℕ) → SameUsed a b → AppendFits a chunk ↔ AppendFits b chunk
      → append_verdict a chunk ≡ append_verdict b chunk
  pub appended : (a b : Register) (chunk : List ℕ) → SameUsed a b → Lent a → Bytes chunk → append_verdict a chunk ≡ done
      → append_verdict b chunk ≡ done → SameUsed (appended_register F a chunk) (appended_register F b chunk)
  pub root : (a b : Register) (chunk : List ℕ) → SameUsed a b → Lent a → Bytes chunk → AppendFits a chunk ↔ AppendFits b chunk
      → append_root F a chunk ≡ append_root F b chunk
  -- a list
  pub list : (a b : Register) (lengths bytes : List ℕ) → SameUsed a b → ListFits a lengths bytes ↔ ListFits b lengths bytes
      → list_verdict a lengths bytes ≡ list_verdict b lengths bytes
  pub listed : (a b : Register) (lengths bytes : List ℕ) → SameUsed a b → Lent a → Bytes bytes → list_verdict a lengths bytes ≡ done
      → list_verdict b lengths bytes ≡ done → SameUsed (appended_list F a (chunks_of lengths bytes)) (appended_list F b (chunks_of lengths bytes))
  pub list_roots : (a b : Register) (lengths bytes : List ℕ) → SameUsed a b → Lent a → Bytes bytes → ListFits a lengths bytes ↔ ListFits b lengths bytes
      → list_root F a lengths bytes ≡ list_root F b lengths bytes
  pub sign : (a b : Register) → SameUsed a b → SignFits a ↔ SignFits b → sign_verdict a ≡ sign_verdict b
  pub signed : (a b : Register) (signature : List ℕ) → SameUsed a b → length signature ≡ 64 → sign_verdict a ≡ done → sign_verdict b ≡ done
      → SameUsed (signed_register a signature) (signed_register b signature)
  -- a release writes within the used bytes, and asks for no room
  pub release : (a b : Register) (c : ℕ) → SameUsed a b → release_verdict a c ≡ release_verdict b c
  pub released : (a b : Register) (c : ℕ) → SameUsed a b → release_verdict a c ≡ done → SameUsed (released_register a c) (released_register b c)

-- no byte behind the used sizes is looked at: reading, for every F, whatever it answers; writing, for every function F from byte strings to
-- 32 bytes
pub record UsedBytes : Type 0 where
  pub reads : (F : List ℕ → List ℕ) → ReadsUsed F
  pub writes : (F : List ℕ → List ℕ) → HashFunction F → WritesUsed F
