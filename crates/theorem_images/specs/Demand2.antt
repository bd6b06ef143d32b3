-- Demand 2: every image that is written from a start or on an accepted register is, byte for byte, the one for the chunks and the signatures
-- handed in; "the leaf entry of a released chunk counts as handed in". On an accepted register an append, of a chunk or of a list, a stored signature or
-- a release leaves an accepted register; and the audit accepts buffers exactly when their used bytes are such images. Reading gives back the very chunks
-- that are held, and lookups and packets answer as the scope defines them. A chunk sequence cs is the chunks `all_held cs`.
--
-- The notions in it: `HashFunction` (file_format, Messages), `Slot`, `all_held` and `Within` (file_format, Slots), `Register`, `Buffers`, `Lent` and `Belongs` (file_format,
-- Belongs), the used sizes (file_format, Sizes), `root_hash_for` (file_format, Images), `Imaged` and `AuditExact` (audit, Theorems), `Accepted` (audit, Audit), the calls'
-- verdicts, answers and buffers (writing, Start, Append, Sign and RootHash; append_list, Append; release, Release) and what they ask for (writing, Conditions;
-- append_list, Conditions), a list's chunks and its zero signatures (append_list, Chunks), the chunks with one released (release, Theorems), `Answers`
-- (lookup, Theorems), `PacketAnswers` (packet, Theorems).
use Rattle.std.specs.Prelude.{ℕ, ◌+◌, ◌-◌, ◌^◌, ◌≤◌, ◌<◌, ◌≡◌, ◌↔◌, true, false, List, [], ◌∷◌, ◌++◌, length, drop}
use Rattle.answer_types.specs.Verdict.{Spot, none, tree, done, refused}
use Rattle.byte_strings.specs.Lists.{Bytes, zeros}
use Rattle.tree_index.specs.Tree.{index}
use Rattle.file_format.specs.Sizes.{used_tree, used_signatures, used_bitfield}
use Rattle.file_format.specs.Messages.{HashFunction}
use Rattle.file_format.specs.Images.{root_hash_for}
use Rattle.file_format.specs.Slots.{Slot, held, all_held, contents, held_in, Within}
use Rattle.file_format.specs.Belongs.{Buffers, Register, buffers_of, Lent, Belongs}
use Rattle.audit.specs.Audit.{Accepted}
use Rattle.audit.specs.Theorems.{Imaged, AuditExact}
use Rattle.writing.specs.Start.{start_verdict, started_register, after_start}
use Rattle.writing.specs.Append.{append_verdict, appended_register, append_root, after_append}
use Rattle.writing.specs.Sign.{sign_verdict, signed_register, after_sign}
use Rattle.writing.specs.RootHash.{root_verdict, root_answer}
use Rattle.writing.specs.Conditions.{StartFits, AppendFits, SignFits}
use Rattle.append_list.specs.Chunks.{chunks_of, zero_signatures}
use Rattle.append_list.specs.Append.{list_verdict, appended_list, list_root, after_list}
use Rattle.append_list.specs.Conditions.{ListFits, Singly}
use Rattle.release.specs.Release.{release_verdict, released_register, after_release}
use Rattle.release.specs.Theorems.{released_in}
use Rattle.lookup.specs.Theorems.{Answers}
use Rattle.packet.specs.Packet.{make_verdict}
use Rattle.packet.specs.Theorems.{PacketAnswers}

-- beyond the used sizes of a register the bytes are as they were in the buffers `before`
pub record Beyond (before : Buffers) (r : Register) : Type 0 where
  pub tree : drop (used_tree r.n) r.tree ≡ drop (used_tree r.n) before.tree
  pub signatures : drop (used_signatures r.s) r.signatures ≡ drop (used_signatures r.s) before.signatures
  pub bitfield : drop (used_bitfield r.n) r.bitfield ≡ drop (used_bitfield r.n) before.bitfield
  pub content : drop r.size r.content ≡ drop r.size before.content

-- "Start is only lent four buffers and writes the three headers; its one refusal is 14."
pub record StartWrites (F : List ℕ → List ℕ) : Type 0 where
  -- done with room for the headers, and refused with 14 otherwise
  pub takes : (b : Buffers) → StartFits b → start_verdict b ≡ done
  pub refuses : (b : Buffers) → (StartFits b → ⊥) → start_verdict b ≡ refused 14 none
  -- done, the buffers are those of a register
  pub buffers : (b : Buffers) → start_verdict b ≡ done → after_start b ≡ buffers_of (started_register b)
  -- whose used bytes are the images of no chunks and no signatures
  pub images : (b : Buffers) → start_verdict b ≡ done → Imaged F (started_register b) [] []
  pub accepted : (b : Buffers) → start_verdict b ≡ done → Accepted F (started_register b)
  pub beyond : (b : Buffers) → start_verdict b ≡ done → Beyond b (started_register b)
  -- buffers that hold bytes go on to
  pub lent : (b : Buffers) → Bytes b.tree → Bytes b.signatures → Bytes b.bitfield → Bytes b.content → Lent (started_register b)
  -- "No lent byte changes."
  pub unchanged : (b : Buffers) (m : ℕ) (at : Spot) → start_verdict b ≡ refused m at → after_start b ≡ b

-- An append "adds one chunk .. and answers the new root hash".
pub record AppendWrites (F : List ℕ → List ℕ) : Type 0 where
  -- on an accepted register it is done exactly when 2, 7, 8 and 14 are passed
  pub takes : (r : Register) (chunk : List ℕ) → Accepted F r → (append_verdict r chunk ≡ done) ↔ AppendFits r chunk
  -- done, the buffers are those of a register
  pub buffers : (r : Register) (chunk : List ℕ) → append_verdict r chunk ≡ done → after_append F r chunk ≡ buffers_of (appended_register F r chunk)
  -- which belongs to the chunk sequence with the chunk at its end, where the first one belonged to the sequence
  pub belongs : (r : Register) (ss : List Slot) (chunk : List ℕ) → Within ss → Belongs F r ss → Bytes chunk → append_verdict r chunk ≡ done
      → Within (ss ++ (held chunk ∷ [])) × Belongs F (appended_register F r chunk) (ss ++ (held chunk ∷ []))
  -- whose root hash is the answer
  pub answers : (r : Register) (ss : List Slot) (chunk : List ℕ) → Within ss → Belongs F r ss → Bytes chunk → append_verdict r chunk ≡ done
      → append_root F r chunk ≡ root_hash_for F (ss ++ (held chunk ∷ []))
  -- with the signatures: all used bytes are the images of the longer sequence and of the same signatures
  pub images : (r : Register) (ss : List Slot) (sigs : List (List ℕ)) (chunk : List ℕ) → Imaged F r ss sigs → Bytes chunk → append_verdict r chunk ≡ done
      → Imaged F (appended_register F r chunk) (ss ++ (held chunk ∷ [])) sigs
  -- an append to an accepted register leaves an accepted register, in buffers that hold bytes again
  pub accepted : (r : Register) (chunk : List ℕ) → Lent r → Accepted F r → Bytes chunk → append_verdict r chunk ≡ done
      → Accepted F (appended_register F r chunk) × Lent (appended_register F r chunk)
  -- done, on any register, it leaves every byte beyond the new used sizes
  pub beyond : (r : Register) (chunk : List ℕ) → Lent r → Bytes chunk → append_verdict r chunk ≡ done
      → Beyond (buffers_of r) (appended_register F r chunk)
  -- "No lent byte changes.", and the answer beside a refusal is zeros
  pub unchanged : (r : Register) (chunk : List ℕ) (m : ℕ) (at : Spot) → append_verdict r chunk ≡ refused m at
      → (after_append F r chunk ≡ buffers_of r) × (append_root F r chunk ≡ zeros 32)

-- "Then its signature is stored, one for each chunk."
pub record SignWrites (F : List ℕ → List ℕ) : Type 0 where
  -- on an accepted register it is done exactly when 8 and 14 are passed
  pub takes : (r : Register) → Accepted F r → (sign_verdict r ≡ done) ↔ SignFits r
  pub buffers : (r : Register) (signature : List ℕ) → sign_verdict r ≡ done → after_sign r signature ≡ buffers_of (signed_register r signature)
  -- the register belongs to the same chunk sequence
  pub belongs : (r : Register) (ss : List Slot) (signature : List ℕ) → Belongs F r ss → Belongs F (signed_register r signature) ss
  -- all used bytes are the images of the same chunk sequence and of the signatures with the new one at their end
  pub images : (r : Register) (ss : List Slot) (sigs : List (List ℕ)) (signature : List ℕ) → Imaged F r ss sigs → length signature ≡ 64 → sign_verdict r ≡ done
      → Imaged F (signed_register r signature) ss (sigs ++ (signature ∷ []))
  pub accepted : (r : Register) (signature : List ℕ) → Lent r → Accepted F r → Bytes signature → length signature ≡ 64 → sign_verdict r ≡ done
      → Accepted F (signed_register r signature) × Lent (signed_register r signature)
  pub beyond : (r : Register) (signature : List ℕ) → length signature ≡ 64 → sign_verdict r ≡ done → Beyond (buffers_of r) (signed_register r signature)
  pub unchanged : (r : Register) (signature : List ℕ) (m : ℕ) (at : Spot) → sign_verdict r ≡ refused m at → after_sign r signature ≡ buffers_of r

-- A list of chunks is lent as lengths and bytes, which `chunks_of` cuts. What holds of a list that was stored: of the register with its chunks
abbrev pub listed : (List ℕ → List ℕ) → Register → List ℕ → List ℕ → Register
listed F r lengths bytes = appended_list F r (chunks_of lengths bytes)

pub record ListStored (F : List ℕ → List ℕ) (r : Register) (lengths bytes : List ℕ) : Type 0 where
  -- the buffers are those of this register
  pub buffers : after_list F r lengths bytes ≡ buffers_of (listed F r lengths bytes)
  -- which single appends, with 64 zero bytes stored as a signature between them, lead to, none of them refused: on any register in buffers that can
  -- be lent, accepted or not
  pub singly : Lent r → length r.content < 2 ^ 64 → Bytes bytes → Singly F r (chunks_of lengths bytes) (listed F r lengths bytes)
  -- "one signature is owed afterwards, as before"
  pub owed : (listed F r lengths bytes).s + 1 ≡ (listed F r lengths bytes).n
  -- it belongs to the chunk sequence with the chunks at its end, where the first one belonged to the sequence
  pub belongs : (ss : List Slot) → Within ss → Belongs F r ss → Bytes bytes
      → Within (ss ++ all_held (chunks_of lengths bytes)) × Belongs F (listed F r lengths bytes) (ss ++ all_held (chunks_of lengths bytes))
  -- whose root hash is the answer
  pub answers : (ss : List Slot) → Within ss → Belongs F r ss → Bytes bytes → list_root F r lengths bytes ≡ root_hash_for F (ss ++ all_held (chunks_of lengths bytes))
  -- "The set's earlier signature entries are written as 64 zero bytes, which count in demand 2 as handed in": all used bytes are the images of the
  -- longer sequence, and of the signatures with the zeros at their end
  pub images : (ss : List Slot) (sigs : List (List ℕ)) → Imaged F r ss sigs → Bytes bytes
      → Imaged F (listed F r lengths bytes) (ss ++ all_held (chunks_of lengths bytes)) (sigs ++ zero_signatures (length lengths - 1))
  -- an accepted register stays accepted, in buffers that hold bytes again
  pub accepted : Lent r → Accepted F r → Bytes bytes → Accepted F (listed F r lengths bytes) × Lent (listed F r lengths bytes)
  -- on any register every byte beyond the new used sizes is left
  pub beyond : Lent r → Bytes bytes → Beyond (buffers_of r) (listed F r lengths bytes)

-- "Append a list of chunks: tree, bitfield and data become what single appends would leave, and one root hash is answered."
pub record ListWrites (F : List ℕ → List ℕ) : Type 0 where
  -- on an accepted register it is done exactly when 2, 16, 7, 8 and 14 are passed
  pub takes : (r : Register) (lengths bytes : List ℕ) → Accepted F r → (list_verdict r lengths bytes ≡ done) ↔ ListFits r lengths bytes
  -- a list of one chunk is an append, on every register
  pub one : (r : Register) (chunk : List ℕ) → (list_verdict r (length chunk ∷ []) chunk ≡ append_verdict r chunk)
      × (list_root F r (length chunk ∷ []) chunk ≡ append_root F r chunk) × (after_list F r (length chunk ∷ []) chunk ≡ after_append F r chunk)
  -- "stored wholly or left out": done, all of this holds
  pub stored : (r : Register) (lengths bytes : List ℕ) → list_verdict r lengths bytes ≡ done → ListStored F r lengths bytes
  -- "No lent byte changes.", and the answer beside a refusal is zeros
  pub unchanged : (r : Register) (lengths bytes : List ℕ) (m : ℕ) (at : Spot) → list_verdict r lengths bytes ≡ refused m at
      → (after_list F r lengths bytes ≡ buffers_of r) × (list_root F r lengths bytes ≡ zeros 32)

-- what a release of the chunk c answers, on an accepted register that belongs to the chunks ss
pub record ReleaseSays (r : Register) (ss : List Slot) (c : ℕ) : Type 0 where
  -- it is done exactly where the chunk is held
  pub takes : (release_verdict r c ≡ done) ↔ (held_in ss c ≡ true)
  -- "It refuses with 18, just after 9", a chunk that is not; 9 where there is none
  pub not_held : c < length ss → held_in ss c ≡ false → release_verdict r c ≡ refused 18 (tree (index 0 c))
  pub no_chunk : length ss ≤ c → release_verdict r c ≡ refused 9 none

-- "Releasing a chunk .. clears its data bit, regenerates that entry's Index and writes zeros over the chunk's bytes; its tree entries stay."
pub record ReleaseWrites (F : List ℕ → List ℕ) : Type 0 where
  pub says : (r : Register) (ss : List Slot) → Within ss → Belongs F r ss → Accepted F r → (c : ℕ) → ReleaseSays r ss c
  -- done, the buffers are those of a register
  pub buffers : (r : Register) (c : ℕ) → release_verdict r c ≡ done → after_release r c ≡ buffers_of (released_register r c)
  -- which belongs to the same chunks with this one released, its entry as it stood: "the leaf entry of a released chunk counts as handed in"
  pub belongs : (r : Register) (ss : List Slot) (c : ℕ) → Within ss → Belongs F r ss → release_verdict r c ≡ done
      → Within (released_in r ss c) × Belongs F (released_register r c) (released_in r ss c)
  -- "its tree entries stay", and so does the root hash
  pub root : (r : Register) (ss : List Slot) (c : ℕ) → Within ss → Belongs F r ss → release_verdict r c ≡ done → root_hash_for F (released_in r ss c) ≡ root_hash_for F ss
  -- with the signatures: all used bytes are the images of these chunks and of the same signatures
  pub images : (r : Register) (ss : List Slot) (sigs : List (List ℕ)) (c : ℕ) → Imaged F r ss sigs → release_verdict r c ≡ done
      → Imaged F (released_register r c) (released_in r ss c) sigs
  -- an accepted register stays accepted, in buffers that hold bytes again
  pub accepted : (r : Register) (c : ℕ) → Lent r → Accepted F r → release_verdict r c ≡ done → Accepted F (released_register r c) × Lent (released_register r c)
  -- done, on any register, it leaves every byte beyond the used sizes
  pub beyond : (r : Register) (c : ℕ) → release_verdict r c ≡ done → Beyond (buffers_of r) (released_register r c)
  -- "No lent byte changes."
  pub unchanged : (r : Register) (c m : ℕ) (at : Spot) → release_verdict r c ≡ refused m at → after_release r c ≡ buffers_of r

-- the root hash of a register is that of the chunk sequence which it belongs to
pub record RootAnswers (F : List ℕ → List ℕ) : Type 0 where
  -- an accepted register is not refused
  pub takes : (r : Register) → Accepted F r → root_verdict r ≡ done
  pub answers : (r : Register) (ss : List Slot) → Within ss → Belongs F r ss → root_verdict r ≡ done → root_answer F r ≡ root_hash_for F ss

-- a register that calls which were not refused wrote, from a start or on a register that is the images of some chunks and signatures,
-- with the chunks, held or released, and the signatures that it has by then
pub data Written (F : List ℕ → List ℕ) : Register → List Slot → List (List ℕ) → Type 0 where
  from_start : (b : Buffers) → start_verdict b ≡ done → Written F (started_register b) [] []
  from_images : {r : Register} {ss : List Slot} {sigs : List (List ℕ)} → Imaged F r ss sigs → Written F r ss sigs
  and_appended : {r : Register} {ss : List Slot} {sigs : List (List ℕ)} (chunk : List ℕ) → Written F r ss sigs → Bytes chunk → append_verdict r chunk ≡ done
      → Written F (appended_register F r chunk) (ss ++ (held chunk ∷ [])) sigs
  and_listed : {r : Register} {ss : List Slot} {sigs : List (List ℕ)} (lengths bytes : List ℕ) → Written F r ss sigs → Bytes bytes → list_verdict r lengths bytes ≡ done
      → Written F (appended_list F r (chunks_of lengths bytes)) (ss ++ all_held (chunks_of lengths bytes)) (sigs ++ zero_signatures (length lengths - 1))
  and_released : {r : Register} {ss : List Slot} {sigs : List (List ℕ)} (c : ℕ) → Written F r ss sigs → release_verdict r c ≡ done
      → Written F (released_register r c) (released_in r ss c) sigs
  and_signed : {r : Register} {ss : List Slot} {sigs : List (List ℕ)} (signature : List ℕ) → Written F r ss sigs → length signature ≡ 64 → sign_verdict r ≡ done
      → Written F (signed_register r signature) ss (sigs ++ (signature ∷ []))

-- "reading gives back the very chunks. Lookups and packets answer as document 01 defines them.": what an accepted register r answers that belongs to ss
pub record Gives (F : List ℕ → List ℕ) (r : Register) (ss : List Slot) : Type 0 where
  -- places and bytes for all chunks; "restoring the chunks speaks for held ones"
  pub reads : Answers F r ss (contents ss)
  -- the packet of each chunk that is held, whatever else is released
  pub packets : (i : ℕ) → held_in ss i ≡ true → PacketAnswers F r ss i
  -- and 18 at its leaf's tree index of one that is not
  pub no_packet : (i : ℕ) → i < length ss → held_in ss i ≡ false → (out : List ℕ) → make_verdict F r i out ≡ refused 18 (tree (index 0 i))

pub record Demand2 (F : List ℕ → List ℕ) : Type 0 where
  pub start : StartWrites F
  pub append : AppendWrites F
  pub list : ListWrites F
  pub sign : SignWrites F
  pub release : ReleaseWrites F
  pub root : RootAnswers F
  -- whatever calls wrote it, a register's used bytes are the images of the chunks and the signatures handed in
  pub written : (r : Register) (ss : List Slot) (sigs : List (List ℕ)) → Written F r ss sigs → Imaged F r ss sigs
  -- the audit accepts exactly such images
  pub audit : AuditExact F
  pub gives : (r : Register) (ss : List Slot) → Within ss → Belongs F r ss → Accepted F r → Gives F r ss

-- for every function F from byte strings to 32 bytes
abbrev pub Demand2ForAll : Type 0
Demand2ForAll = (F : List ℕ → List ℕ) → HashFunction F → Demand2 F
