-- The calls on records: what they answer, and what stands in the lent buffer afterwards.
use Rattle.std.specs.Prelude.{Result, Ok, Err, Option as Maybe, None, Some, ℕ, ◌≤◌, ◌≡◌, Bool, true, false, cond, List, [], ◌∷◌, ◌++◌, length, leb}
use Rattle.std.proofs.Math.Option.{Option, none as absent, some}
use Rattle.answer_types.specs.Verdict.{Spot, Verdict, none, done, refused}
use Rattle.answer_types.specs.Meaning.{refusal_of}
use Rattle.byte_strings.specs.Lists.{put}
use Rattle.record_fields.specs.Inner.{number_of, number_told, part_of, Inside}
use Rattle.record_format.specs.Records.{Header, header_bytes, hyperdrive, HeaderWithin, Stat as StatFields, StatWithin, stat_bytes}
use Rattle.record_format.specs.From.{header_from}
use Rattle.record_format.specs.Theorems.{Accepted, Rejected}
use Rattle.record_fields.specs.declared.rows.Part.{Part}
use Rattle.answer_types.specs.declared.Refusal.{Refusal}
use Rattle.record_format.specs.declared.stats.Stat.{Stat}

-- ---- writing: "fields outside these bounds gives 15 without a place, before 14"

unfoldable pub write_verdict : Bool → ℕ → ℕ → Verdict
write_verdict fits long room = cond fits (cond (leb long room) done (refused 14 none)) (refused 15 none)

-- "writing answers their number": of the bytes, at the front of the buffer, the rest as it was
abbrev pub length_unless : Verdict → ℕ → ℕ
length_unless done long = long
length_unless (refused m at) long = 0

abbrev pub front_unless : Verdict → List ℕ → List ℕ → List ℕ
front_unless done bytes out = put out 0 bytes
front_unless (refused m at) bytes out = out

-- the verdict and the number that each case of the answer stands for
abbrev pub written_verdict : Result ℕ Refusal → Verdict
written_verdict (Err r) = refusal_of r
written_verdict (Ok k) = done

abbrev pub written_length : Result ℕ Refusal → ℕ
written_length (Err r) = 0
written_length (Ok k) = k

-- whether something holds
abbrev pub Decides : Type 0 → Bool → Type 0
Decides W true = W
Decides W false = W → ⊥

-- what writing these bytes answers, of fields whose being in bounds is W, and the buffer that it leaves, which was `out`
pub record WrittenAs (W : Type 0) (bytes out : List ℕ) (answer : Result ℕ Refusal) (after : List ℕ) : Type 0 where
  pub fits : Bool
  pub decides : Decides W fits
  pub verdict : written_verdict answer ≡ write_verdict fits (length bytes) (length out)
  pub long : written_length answer ≡ length_unless (write_verdict fits (length bytes) (length out)) (length bytes)
  pub buffer : after ≡ front_unless (write_verdict fits (length bytes) (length out)) bytes out

-- bytes that are in bounds anyway
abbrev pub GivenAs : List ℕ → List ℕ → Result ℕ Refusal → List ℕ → Type 0
GivenAs = WrittenAs (Unit {0})

-- ---- the Header

-- a Header is its type and its content bytes, of which only the second are given
abbrev pub header_of : List ℕ → Header
header_of content = record { type = hyperdrive; content = content }

abbrev pub HeaderWrittenAs : List ℕ → List ℕ → Result ℕ Refusal → List ℕ → Type 0
HeaderWrittenAs content out answer after = WrittenAs (HeaderWithin (header_of content)) (header_bytes (header_of content)) out answer after

-- what stands before the content bytes
unfoldable pub header_start : List ℕ
header_start = 10 ∷ 10 ∷ (hyperdrive ++ (18 ∷ 32 ∷ []))

-- ---- reading: number 15 at a place where bytes are no such record, with what stands `beside` a refusal; else what is told of the record

abbrev pub told_of : {A P : Type 0} → Spot → P → (A → P) → Option A → Verdict × P
told_of spot beside tell absent = (refused 15 spot, beside)
told_of spot beside tell (some a) = (done, tell a)

-- nothing, which stands beside a refusal; and the content bytes, which are the last 32
abbrev pub no_part : Part
no_part = record { at = 0; len = 0 }

abbrev pub content_part : Part
content_part = record { at = 14; len = 32 }

abbrev pub read_header : Spot → List ℕ → Verdict × Part
read_header spot d = told_of spot no_part (λ h. content_part) (header_from d)

-- what each case of the answer tells
abbrev pub header_told : Result Part Refusal → Verdict × Part
header_told (Err r) = (refusal_of r, no_part)
header_told (Ok p) = (done, p)

-- the part is the content of the Header that the bytes are
abbrev pub ContentPlaced : Type 0
ContentPlaced = (d : List ℕ) (h : Header) → header_from d ≡ some h → Inside d content_part × (part_of d content_part ≡ h.content)

-- "writing what was read restores the bytes": the content bytes of a Header that was read, written into room for them, give its bytes and their
-- number
abbrev pub HeadersWrittenBack : Type 0
HeadersWrittenBack =
    (d : List ℕ) (p : Part) → header_told (Ok p) ≡ read_header none d
    → (out : List ℕ) (answer : Result ℕ Refusal) (after : List ℕ) → HeaderWrittenAs (part_of d p) out answer after → length d ≤ length out
    → (answer ≡ Ok (length d)) × (after ≡ put out 0 d)

-- ---- Stat

abbrev pub stat_of : Stat → StatFields
stat_of s = record {
  mode = number_of s.mode;
  uid = number_of s.uid;
  gid = number_of s.gid;
  size = number_of s.size;
  blocks = number_of s.blocks;
  offset = number_of s.offset;
  byte_offset = number_of s.byte_offset;
  mtime = number_of s.mtime;
  ctime = number_of s.ctime;
}

-- and the cases that stand for fields
abbrev pub stat_told : StatFields → Stat
stat_told s = record {
  mode = number_told s.mode;
  uid = number_told s.uid;
  gid = number_told s.gid;
  size = number_told s.size;
  blocks = number_told s.blocks;
  offset = number_told s.offset;
  byte_offset = number_told s.byte_offset;
  mtime = number_told s.mtime;
  ctime = number_told s.ctime;
}

abbrev pub StatReadAs : List ℕ → Maybe Stat → Type 0
StatReadAs d None = Rejected stat_bytes StatWithin d
StatReadAs d (Some s) = Accepted stat_bytes StatWithin d (stat_of s)
