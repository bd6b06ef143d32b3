-- The numbers that stand for what the calls on records say.
use Rattle.std.specs.Prelude.{Result, ℕ, ◌≤◌, ◌≡◌, Bool, List, [], ◌∷◌, ◌++◌, length, get_or, drop}
use Rattle.answer_types.specs.Verdict.{Verdict, none, done, refused, unless_refused}
use Rattle.byte_strings.specs.Lists.{part, put}
use Rattle.record_fields.specs.declared.rows.Part.{Part}
use Rattle.record_format.specs.Records.{HeaderWithin, header_bytes, node_bytes}
use Rattle.record_format.specs.Post.{Decides, write_verdict, front_unless, written_verdict, written_length, header_of, read_header}
use Rattle.answer_types.specs.declared.Refusal.{Refusal}
use Rattle.record_node.specs.Post.{NodeFits, node_of, read_node}
use Rattle.record_node.specs.declared.reading.Node.{Node}
use Rattle.c_records.specs.Flat.{flat_node}
use Rattle.c_records.specs.Numbers.{node_numbers, node_lent}
use Rattle.record_find.specs.Finding.{Outcome, failed, at, nowhere}
use Rattle.c_encoding.specs.Encoding.{encoded}

-- ---- writing

-- what writing says, and the number lent for the length before and after
pub record Told (w : Result ℕ Refusal) (long : ℕ) (answer : List ℕ) (long_after : ℕ) : Type 0 where
  pub answers : answer ≡ encoded (written_verdict w)
  pub number : long_after ≡ unless_refused (written_verdict w) (written_length w) long

-- writing these bytes, of fields whose being in bounds is W: the answer, and what is lent for the bytes and for their number
pub record Writes (W : Type 0) (bytes out : List ℕ) (long : ℕ) (answer out_after : List ℕ) (long_after : ℕ) : Type 0 where
  pub fits : Bool
  pub decides : Decides W fits
  pub answers : answer ≡ encoded (write_verdict fits (length bytes) (length out))
  pub buffer : out_after ≡ front_unless (write_verdict fits (length bytes) (length out)) bytes out
  pub number : long_after ≡ unless_refused (write_verdict fits (length bytes) (length out)) (length bytes) long

abbrev pub WritesHeader : List ℕ → List ℕ → ℕ → List ℕ → List ℕ → ℕ → Type 0
WritesHeader content = Writes (HeaderWithin (header_of content)) (header_bytes (header_of content))

-- of the Node whose fields are lent as the numbers k
abbrev pub WritesNode : List ℕ → List ℕ → List ℕ → ℕ → List ℕ → List ℕ → ℕ → Type 0
WritesNode d k = Writes (NodeFits d (node_lent k)) (node_bytes (node_of d (node_lent k)))

-- ---- reading

-- the two numbers lent: where the content bytes begin, and how many they are, as they were after a refusal
abbrev pub header_numbers : Verdict × Part → List ℕ → List ℕ
header_numbers told before = unless_refused told.0 (told.1.at ∷ told.1.len ∷ []) before

-- what is told of a Header: the answer, and the two numbers before and after
pub record GivesHeader (told : Verdict × Part) (before answer after : List ℕ) : Type 0 where
  pub answers : answer ≡ encoded told.0
  pub numbers : after ≡ header_numbers told before

-- what is told of a Node: the answer's three numbers, and the Node's 67
abbrev pub encoded_node : Verdict × Node → List ℕ
encoded_node told = encoded told.0 ++ node_numbers (flat_node told.1)

-- ---- finding

-- 1 and the chunk, or 0 and 0, and the answer's three numbers
abbrev pub encoded_found : Outcome → List ℕ
encoded_found (failed number spot) = 0 ∷ 0 ∷ encoded (refused number spot)
encoded_found (at c) = 1 ∷ c ∷ encoded done
encoded_found nowhere = 0 ∷ 0 ∷ encoded done

-- ---- "writing what was read restores the bytes", of the pairs that C has

-- these bytes were written, with their number
pub record GivesBack (d out : List ℕ) (answer out_after : List ℕ) (long_after : ℕ) : Type 0 where
  pub answers : answer ≡ encoded done
  pub buffer : out_after ≡ put out 0 d
  pub number : long_after ≡ length d

pub record WritesBack : Type 0 where
  -- a Header was read of the bytes d, and the part that the two numbers name is written into room for d
  pub headers : (d before read at : List ℕ) → GivesHeader (read_header none d) before read at → get_or read 0 1 ≡ 0
      → (out : List ℕ) (long : ℕ) (answer out_after : List ℕ) (long_after : ℕ) → WritesHeader (part d (get_or at 0 0) (get_or at 1 0)) out long answer out_after long_after
      → length d ≤ length out → GivesBack d out answer out_after long_after
  -- a Node was read of the bytes d, and the 67 numbers behind the answer's three are handed to the writer as they are
  pub nodes : (d read : List ℕ) → read ≡ encoded_node (read_node none d) → get_or read 0 1 ≡ 0
      → (out : List ℕ) (long : ℕ) (answer out_after : List ℕ) (long_after : ℕ) → WritesNode d (drop 3 read) out long answer out_after long_after
      → length d ≤ length out → GivesBack d out answer out_after long_after
