-- "Each serving .. names it, and answers as a direct read made then": the read whose turn it is, made on the registers as they are lent.
use Rattle.std.specs.Prelude.{ℕ, ◌≡◌, cond, List, [], eqb}
use Rattle.answer_types.specs.Verdict.{Spot, Verdict, done, refused}
use Rattle.file_format.specs.Belongs.{Register}
use Rattle.lookup.specs.Read.{Name, metadata, contents, named, chunk_bytes, read_verdict, read_part}
use Rattle.station_queue.specs.Table.{Read, Table, Turn, nobody, turn, after_turn, next}
use Rattle.station_queue.specs.Words.{table_of}
use Rattle.station_queue.specs.Post.{Left}

-- the number under which a table keeps the name of a register, and the register that a number names: 0 the metadata register, any other the
-- content register
abbrev pub number_of : Name → ℕ
number_of metadata = 0
number_of contents = 1

unfoldable pub named_by : ℕ → Name
named_by k = cond (eqb k 0) metadata contents

-- what a serving answers: that no read waits, or which station is served and what its read is answered
pub data Serving : Type 0 where
  none : Serving
  station : ℕ → Verdict → Serving

module _ (F : List ℕ → List ℕ) where
  abbrev pub serving : Turn → Register → Register → Serving
  serving nobody m c = none
  serving (turn s r) m c = station s (read_verdict F (named (named_by r.register) m c) r.chunk)

  -- the bytes that it hands back; nothing where no read waits
  abbrev pub served_part : Turn → Register → Register → List ℕ
  served_part nobody m c = []
  served_part (turn s r) m c = read_part F (named (named_by r.register) m c) r.chunk

-- "a refused read is served too and leaves the table": whatever the read is answered
abbrev pub after_serving : Serving → Table → Table
after_serving none t = t
after_serving (station s verdict) t = after_turn t s

-- a serving from the registers m and c: the table's numbers before and after, the same where no read waits, and the bytes handed back
pub record Serves (F : List ℕ → List ℕ) (m c : Register) (before after given : List ℕ) : Type 0 where
  pub part : given ≡ served_part F (next (table_of before)) m c
  pub table : table_of after ≡ after_serving (serving F (next (table_of before)) m c) (table_of before)
  -- the numbers themselves; and it is the serving of which the runs of calls speak (stations, Runs)
  pub left : Left before after

-- what a serving hands back agrees with what it says beside: nothing where no read waits or the read is refused, else the chunk of the read
-- whose turn it is, in the register that it names
pub record Agrees (F : List ℕ → List ℕ) (m c : Register) (v : Turn) : Type 0 where
  pub nothing : serving F v m c ≡ none → served_part F v m c ≡ []
  pub refusal : (s k : ℕ) (at : Spot) → serving F v m c ≡ station s (refused k at) → served_part F v m c ≡ []
  pub chunk : (s : ℕ) → serving F v m c ≡ station s done → (r : Read) → v ≡ turn s r
      → served_part F v m c ≡ chunk_bytes (named (named_by r.register) m c) r.chunk
  -- "None" if and only if it is nobody's turn, and the station named is the one whose turn it is
  pub idle : serving F v m c ≡ none → v ≡ nobody
  pub turned : (s : ℕ) (r : Read) → v ≡ turn s r → serving F v m c ≡ station s (read_verdict F (named (named_by r.register) m c) r.chunk)

abbrev pub AgreesForAll : Type 0
AgreesForAll = (F : List ℕ → List ℕ) (m c : Register) (v : Turn) → Agrees F m c v
