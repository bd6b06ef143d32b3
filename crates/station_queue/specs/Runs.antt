-- What holds of every run of calls from a fresh table.
--
-- The notions in it: `fresh`, `entered`, `next`, `served` and `waiting_for` (Table), `table_of` (Words), `Begun`, `Entered` and `Left` (Calls),
-- `among` (byte_strings, Lists).
use Rattle.answer_types.specs.declared.Refusal.{Refusal}
use Rattle.std.specs.Prelude.{ℕ, ◌<◌, ◌≤◌, ◌≡◌, false, cond, List, [], ◌∷◌, ◌++◌, length, eqb, Result, ⊤}
use Rattle.answer_types.specs.Verdict.{Verdict, Spot, none, done, refused}
use Rattle.byte_strings.specs.Lists.{among}
use Rattle.station_queue.specs.Table.{Read, Table, Turn, nobody, turn, stations, most_waiting, waiting_for, Waits, fresh, enter_verdict, entered, next, served}
use Rattle.station_queue.specs.Words.{table_of}
use Rattle.station_queue.specs.Post.{Begun, Entered, Left}

pub data Call : Type 0 where
  enter : ℕ → Read → Call
  serve : Call

-- what a call says: a read came to wait, one was turned away, one was served, or nobody waits
pub data Event : Type 0 where
  came : ℕ → Read → Event
  turned_away : Event
  went : ℕ → Read → Event
  idle : Event

abbrev pub entry_of : Verdict → ℕ → Read → Event
entry_of done s r = came s r
entry_of (refused m at) s r = turned_away

abbrev pub serving_of : Turn → Event
serving_of nobody = idle
serving_of (turn s r) = went s r

abbrev pub event : Table → Call → Event
event t (enter s r) = entry_of (enter_verdict t s) s r
event t serve = serving_of (next t)

abbrev pub after : Table → Call → Table
after t (enter s r) = entered t s r
after t serve = served t

-- the table after some calls, and what they say
unfoldable pub after_all : Table → List Call → Table
after_all t [] = t
after_all t (c ∷ cs) = after_all (after t c) cs

unfoldable pub events : Table → List Call → List Event
events t [] = []
events t (c ∷ cs) = event t c ∷ events (after t c) cs

-- the reads that came to wait for station s, in their order, and those of it that were served
abbrev pub if_for : ℕ → ℕ → Read → List Read
if_for s x r = cond (eqb s x) (r ∷ []) []

abbrev pub comes : ℕ → Event → List Read
comes s (came x r) = if_for s x r
comes s turned_away = []
comes s (went x r) = []
comes s idle = []

abbrev pub goes : ℕ → Event → List Read
goes s (came x r) = []
goes s turned_away = []
goes s (went x r) = if_for s x r
goes s idle = []

unfoldable pub came_for : ℕ → List Event → List Read
came_for s [] = []
came_for s (e ∷ es) = comes s e ++ came_for s es

unfoldable pub went_for : ℕ → List Event → List Read
went_for s [] = []
went_for s (e ∷ es) = goes s e ++ went_for s es

-- the stations served, in their order
abbrev pub whom : Event → List ℕ
whom (came x r) = []
whom turned_away = []
whom (went x r) = x ∷ []
whom idle = []

unfoldable pub servings : List Event → List ℕ
servings [] = []
servings (e ∷ es) = whom e ++ servings es

-- what is claimed of the table t that some calls leave of a fresh one, and of the calls that follow
pub record Fair (calls : List Call) (t : Table) : Type 0 where
  -- "first come first": the reads that came to wait for a station are those of it that were served, and then, in the same order, those that wait
  pub in_order : (s : ℕ) → came_for s (events fresh calls) ≡ went_for s (events fresh calls) ++ waiting_for t s
  -- "Up to 4 reads wait for each of stations 0 to 15", and none for another
  pub few : (s : ℕ) → length (waiting_for t s) ≤ most_waiting
  pub others : (s : ℕ) → stations ≤ s → waiting_for t s ≡ []
  pub last_below : t.last < stations
  -- "a waiting station is served after at most 15 servings of others": among any further calls that serve others alone, at most 15 serve
  pub soon : (s : ℕ) → Waits t s → (later : List Call) → among s (servings (events t later)) ≡ false → length (servings (events t later)) ≤ 15
  -- ""None" is given if and only if no read waits."
  pub none_waits : next t ≡ nobody → (s : ℕ) → waiting_for t s ≡ []
  pub none_said : ((s : ℕ) → waiting_for t s ≡ []) → next t ≡ nobody
  -- a serving names a station and the read of it that came first, which leaves the table; no other station's reads move
  pub named : (s : ℕ) (r : Read) → next t ≡ turn s r → waiting_for t s ≡ r ∷ waiting_for (served t) s
  pub unmoved : (s x : ℕ) (r : Read) → next t ≡ turn s r → (x ≡ s → ⊥) → waiting_for (served t) x ≡ waiting_for t x
  -- "21 a station above 15 and then with 22 a fifth waiting read; entering a read checks nothing else"
  pub twenty_one : (s : ℕ) → stations ≤ s → enter_verdict t s ≡ refused 21 none
  pub twenty_two : (s : ℕ) → s < stations → length (waiting_for t s) ≡ most_waiting → enter_verdict t s ≡ refused 22 none
  pub let_in : (s : ℕ) → s < stations → length (waiting_for t s) < most_waiting → enter_verdict t s ≡ done
  -- neither changes the table, nor does "none"
  pub refused_keeps : (s : ℕ) (r : Read) (m : ℕ) (at : Spot) → enter_verdict t s ≡ refused m at → entered t s r ≡ t
  pub none_keeps : next t ≡ nobody → served t ≡ t

abbrev pub FairForAll : Type 0
FairForAll = (calls : List Call) → Fair calls (after_all fresh calls)

-- "tables grown from a fresh one by these calls", as they are lent: the numbers to which a fresh table, entries, whatever they are answered,
-- and servings lead
pub data Grown : List Call → List ℕ → Type 0 where
  begun : {t : List ℕ} → Begun t → Grown [] t
  and_entered : {calls : List Call} {t u : List ℕ} (s : ℕ) (r : Read) (a : Result ⊤ Refusal) → Grown calls t → Entered s r t a u
      → Grown (calls ++ (enter s r ∷ [])) u
  and_served : {calls : List Call} {t u : List ℕ} → Grown calls t → Left t u → Grown (calls ++ (serve ∷ [])) u

abbrev pub FairAsLent : Type 0
FairAsLent = (calls : List Call) (t : List ℕ) → Grown calls t → Fair calls (table_of t)
