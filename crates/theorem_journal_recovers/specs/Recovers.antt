-- What a stop can leave, and what is claimed of it.
use Rattle.std.specs.Prelude.{ℕ, ◌+◌, ◌≤◌, ◌<◌, ◌≡◌, ◌⊎◌, List, length, get_or}
use Rattle.byte_strings.specs.Lists.{part, zeros}
use Rattle.journal.specs.Ranges.{Range, replaced, fresh, blank, witness, Change, grown, write_all, applied}
use Rattle.journal.specs.Form.{In, Holds, FreeAt, Sound}

-- a range that is written: all but a witness
abbrev pub Written : Range → Type 0
Written (replaced at o n) = Unit {0}
Written (fresh at n) = Unit {0}
Written (blank at k) = Unit {0}
Written (witness at w) = ⊥

-- the place i lies in no range
abbrev pub Outside : Change → ℕ → Type 0
Outside c i = (r : Range) → In r c.ranges → Holds r i → ⊥

-- the file before has the old bytes of each range that has some
abbrev pub Old : List ℕ → Range → Type 0
Old f (replaced at o n) = part f at (length o) ≡ o
Old f (fresh at n) = Unit {0}
Old f (blank at k) = Unit {0}
Old f (witness at w) = part f at (length w) ≡ w

-- the file before
pub record Before (c : Change) (b : List ℕ) : Type 0 where
  pub long : length b ≡ c.old
  pub olds : (r : Range) → In r c.ranges → Old b r

-- the bytes of a range are old or new ones, each for itself; a witness's are those given
abbrev pub Mixed : List ℕ → Range → Type 0
Mixed f (replaced at o n) = (i : ℕ) → i < length n → (get_or f (at + i) 0 ≡ get_or o i 0) ⊎ (get_or f (at + i) 0 ≡ get_or n i 0)
Mixed f (fresh at n) = Unit {0}
Mixed f (blank at k) = Unit {0}
Mixed f (witness at w) = part f at (length w) ≡ w

-- a file between: all that a check can see
pub record Between (c : Change) (f : List ℕ) : Type 0 where
  pub low : c.old ≤ length f
  pub high : length f ≤ c.new
  pub mixed : (r : Range) → In r c.ranges → Mixed f r

-- right outside the ranges
abbrev pub SameOutside : Change → List ℕ → List ℕ → Type 0
SameOutside c b f = (i : ℕ) → i < c.old → Outside c i → get_or f i 0 ≡ get_or b i 0

-- writes in any order and with repetitions: of the ranges alone, and of each that is written at least once
pub record Writes (c : Change) (ws : List Range) : Type 0 where
  pub only : (r : Range) → In r ws → In r c.ranges
  pub each : (r : Range) → In r c.ranges → Written r → In r ws

-- what a stop can leave of the file b: below the old length each byte is the one before, the one after, or anything in a range of kind 2 or 3;
-- behind it anything
pub record Left (c : Change) (b f : List ℕ) : Type 0 where
  pub low : c.old ≤ length f
  pub high : length f ≤ c.new
  pub each : (i : ℕ) → i < c.old → (get_or f i 0 ≡ get_or b i 0) ⊎ ((get_or f i 0 ≡ get_or (applied c b) i 0) ⊎ FreeAt c i)

-- a byte of g is that of f or the one after, or anything in a range of kind 2 or 3
pub record Torn (c : Change) (b f g : List ℕ) : Type 0 where
  pub low : c.old ≤ length g
  pub high : length g ≤ c.new
  pub each : (i : ℕ) → i < c.old → (get_or g i 0 ≡ get_or f i 0) ⊎ ((get_or g i 0 ≡ get_or (applied c b) i 0) ⊎ FreeAt c i)

-- the claim, of a sound change c and a file b before it
pub record Recovers (c : Change) (b : List ℕ) : Type 0 where
  -- A: every file between that is right outside the ranges becomes the file after
  pub recovers : (f : List ℕ) → Between c f → SameOutside c b f → applied c f ≡ applied c b
  -- B: by writes in any order and with any repetition
  pub any_order : (f : List ℕ) → Between c f → SameOutside c b f → (ws : List Range) → Writes c ws → write_all ws (grown c.new f) ≡ applied c b
  -- the file after has the new length
  pub long : length (applied c b) ≡ c.new
  -- C: the file before and the one after are what a stop can leave, all that is torn from that is, and all that is so left is between and right outside
  pub before : Left c b b
  pub after : Left c b (applied c b)
  pub torn : (f g : List ℕ) → Left c b f → Torn c b f g → Left c b g
  pub between : (f : List ℕ) → Left c b f → Between c f
  pub outside : (f : List ℕ) → Left c b f → SameOutside c b f
  -- D: writes of some of the ranges, a recovery that is stopped between two writes, leave such a file
  pub stopped : (f : List ℕ) → Left c b f → (ws : List Range) → ((r : Range) → In r ws → In r c.ranges) → Left c b (write_all ws (grown c.new f))
  -- so whatever a stop left becomes the file after, in any order and with any repetition
  pub heals : (f : List ℕ) → Left c b f → (ws : List Range) → Writes c ws → write_all ws (grown c.new f) ≡ applied c b

-- of every sound change and every file before
abbrev pub RecoversForAll : Type 0
RecoversForAll = (c : Change) → Sound c → (b : List ℕ) → Before c b → Recovers c b

-- a range that was made from the file before and the file after
abbrev pub MadeFrom : List ℕ → List ℕ → Range → Type 0
MadeFrom b a (replaced at o n) = (part b at (length o) ≡ o) × (part a at (length n) ≡ n)
MadeFrom b a (fresh at n) = part a at (length n) ≡ n
MadeFrom b a (blank at k) = part a at k ≡ zeros k
MadeFrom b a (witness at w) = (part b at (length w) ≡ w) × (part a at (length w) ≡ w)

-- a change made from a file before and a file after that are the same outside its ranges
pub record Made (c : Change) (b a : List ℕ) : Type 0 where
  pub old : length b ≡ c.old
  pub new : length a ≡ c.new
  pub each : (r : Range) → In r c.ranges → MadeFrom b a r
  pub same : SameOutside c b a

-- the claim: b is the file before, and what the change gives is a
pub record MakesAfter (c : Change) (b a : List ℕ) : Type 0 where
  pub before : Before c b
  pub after : applied c b ≡ a

-- of every sound change and every two files that it was made from
abbrev pub MakesAfterForAll : Type 0
MakesAfterForAll = (c : Change) → Sound c → (b a : List ℕ) → Made c b a → MakesAfter c b a
