-- The ten files of an archive: what a journal makes of them.
use Rattle.std.specs.Prelude.{ℕ, zero, suc, ◌≤◌, ◌<◌, ◌≡◌, true, false, length, eqb}
use mathlib.Core.List.{List, [], ◌∷◌, Memᴰ}
use Rattle.journal.specs.Ranges.{Range, Placed, ranges_of, write, grown, applied}
use Rattle.journal.specs.Form.{Journal, WellFormed, old_state, new_state, change_of, state_of, In}
use Rattle.theorem_journal_recovers.specs.Recovers.{Old, Mixed, SameOutside, Left, Torn, MadeFrom, Written}

-- a file of an archive
pub data File : Type 0 where
  absent : File
  there : List ℕ → File

abbrev pub state : File → ℕ
state absent = state_of false 0
state (there f) = state_of true (length f)

abbrev pub contents : File → List ℕ
contents absent = []
contents (there f) = f

-- an archive: its files by their numbers
abbrev pub Archive : Type 0
Archive = ℕ → File

-- a file that gets a length is made if it is absent, and brought to it
abbrev pub sized : ℕ → File → File
sized zero f = f
sized (suc n) f = there (grown n (contents f))

abbrev pub opened : Journal → Archive → Archive
opened x A i = sized (new_state x i) (A i)

-- one range written into its file
abbrev pub write_file : Range → File → File
write_file r absent = absent
write_file r (there f) = there (write r f)

unfoldable pub write_in : Placed → Archive → Archive
write_in p A i = elim (eqb p.file i) [ true ↦ write_file p.range (A i) | false ↦ A i ]

-- ranges written in their order
unfoldable pub writes_in : List Placed → Archive → Archive
writes_in [] A = A
writes_in (p ∷ ps) A = writes_in ps (write_in p A)

-- the archive after the change
abbrev pub changed : Journal → ℕ → ℕ → File → File
changed x i zero f = f
changed x i (suc n) f = there (applied (change_of x i) (contents f))

abbrev pub after : Journal → Archive → Archive
after x B i = changed x i (new_state x i) (B i)

-- the archive before: each file has its old state and the old bytes
pub record BeforeAll (x : Journal) (B : Archive) : Type 0 where
  pub states : (i : ℕ) → i < 10 → state (B i) ≡ old_state x i
  pub olds : (i : ℕ) → i < 10 → (r : Range) → In r (ranges_of i x.ranges) → Old (contents (B i)) r

-- a file "is **between** its old and its new state": the checks 8 and 9
pub record BetweenFile (x : Journal) (i : ℕ) (f : File) : Type 0 where
  pub low : old_state x i ≤ state f
  pub high : state f ≤ new_state x i
  pub mixed : (r : Range) → In r (ranges_of i x.ranges) → Mixed (contents f) r

abbrev pub BetweenAll : Journal → Archive → Type 0
BetweenAll x A = (i : ℕ) → i < 10 → BetweenFile x i (A i)

-- right outside the ranges
abbrev pub SameAll : Journal → Archive → Archive → Type 0
SameAll x B A = (i : ℕ) → i < 10 → SameOutside (change_of x i) (contents (B i)) (contents (A i))

-- writes in any order and with repetitions, over all files: of the ranges alone, and of each that is written at least once
pub record WritesAll (x : Journal) (ws : List Placed) : Type 0 where
  pub only : (p : Placed) → Memᴰ p ws → Memᴰ p x.ranges
  pub each : (p : Placed) → Memᴰ p x.ranges → Written p.range → Memᴰ p ws

-- what a stop can leave of the archive B
pub record LeftAll (x : Journal) (B A : Archive) : Type 0 where
  pub low : (i : ℕ) → i < 10 → old_state x i ≤ state (A i)
  pub high : (i : ℕ) → i < 10 → state (A i) ≤ new_state x i
  pub each : (i : ℕ) → i < 10 → Left (change_of x i) (contents (B i)) (contents (A i))

-- an archive torn from A: each file's state is between, each byte that of A or the one after, or anything in a range of kind 2 or 3
pub record TornAll (x : Journal) (B A T : Archive) : Type 0 where
  pub low : (i : ℕ) → i < 10 → old_state x i ≤ state (T i)
  pub high : (i : ℕ) → i < 10 → state (T i) ≤ new_state x i
  pub each : (i : ℕ) → i < 10 → Torn (change_of x i) (contents (B i)) (contents (A i)) (contents (T i))

-- the claim, of a well_formed journal x and an archive B before
pub record RecoversAll (x : Journal) (B : Archive) : Type 0 where
  -- "in any order and as often as it takes": on every archive between that is right outside the ranges, the writes give the archive after
  pub any_order : (A : Archive) → BetweenAll x A → SameAll x B A → (ws : List Placed) → WritesAll x ws → (i : ℕ) → i < 10 → writes_in ws (opened x A) i ≡ after x B i
  -- before and after are between, and so is every mixture that a stop can leave; each is right outside
  pub before : BetweenAll x B
  pub afterwards : BetweenAll x (after x B)
  pub left : (A : Archive) → LeftAll x B A → BetweenAll x A × SameAll x B A
  -- before and after are what a stop can leave, and so is all that is torn from that
  pub before_left : LeftAll x B B
  pub after_left : LeftAll x B (after x B)
  pub torn : (A T : Archive) → LeftAll x B A → TornAll x B A T → LeftAll x B T
  -- writes of some of the ranges, a recovery that is stopped between two writes, leave such an archive
  pub stopped : (A : Archive) → LeftAll x B A → (ws : List Placed) → ((p : Placed) → Memᴰ p ws → Memᴰ p x.ranges) → LeftAll x B (writes_in ws (opened x A))
  -- so whatever a stop left becomes the archive after, in any order and with any repetition
  pub heals : (A : Archive) → LeftAll x B A → (ws : List Placed) → WritesAll x ws → (i : ℕ) → i < 10 → writes_in ws (opened x A) i ≡ after x B i

-- of every well_formed journal and every archive before
abbrev pub RecoversAllForAll : Type 0
RecoversAllForAll = (x : Journal) → WellFormed x → (B : Archive) → BeforeAll x B → RecoversAll x B

-- two archives from which a journal was made: each range has what stands in them, and outside they agree
pub record MadeAll (x : Journal) (B A : Archive) : Type 0 where
  pub old : (i : ℕ) → i < 10 → state (B i) ≡ old_state x i
  pub new : (i : ℕ) → i < 10 → state (A i) ≡ new_state x i
  pub each : (i : ℕ) → i < 10 → (r : Range) → In r (ranges_of i x.ranges) → MadeFrom (contents (B i)) (contents (A i)) r
  pub same : SameAll x B A

-- the claim: the first is before, and the second is after
pub record MakesAll (x : Journal) (B A : Archive) : Type 0 where
  pub before : BeforeAll x B
  pub becomes : (i : ℕ) → i < 10 → after x B i ≡ A i

-- of every well_formed journal and every two archives that it was made from
abbrev pub MakesAllForAll : Type 0
MakesAllForAll = (x : Journal) → WellFormed x → (B A : Archive) → MadeAll x B A → MakesAll x B A
