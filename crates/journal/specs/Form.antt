-- The form of a journal: its bytes, and what makes it well_formed. Sentences in quotes are of FORMAT.md, "The journal".
use Rattle.std.specs.Prelude.{ℕ, ◌+◌, ◌-◌, ◌*◌, ◌%◌, ◌≤◌, ◌<◌, ◌≡◌, Bool, true, false, ◌&&◌, ◌||◌, length, get_or, eqb, leb}
use mathlib.Core.List.{List, [], ◌∷◌, ◌++◌, Memᴰ}
use Rattle.byte_strings.specs.Numbers.{be}
use Rattle.journal.specs.Ranges.{Range, replaced, fresh, blank, witness, start, stop, Placed, ranges_of, Change}

-- ---- states

-- a file's state is one number: 0 where it is absent, its length and one where it is there. That no file becomes absent and that
-- files only grow is one rule: states grow
abbrev pub state_of : Bool → ℕ → ℕ
state_of false long = 0
state_of true long = long + 1

-- the length that a state gives; an absent file has no bytes
abbrev pub length_of : ℕ → ℕ
length_of s = s - 1

-- "Lengths that a file can have", with at most 1,048,576 chunks of at most 65,536 bytes.
-- "a tree 32 or 80 n − 8": 32 bytes, and 40 for each of 2 n - 1 entries; 80 * 1,048,576 - 8 is 83,886,072
unfoldable pub tree_length : ℕ → Bool
tree_length x = leb x 83886072 && (eqb x 32 || eqb (x % 80) 72)

-- "signatures 32 + 64 s": at most 32 + 64 * 1,048,576
unfoldable pub signatures_length : ℕ → Bool
signatures_length x = leb x 67108896 && eqb (x % 64) 32

-- "a bitfield 32 + 3328 times a number up to 128": 3,328 for every 8,192 chunks
unfoldable pub bitfield_length : ℕ → Bool
bitfield_length x = leb x 426016 && eqb (x % 3328) 32

-- "data up to 2^36"
unfoldable pub data_length : ℕ → Bool
data_length x = leb x 68719476736

-- "a key 32"
unfoldable pub key_length : ℕ → Bool
key_length x = eqb x 32

-- tree, signatures, bitfield and data of the metadata, 0 to 3, and of the content, 4 to 7; the keys, 8 and 9
unfoldable pub right_length : ℕ → ℕ → Bool
right_length i x =
    elim (leb 8 i) [
      | true ↦ key_length x
      | false ↦ elim (eqb (i % 4) 0) [
        | true ↦ tree_length x
        | false ↦ elim (eqb (i % 4) 1) [ true ↦ signatures_length x | false ↦ elim (eqb (i % 4) 2) [ true ↦ bitfield_length x | false ↦ data_length x ] ]
      ]
    ]

-- "the old one is not above the new one, and the new one is 0 or 1 more than a length that the file can have"
unfoldable pub states_right : ℕ → ℕ → ℕ → Bool
states_right i old new = leb old new && (eqb new 0 || right_length i (length_of new))

-- ---- bytes

-- "the text `sleep-archive 2` and a newline"
abbrev pub magic : List ℕ
magic = 115 ∷ 108 ∷ 101 ∷ 101 ∷ 112 ∷ 45 ∷ 97 ∷ 114 ∷ 99 ∷ 104 ∷ 105 ∷ 118 ∷ 101 ∷ 32 ∷ 50 ∷ 10 ∷ []

-- the kind, by its number
abbrev pub kind_of : Range → ℕ
kind_of (replaced at o n) = 1
kind_of (fresh at n) = 2
kind_of (blank at k) = 3
kind_of (witness at w) = 4

-- the length
abbrev pub size_of : Range → ℕ
size_of (replaced at o n) = length n
size_of (fresh at n) = length n
size_of (blank at k) = k
size_of (witness at w) = length w

-- the bytes that a journal has of it: "kind 1: the old bytes, then the new ones", "kind 2: the new bytes", "kind 3: nothing", "kind 4: the bytes that stay"
abbrev pub payload : Range → List ℕ
payload (replaced at o n) = o ++ n
payload (fresh at n) = n
payload (blank at k) = []
payload (witness at w) = w

-- file and kind in a byte each, offset and length in eight
unfoldable pub header : ℕ → ℕ → ℕ → ℕ → List ℕ
header file kind at size = file ∷ kind ∷ (be 8 at ++ be 8 size)

-- a range in a journal
unfoldable pub encode : Placed → List ℕ
encode p = header p.file (kind_of p.range) (start p.range) (size_of p.range) ++ payload p.range

-- the ranges, one behind another
unfoldable pub encode_all : List Placed → List ℕ
encode_all [] = []
encode_all (p ∷ ps) = encode p ++ encode_all ps

-- numbers of eight bytes, one behind another
unfoldable pub words : List ℕ → List ℕ
words [] = []
words (x ∷ xs) = be 8 x ++ words xs

-- what a journal has: the old and the new state of each of ten files, file by file, and the ranges
pub record Journal : Type 0 where
  pub states : List ℕ
  pub ranges : List Placed

-- where the ranges begin, and the bytes of the hash
abbrev pub front : ℕ
front = 184

abbrev pub hash_bytes : ℕ
hash_bytes = 32

-- "A journal has 216 to 2^28 bytes"; the least one has no range
abbrev pub least_bytes : ℕ
least_bytes = 216

abbrev pub most_bytes : ℕ
most_bytes = 268435456

-- the length of a journal, the hash too
unfoldable pub long_of : Journal → ℕ
long_of x = front + length (encode_all x.ranges) + hash_bytes

-- all before the hash
unfoldable pub body : Journal → List ℕ
body x = magic ++ (be 8 (long_of x) ++ (words x.states ++ encode_all x.ranges))

-- "H of all bytes before" at the end
unfoldable pub journal_bytes : (List ℕ → List ℕ) → Journal → List ℕ
journal_bytes F x = body x ++ F (body x)

-- ---- well_formed

-- the old and the new state of the file i
abbrev pub old_state : Journal → ℕ → ℕ
old_state x i = get_or x.states (2 * i) 0

abbrev pub new_state : Journal → ℕ → ℕ
new_state x i = get_or x.states (2 * i + 1) 0

-- the change of the file i
abbrev pub change_of : Journal → ℕ → Change
change_of x i = record { old = length_of (old_state x i); new = length_of (new_state x i); ranges = ranges_of i x.ranges }

-- the place i lies in the range
abbrev pub Holds : Range → ℕ → Type 0
Holds r i = (start r ≤ i) × (i < stop r)

-- a range whose bytes before the change may be anything: kinds 2 and 3
abbrev pub Free : Range → Type 0
Free (replaced at o n) = ⊥
Free (fresh at n) = Unit {0}
Free (blank at k) = Unit {0}
Free (witness at w) = ⊥

-- r is one of the ranges rs
abbrev pub In : Range → List Range → Type 0
In r rs = Memᴰ r rs

-- ranges that rise from a on, each "at or behind the end" of the one before, up to the new length n
abbrev pub Rising : ℕ → List Range → ℕ → Type 0
Rising a [] n = a ≤ n
Rising a (r ∷ rs) n = (a ≤ start r) × Rising (stop r) rs n

-- as many old bytes as new ones; "Of kinds 1 and 4 it ends at or before the old length"
abbrev pub Fits : ℕ → Range → Type 0
Fits m (replaced at o n) = (length o ≡ length n) × (at + length o ≤ m)
Fits m (fresh at n) = Unit {0}
Fits m (blank at k) = Unit {0}
Fits m (witness at w) = at + length w ≤ m

-- the place i lies in a range of kind 2 or 3
abbrev pub FreeAt : Change → ℕ → Type 0
FreeAt c i = (r : Range) × In r c.ranges × Free r × Holds r i

-- the rules of one file; the last: "the ranges of kinds 2 and 3 have every byte from the old length to the new one"
pub record Sound (c : Change) : Type 0 where
  pub grows : c.old ≤ c.new
  pub rising : Rising 0 c.ranges c.new
  pub fits : (r : Range) → In r c.ranges → Fits c.old r
  pub covered : (i : ℕ) → c.old ≤ i → i < c.new → FreeAt c i

-- "Its file is not below that of the range before", and is one of ten
abbrev pub FilesRise : ℕ → List Placed → Type 0
FilesRise f [] = Unit {0}
FilesRise f (p ∷ ps) = (f ≤ p.file) × (p.file < 10) × FilesRise p.file ps

-- a well_formed journal
pub record WellFormed (x : Journal) : Type 0 where
  pub ten : length x.states ≡ 20
  pub right : (i : ℕ) → i < 10 → states_right i (old_state x i) (new_state x i) ≡ true
  pub files : FilesRise 0 x.ranges
  -- a range has at least one byte
  pub each : (p : Placed) → Memᴰ p x.ranges → 1 ≤ size_of p.range
  pub sound : (i : ℕ) → i < 10 → Sound (change_of x i)
  pub bound : long_of x ≤ most_bytes
