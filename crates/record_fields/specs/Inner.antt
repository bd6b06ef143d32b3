-- What the inner functions find at a place of the bytes lent, and what they put there.
use Rattle.std.specs.Prelude.{Option as Maybe, None, Some, ℕ, ◌+◌, ◌*◌, ◌<◌, ◌≤◌, ◌≡◌, cond, List, ◌++◌, ltb, length, get_or, drop}
use Rattle.std.proofs.Math.Option.{Option, none, some}
use Rattle.byte_strings.specs.Lists.{part, put}
use Rattle.record_fields.specs.Varints.{digits, varint, Fits}
use Rattle.record_fields.specs.Reading.{Begins, BeginsNot, Any}
use Rattle.record_fields.specs.Fields.{number_field, part_field, given_field, Short, Most, Longest, Later}
use Rattle.record_fields.specs.declared.varints.Read.{Read}
use Rattle.record_fields.specs.declared.rows.Part.{Part}

-- ---- the field that each case stands for: `Maybe` is the code's Option, and `Option` that of the definitions

abbrev pub number_of : Maybe ℕ → Option ℕ
number_of None = none
number_of (Some x) = some x

-- and the case that stands for a field
abbrev pub number_told : Option ℕ → Maybe ℕ
number_told none = None
number_told (some x) = Some x

-- the bytes that a part of the bytes lent stands for
abbrev pub part_of : List ℕ → Part → List ℕ
part_of d p = part d p.at p.len

abbrev pub bytes_of : List ℕ → Maybe Part → Option (List ℕ)
bytes_of d None = none
bytes_of d (Some p) = some (part_of d p)

-- a part that lies in the bytes lent
abbrev pub Inside : List ℕ → Part → Type 0
Inside d p = p.at + p.len ≤ length d

abbrev pub BytesInside : List ℕ → Maybe Part → Type 0
BytesInside d None = Unit {0}
BytesInside d (Some p) = Inside d p

-- how many bytes a part has
abbrev pub size_of : Maybe Part → ℕ
size_of None = 0
size_of (Some p) = p.len

-- ---- where a part lies: behind the tag and the length of its field

-- what stands before the bytes of a part
abbrev pub head_of : ℕ → List ℕ → List ℕ
head_of k bs = varint (8 * k + 2) ++ varint (length bs)

-- the part of a field that is written at a place
abbrev pub part_placed : ℕ → ℕ → List ℕ → Part
part_placed at k bs = record { at = at + length (head_of k bs); len = length bs }

abbrev pub bytes_placed : ℕ → ℕ → Option (List ℕ) → Maybe Part
bytes_placed at k none = None
bytes_placed at k (some bs) = Some (part_placed at k bs)

-- ---- reading

-- a value was read, and what follows begins at `next`
pub record Upto {A : Type 0} (write : A → List ℕ) (Within : A → Type 0) (Follows : List ℕ → Type 0) (d : List ℕ) (at : ℕ) (a : A) (next : ℕ) : Type 0 where
  pub begins : Begins write Within Follows (drop at d) a (drop next d)
  pub inside : next ≤ length d

-- what was read, and where it ends
abbrev pub read_to : {A : Type 0} → A → ℕ → Maybe (Read A)
read_to x next = Some (record { value = x; next = next })

abbrev pub DigitsRead : List ℕ → ℕ → ℕ → Maybe (Read ℕ) → Type 0
DigitsRead d k at None = BeginsNot (digits k) (Fits k) Any (drop at d)
DigitsRead d k at (Some r) = Upto (digits k) (Fits k) Any d at r.value r.next

-- the number whose lowest seven bits are `low`, behind which the rest of it was read: none where the rest is 0 or the whole not below 2^64
abbrev pub joined_of : ℕ → Maybe (Read ℕ) → Maybe (Read ℕ)
joined_of low None = None
joined_of low (Some r) = cond (ltb 0 r.value) (cond (ltb r.value 144115188075855872) (read_to (low + 128 * r.value) r.next) None) None

abbrev pub NumberRead : List ℕ → ℕ → ℕ → ℕ → Maybe (Read (Maybe ℕ)) → Type 0
NumberRead d at k most None = BeginsNot (number_field k) (Most most) (Later k) (drop at d)
NumberRead d at k most (Some r) = Upto (number_field k) (Most most) (Later k) d at (number_of r.value) r.next

-- bytes that begin with no field of number k that is a part, whatever may follow that
pub record NoPart (k longest : ℕ) (s : List ℕ) : Type 0 where
  pub none : BeginsNot (part_field k) (Longest longest) (Later k) s
  pub given : BeginsNot (given_field k) (Short longest) Any s
  pub tagged : get_or s 0 256 ≡ 8 * k + 2

-- an absent field has no tag
abbrev pub NoTag : ℕ → List ℕ → Maybe Part → Type 0
NoTag k s None = get_or s 0 256 ≡ 8 * k + 2 → ⊥
NoTag k s (Some p) = Unit {0}

-- a part ends where its field does
abbrev pub EndsAt : Maybe Part → ℕ → Type 0
EndsAt None next = Unit {0}
EndsAt (Some p) next = p.at + p.len ≡ next

-- a part that was read, with its field: it lies in the bytes lent
pub record PartUpto (d : List ℕ) (at k longest : ℕ) (o : Maybe Part) (next : ℕ) : Type 0 where
  pub read : Upto (part_field k) (Longest longest) (Later k) d at (bytes_of d o) next
  pub inside : BytesInside d o
  pub tag : NoTag k (drop at d) o
  pub ends : EndsAt o next

abbrev pub BytesRead : List ℕ → ℕ → ℕ → ℕ → Maybe (Read (Maybe Part)) → Type 0
BytesRead d at k longest None = NoPart k longest (drop at d)
BytesRead d at k longest (Some r) = PartUpto d at k longest r.value r.next

-- ---- putting

-- bytes were put at a place, and `next` is behind them
pub record PutAt (bytes before : List ℕ) (at next : ℕ) (after : List ℕ) : Type 0 where
  pub ends : next ≡ at + length bytes
  pub holds : after ≡ put before at bytes

-- a number of k + 1 bytes at most has room at a place
pub record Roomy (k x : ℕ) (before : List ℕ) (at : ℕ) : Type 0 where
  pub fits : Fits k x
  pub room : at + length (digits k x) ≤ length before

-- a part of the bytes lent has room at a place
pub record BytesRoomy (d : List ℕ) (o : Maybe Part) (k : ℕ) (before : List ℕ) (at : ℕ) : Type 0 where
  pub kind : k < 16
  pub inside : BytesInside d o
  pub room : at + 11 + size_of o ≤ length before
