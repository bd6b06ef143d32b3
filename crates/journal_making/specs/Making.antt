-- Making a journal: begin, a range, the end.
use Rattle.std.specs.Prelude.{ℕ, ◌+◌, Bool, true, false, ◌&&◌, List, ◌++◌, length, take, eqb, leb, ltb, Ok, Err}
use Rattle.byte_strings.specs.Lists.{put, zeros}
use Rattle.byte_strings.specs.Numbers.{be}
use Rattle.journal.specs.Form.{magic, words, header, front, hash_bytes, least_bytes}
use Rattle.journal.specs.Places.{length_right}
use Rattle.journal.specs.Reading.{Said, whether, begins, table, and_then, if_done}
use Rattle.journal.specs.declared.JournalError.TheVariants.{Length, First, Unfit}

-- ---- begin

unfoldable pub begin_said : List ℕ → Said
begin_said j = whether (leb least_bytes (length j)) (Ok front) (Err Length)

-- the magic, zeros for the own length, the states
unfoldable pub begun : List ℕ → List ℕ → List ℕ
begun states j = if_done (begin_said j) (put j 0 (magic ++ (zeros 8 ++ words states))) j

-- ---- a range

-- as many old and new bytes as the kind and the length ask
unfoldable pub fitting : ℕ → ℕ → ℕ → ℕ → Bool
fitting kind size old new =
    elim (eqb kind 1) [
      | true ↦ eqb old size && eqb new size
      | false ↦ elim (eqb kind 2) [
        | true ↦ eqb old 0 && eqb new size
        | false ↦ elim (eqb kind 3) [ true ↦ eqb old 0 && eqb new 0 | false ↦ eqb kind 4 && (eqb old size && eqb new 0) ]
      ]
    ]

-- its bytes
unfoldable pub range_bytes : ℕ → ℕ → ℕ → ℕ → List ℕ → List ℕ → List ℕ
range_bytes file kind at size old new = header file kind at size ++ (old ++ new)

-- the place behind it
abbrev pub put_end : ℕ → List ℕ → List ℕ → ℕ
put_end q old new = q + 18 + (length old + length new)

-- the range and a hash have room behind a place
unfoldable pub room_for : ℕ → ℕ → ℕ → ℕ → Bool
room_for long q old new = leb (q + 18 + (old + new) + hash_bytes) long

unfoldable pub put_said : List ℕ → ℕ → ℕ → ℕ → ℕ → List ℕ → List ℕ → Said
put_said j q file kind size old new =
    whether (ltb file 10 && fitting kind size (length old) (length new)) (whether (room_for (length j) q (length old) (length new)) (Ok (put_end q old new)) (Err Length)) (Err Unfit)

unfoldable pub put_after : List ℕ → ℕ → ℕ → ℕ → ℕ → ℕ → List ℕ → List ℕ → List ℕ
put_after j q file kind at size old new = if_done (put_said j q file kind size old new) (put j q (range_bytes file kind at size old new)) j

-- ---- the end

-- the ranges end at q, and there is room for the hash: what reading would say of the first bytes and of the table
unfoldable pub end_said : List ℕ → ℕ → Said
end_said j q =
    whether (leb (q + hash_bytes) (length j) && length_right (q + hash_bytes)) (whether (begins j) (and_then (table j q) (Ok (q + hash_bytes))) (Err First)) (Err Length)

-- the own length, then the hash of all before it
unfoldable pub sealed : (List ℕ → List ℕ) → List ℕ → ℕ → List ℕ
sealed F j q = put (put j 16 (be 8 (q + hash_bytes))) q (F (take q (put j 16 (be 8 (q + hash_bytes)))))

unfoldable pub end_after : (List ℕ → List ℕ) → List ℕ → ℕ → List ℕ
end_after F j q = if_done (end_said j q) (sealed F j q) j
