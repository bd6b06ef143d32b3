-- "Append a list of chunks: tree, bitfield and data become what single appends would leave, and one root hash is answered." Between two of
-- them stands a stored signature: "a set carries one signature, for its last chunk. The set's earlier signature entries are written as 64
-- zero bytes".
use Rattle.std.specs.Prelude.{ℕ, ◌+◌, ◌-◌, List, [], ◌∷◌, ◌++◌, length, leb, ltb, eqb}
use Rattle.answer_types.specs.Verdict.{Verdict, done, unless_refused}
use Rattle.byte_strings.specs.Lists.{total, zeros}
use Rattle.file_format.specs.Sizes.{most_chunks, used_tree, used_signatures, used_bitfield}
use Rattle.file_format.specs.Belongs.{Buffers, Register, buffers_of}
use Rattle.checks.specs.Checks.{Check, judged, later_checks, holds}
use Rattle.checks.specs.Lengths.{most_listed, all_short}
use Rattle.writing.specs.Append.{appended_register, root_unless_refused}
use Rattle.writing.specs.Sign.{signed_register}
use Rattle.append_list.specs.Chunks.{chunks_of}

-- "It refuses with 16, just before 7, a list of no chunks, of more than 256, or whose lengths don't add up to the bytes lent": they are
-- added as whole numbers. Then 7
unfoldable pub list_checks : List ℕ → List ℕ → List Check
list_checks lengths bytes =
    record { number = 16; right = ltb 0 (length lengths) }
    ∷ record { number = 16; right = leb (length lengths) most_listed }
    ∷ record { number = 16; right = eqb (total lengths) (length bytes) }
    ∷ record { number = 7; right = all_short lengths } ∷ []

-- then 8, and 14 for the four buffers that are written. k chunks take room for k − 1 signatures more: the last one's is owed
unfoldable pub room_checks : Register → ℕ → ℕ → List Check
room_checks r k bytes =
    record { number = 8; right = eqb r.s r.n }
    ∷ record { number = 14; right = holds r.tree (used_tree (r.n + k)) }
    ∷ record { number = 14; right = holds r.signatures (used_signatures (r.n + k - 1)) }
    ∷ record { number = 14; right = holds r.bitfield (used_bitfield (r.n + k)) }
    ∷ record { number = 14; right = holds r.content (r.size + bytes) } ∷ []

-- "2. .. or an append finds n at 1,048,576"; "2 also meets a list that would pass 1,048,576 chunks"; then 3 to 6, then its own
unfoldable pub append_list_checks : Register → List ℕ → List ℕ → List Check
append_list_checks r lengths bytes =
    record { number = 2; right = ltb r.n most_chunks }
    ∷ record { number = 2; right = leb (r.n + length lengths) most_chunks }
    ∷ (later_checks r ++ (list_checks lengths bytes ++ room_checks r (length lengths) (length bytes)))

unfoldable pub list_verdict : Register → List ℕ → List ℕ → Verdict
list_verdict r lengths bytes = judged (append_list_checks r lengths bytes) done

module _ (F : List ℕ → List ℕ) where
  -- the register after the append of each chunk, with a signature of 64 zero bytes stored before the next
  unfoldable pub appended_list : Register → List (List ℕ) → Register
  appended_list r [] = r
  appended_list r (c ∷ []) = appended_register F r c
  appended_list r (c ∷ (d ∷ cs)) = appended_list (signed_register (appended_register F r c) (zeros 64)) (d ∷ cs)

  -- the new root hash; zeros after a refusal
  unfoldable pub list_root : Register → List ℕ → List ℕ → List ℕ
  list_root r lengths bytes = root_unless_refused F (list_verdict r lengths bytes) (appended_list r (chunks_of lengths bytes))

  unfoldable pub after_list : Register → List ℕ → List ℕ → Buffers
  after_list r lengths bytes =
      unless_refused (list_verdict r lengths bytes) (buffers_of (appended_list r (chunks_of lengths bytes))) (buffers_of r)
