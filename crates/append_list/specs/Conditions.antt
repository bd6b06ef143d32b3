-- What the append of a list asks for besides the numbers 2 to 6, as facts, and the single calls that it stands for.
use Rattle.std.specs.Prelude.{ℕ, ◌+◌, ◌-◌, ◌≤◌, ◌<◌, ◌≡◌, List, [], ◌∷◌, length, get_or}
use Rattle.answer_types.specs.Verdict.{done}
use Rattle.byte_strings.specs.Lists.{total, zeros}
use Rattle.file_format.specs.Sizes.{most_chunks, longest_chunk, used_tree, used_signatures, used_bitfield}
use Rattle.file_format.specs.Belongs.{Register}
use Rattle.checks.specs.Lengths.{most_listed}
use Rattle.writing.specs.Append.{append_verdict, appended_register}
use Rattle.writing.specs.Sign.{sign_verdict, signed_register}

-- with these it is done, and without one of them it is refused
pub record ListFits (r : Register) (lengths bytes : List ℕ) : Type 0 where
  -- 2
  pub fewer : r.n + length lengths ≤ most_chunks
  -- 16
  pub some : 0 < length lengths
  pub most : length lengths ≤ most_listed
  pub adds : total lengths ≡ length bytes
  -- 7
  pub short : (k : ℕ) → get_or lengths k 0 ≤ longest_chunk
  -- 8
  pub paid : r.s ≡ r.n
  -- 14, room for the result
  pub tree : used_tree (r.n + length lengths) ≤ length r.tree
  pub signatures : used_signatures (r.n + length lengths - 1) ≤ length r.signatures
  pub bitfield : used_bitfield (r.n + length lengths) ≤ length r.bitfield
  pub content : r.size + length bytes ≤ length r.content

-- calls that are all done lead from one register to another: an append of each chunk, and behind each but the last a stored signature of
-- 64 zero bytes
pub data Singly (F : List ℕ → List ℕ) : Register → List (List ℕ) → Register → Type 0 where
  last : {r : Register} {c : List ℕ} → append_verdict r c ≡ done → Singly F r (c ∷ []) (appended_register F r c)
  next : {r t : Register} {c d : List ℕ} {cs : List (List ℕ)} → append_verdict r c ≡ done → sign_verdict (appended_register F r c) ≡ done
      → Singly F (signed_register (appended_register F r c) (zeros 64)) (d ∷ cs) t → Singly F r (c ∷ (d ∷ cs)) t
