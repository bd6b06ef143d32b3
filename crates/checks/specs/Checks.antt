-- "Checks apply to what the call is given, in this order."
use Rattle.std.specs.Prelude.{ℕ, ◌+◌, Bool, cond, ◌||◌, List, [], ◌∷◌, length, take, leb, eqb}
use Rattle.answer_types.specs.Verdict.{Verdict, none, refused}
use Rattle.byte_strings.specs.Lists.{same_list, total}
use Rattle.file_format.specs.Headers.{tree_header, signatures_header, bitfield_header}
use Rattle.file_format.specs.Sizes.{most_chunks, used_tree, used_signatures, used_bitfield}
use Rattle.file_format.specs.Stored.{stored_root_sizes}
use Rattle.file_format.specs.Belongs.{Register}

-- a numbered check, and whether what the call is given passes it
pub record Check : Type 0 where
  pub number : ℕ
  pub right : Bool

-- the first check that is not passed refuses with its number and no place; `next` is what a call that passes them all says
unfoldable pub judged : List Check → Verdict → Verdict
judged [] next = next
judged (c ∷ cs) next = cond c.right (judged cs next) (refused c.number none)

-- "2. n is above 1,048,576"
abbrev pub count_right : ℕ → Bool
count_right n = leb n most_chunks

-- "3. s is neither n nor n − 1, or is not 0 when n is 0."
abbrev pub signed_right : ℕ → ℕ → Bool
signed_right n s = eqb s n || eqb (s + 1) n

-- "4. A buffer is shorter than its used size.": a buffer that is long enough
abbrev pub holds : List ℕ → ℕ → Bool
holds xs used = leb used (length xs)

-- "5. A header differs from its 32 bytes."
abbrev pub headed : List ℕ → List ℕ → Bool
headed xs header = same_list (take 32 xs) header

-- "6. The stored root lengths don't add up to the data size."
unfoldable pub adds_up : List ℕ → ℕ → ℕ → Bool
adds_up tree n size = eqb (total (stored_root_sizes tree n)) size

-- numbers 3 to 6; in 4 and 5 each image has a line of its own
unfoldable pub later_checks : Register → List Check
later_checks r =
    record { number = 3; right = signed_right r.n r.s }
    ∷ record { number = 4; right = holds r.tree (used_tree r.n) }
    ∷ record { number = 4; right = holds r.signatures (used_signatures r.s) }
    ∷ record { number = 4; right = holds r.bitfield (used_bitfield r.n) }
    ∷ record { number = 4; right = holds r.content r.size }
    ∷ record { number = 5; right = headed r.tree tree_header }
    ∷ record { number = 5; right = headed r.signatures signatures_header }
    ∷ record { number = 5; right = headed r.bitfield bitfield_header }
    ∷ record { number = 6; right = adds_up r.tree r.n r.size } ∷ []

-- numbers 2 to 6, which every call on a register makes
unfoldable pub register_checks : Register → List Check
register_checks r = record { number = 2; right = count_right r.n } ∷ later_checks r
