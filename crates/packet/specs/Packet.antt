-- The packet: "a 4-byte chunk length and the chunk; a 1-byte sibling count and siblings from the leaf upward; a 1-byte count of other roots,
-- these from the left. Items are 40-byte entries."
use Rattle.std.specs.Prelude.{ℕ, zero, suc, ◌+◌, ◌-◌, ◌*◌, ◌/◌, ◌%◌, ◌^◌, Bool, true, false, List, [], ◌∷◌, ◌++◌, map, length, ltb, eqb}
use Rattle.answer_types.specs.Verdict.{Verdict, none, done, refused, unless_refused, and_then}
use Rattle.byte_strings.specs.Lists.{part, put, run, joined}
use Rattle.byte_strings.specs.Numbers.{be}
use Rattle.tree_index.specs.Tree.{index, depth, block, roots}
use Rattle.file_format.specs.Sizes.{entry_place}
use Rattle.file_format.specs.Belongs.{Register}
use Rattle.checks.specs.Checks.{holds}
use Rattle.lookup.specs.Read.{chunk_bytes, read_verdict}

-- the root above chunk c: the first of the roots whose block ends behind it. There is one where c is below n
unfoldable pub root_above : List ℕ → ℕ → ℕ
root_above [] c = 0
root_above (i ∷ is) c = elim (ltb c ((block i + 1) * 2 ^ depth i)) [ true ↦ i | false ↦ root_above is c ]

-- which of the roots is, counted from the left, is the first whose block ends behind chunk c; their count where none does
unfoldable pub place_above : List ℕ → ℕ → ℕ
place_above [] c = 0
place_above (i ∷ is) c = elim (ltb c ((block i + 1) * 2 ^ depth i)) [ true ↦ 0 | false ↦ suc (place_above is c) ]

-- the block beside the block k under one parent
unfoldable pub beside : ℕ → ℕ
beside k = elim (k % 2) [ zero ↦ k + 1 | suc b ↦ k - 1 ]

-- the siblings on the way from the leaf of chunk c up to its root, "from the leaf upward"
unfoldable pub siblings : ℕ → ℕ → List ℕ
siblings n c = run (λ h. index h (beside (c / 2 ^ h))) 0 (depth (root_above (roots n) c))

-- the numbers of a list but x
unfoldable pub without : ℕ → List ℕ → List ℕ
without x [] = []
without x (i ∷ is) = elim (eqb i x) [ true ↦ without x is | false ↦ i ∷ without x is ]

-- the other roots, "from the left"
unfoldable pub other_roots : ℕ → ℕ → List ℕ
other_roots n c = without (root_above (roots n) c) (roots n)

-- a count and the stored entries at tree indexes
unfoldable pub section : List ℕ → List ℕ → List ℕ
section t is = length is ∷ joined (map (λ i. part t (entry_place i) 40) is)

-- the packet of chunk c whose bytes are given
unfoldable pub packet_with : List ℕ → ℕ → ℕ → List ℕ → List ℕ
packet_with t n c bytes = be 4 (length bytes) ++ (bytes ++ (section t (siblings n c) ++ section t (other_roots n c)))

-- the packet of chunk c of a register
unfoldable pub packet_of : Register → ℕ → List ℕ
packet_of r c = packet_with r.tree r.n c (chunk_bytes r c)

-- what a packet has beside its chunk's bytes, at most: the 4-byte length, the two 1-byte counts, and 38 entries
unfoldable pub packet_extra : ℕ
packet_extra = 4 + 1 + 1 + 40 * 38

abbrev pub room_or14 : Bool → Verdict
room_or14 true = done
room_or14 false = refused 14 none

-- "Making one does the read of chunk i first, with its refusals", and then 14
abbrev pub make_behind : Verdict → List ℕ → List ℕ → Verdict
make_behind read packet out = and_then read (room_or14 (holds out (length packet)))

module _ (F : List ℕ → List ℕ) where
  unfoldable pub make_verdict : Register → ℕ → List ℕ → Verdict
  make_verdict r c out = make_behind (read_verdict F r c) (packet_of r c) out

  -- the packet stands at the front of the lent buffer, the rest as it was
  unfoldable pub after_make : Register → ℕ → List ℕ → List ℕ
  after_make r c out = unless_refused (make_verdict r c out) (put out 0 (packet_of r c)) out

  -- its length is the answer
  unfoldable pub made_length : Register → ℕ → List ℕ → ℕ
  made_length r c out = unless_refused (make_verdict r c out) (length (packet_of r c)) 0
