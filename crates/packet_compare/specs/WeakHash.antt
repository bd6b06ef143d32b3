-- The walk run on the definition under a hash function of two bits: pairs at a leaf, at a parent, at a parent above it and at the roots, the
-- first of several, the same chunk, and refusals. The model has the same rows.
use Rattle.std.specs.Prelude.{ℕ, ◌%◌, ◌≡◌, List, [], ◌∷◌, ◌++◌, length, replicate}
use Rattle.answer_types.specs.Verdict.{none}
use Rattle.byte_strings.specs.Lists.{joined, total}
use Rattle.byte_strings.specs.Numbers.{be}
use Rattle.packet_compare.specs.Walk.{Walk, first_refused, second_refused, same_chunk, at_index, at_roots, compare_packets}

-- 32 times the sum of the message's bytes modulo 4
unfoldable pub weak : List ℕ → List ℕ
weak m = replicate 32 (total m % 4)

-- an entry of 32 equal bytes and a length
unfoldable pub weak_entry : ℕ → ℕ → List ℕ
weak_entry byte size = replicate 32 byte ++ be 8 size

-- the packet of a chunk, its siblings and the other roots
unfoldable pub weak_packet : List ℕ → List (List ℕ) → List (List ℕ) → List ℕ
weak_packet chunk siblings others =
    be 4 (length chunk) ++ (chunk ++ ((length siblings ∷ joined siblings) ++ (length others ∷ joined others)))

-- under the root hash of 32 equal bytes
abbrev pub weak_walk : List ℕ → List ℕ → ℕ → ℕ → ℕ → Walk
weak_walk p q n c root = compare_packets weak p q n c (replicate 32 root)

pub record WeakWalks : Type 0 where
  pub leaf : weak_walk (weak_packet (1 ∷ []) [] []) (weak_packet (5 ∷ []) [] []) 1 0 3 ≡ at_index 0
  pub roots : weak_walk (weak_packet (1 ∷ []) [] []) (weak_packet (2 ∷ []) [] []) 1 0 3 ≡ at_roots
  pub parent : weak_walk (weak_packet (1 ∷ []) (weak_entry 1 1 ∷ []) []) (weak_packet (2 ∷ []) (weak_entry 1 1 ∷ []) []) 2 0 1 ≡ at_index 1
  pub right : weak_walk (weak_packet (1 ∷ []) (weak_entry 1 1 ∷ []) []) (weak_packet (5 ∷ []) (weak_entry 1 1 ∷ []) []) 2 1 1 ≡ at_index 2
  -- the parent's messages are a pair too
  pub first : weak_walk (weak_packet (1 ∷ []) (weak_entry 1 1 ∷ []) []) (weak_packet (5 ∷ []) (weak_entry 2 1 ∷ []) []) 2 0 1 ≡ at_index 0
  pub upper : weak_walk (weak_packet (1 ∷ []) (weak_entry 1 1 ∷ weak_entry 2 2 ∷ []) [])
      (weak_packet (1 ∷ 0 ∷ []) (weak_entry 1 1 ∷ weak_entry 2 1 ∷ []) []) 4 1 1 ≡ at_index 3
  pub roots_of_two : weak_walk (weak_packet (1 ∷ []) (weak_entry 1 1 ∷ []) (weak_entry 2 2 ∷ []))
      (weak_packet (1 ∷ 0 ∷ []) (weak_entry 1 1 ∷ []) (weak_entry 2 1 ∷ [])) 3 0 3 ≡ at_roots
  -- with other siblings
  pub same : weak_walk (weak_packet (1 ∷ []) (weak_entry 1 1 ∷ []) []) (weak_packet (1 ∷ []) (weak_entry 2 1 ∷ []) []) 2 0 1 ≡ same_chunk
  pub refused_second : weak_walk (weak_packet (1 ∷ []) (weak_entry 1 1 ∷ []) []) (weak_packet (1 ∷ 0 ∷ []) (weak_entry 1 1 ∷ []) []) 2 0 1
      ≡ second_refused 13 none
  pub refused_first : weak_walk (weak_packet (1 ∷ []) [] []) (weak_packet (1 ∷ []) [] []) 2 0 1 ≡ first_refused 12 none
