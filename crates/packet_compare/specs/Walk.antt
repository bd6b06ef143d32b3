-- "if the check accepts two packets with different chunks under one root hash, n and i, a walk along both names two different messages with the
-- same hash, whichever function to 32 bytes stands in for BLAKE2b in both: the first such pair from the leaf upward, by its tree index or as
-- "at the roots". The walk first checks each packet, and a refusal says which; equal chunks answer "same chunk"."
use Rattle.std.specs.Prelude.{ℕ, Bool, cond, List, [], ◌∷◌}
use Rattle.answer_types.specs.Verdict.{Spot, Verdict, done, refused}
use Rattle.byte_strings.specs.Lists.{same_list}
use Rattle.compare.specs.Walk.{collides}
use Rattle.packet.specs.Check.{Step, packet_chunk, steps, packet_root_message, packet_verdict}

-- what the walk answers: a refusal that says which packet, "same chunk", or a pair of messages, by its tree index or "at the roots"; `neither`
-- stands for none of these, and is never given
pub data Walk : Type 0 where
  first_refused : ℕ → Spot → Walk
  second_refused : ℕ → Spot → Walk
  same_chunk : Walk
  at_index : ℕ → Walk
  at_roots : Walk
  neither : Walk

-- "The walk first checks each packet, and a refusal says which": the first, then the second, then what comes next
abbrev pub unless_refused : Verdict → Verdict → Walk → Walk
unless_refused (refused m at) v next = first_refused m at
unless_refused done (refused m at) next = second_refused m at
unless_refused done done next = next

module _ (F : List ℕ → List ℕ) where
  -- "two different messages with the same hash"
  unfoldable pub pair : List ℕ → List ℕ → Bool
  pair m₁ m₂ = collides m₁ m₂ (F m₁) (F m₂)

  -- "the first such pair from the leaf upward, by its tree index": step by step along both; what comes next where no step has one
  unfoldable pub first_pair : List Step → List Step → Walk → Walk
  first_pair [] ts next = next
  first_pair (s ∷ ss) [] next = next
  first_pair (s ∷ ss) (t ∷ ts) next = cond (pair s.message t.message) (at_index s.at) (first_pair ss ts next)

  -- "or as "at the roots""
  unfoldable pub root_pair : List ℕ → List ℕ → ℕ → ℕ → Walk
  root_pair p q n c = cond (pair (packet_root_message F p n c) (packet_root_message F q n c)) at_roots neither

  -- "equal chunks answer "same chunk""
  unfoldable pub walk : List ℕ → List ℕ → ℕ → ℕ → Walk
  walk p q n c =
      cond (same_list (packet_chunk p) (packet_chunk q)) same_chunk (first_pair (steps F p n c) (steps F q n c) (root_pair p q n c))

  unfoldable pub compare_packets : List ℕ → List ℕ → ℕ → ℕ → List ℕ → Walk
  compare_packets p q n c root = unless_refused (packet_verdict F p n c root) (packet_verdict F q n c root) (walk p q n c)
