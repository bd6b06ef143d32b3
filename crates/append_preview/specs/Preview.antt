-- "Writing nothing, give what an append would answer on a copy of the lent buffers, length for length: the root hash, or the refusal and
-- its place." So the definitions are the append's own; here stand what the call ensures, and the new root message by value.
use Rattle.std.specs.Prelude.{ℕ, ◌+◌, ◌-◌, ◌≡◌, List, [], ◌∷◌, ◌++◌, map, length, take}
use Rattle.answer_types.specs.Verdict.{Verdict}
use Rattle.tree_index.specs.Tree.{completed, roots}
use Rattle.blake2b.specs.Hash.{node_hash}
use Rattle.file_format.specs.Messages.{root_item, root_message}
use Rattle.file_format.specs.Entries.{Entry}
use Rattle.file_format.specs.Stored.{stored_hash, stored_size}
use Rattle.file_format.specs.Belongs.{Register}
use Rattle.writing.specs.Append.{append_verdict, append_root}
use Rattle.writing.specs.Inner.{place}

pub record PreviewPost (r : Register) (chunk : List ℕ) (v : Verdict) (h : List ℕ) : Type 0 where
  pub answer : v ≡ append_verdict r chunk
  pub root : h ≡ append_root node_hash r chunk

-- the roots of n chunks that stay roots with the chunk n: all that n + 1 chunks have but the last
unfoldable pub kept_roots : ℕ → List ℕ
kept_roots n = take (length (roots (n + 1)) - 1) (roots n)

-- the root message of n + 1 chunks: of the roots that stay, as they are stored, and behind them of the node e that the chunk n completes last
unfoldable pub message_with : List ℕ → ℕ → Entry → List ℕ
message_with tree n e =
    root_message
    (map (λ i. root_item (stored_hash tree i) i (stored_size tree i)) (kept_roots n)
    ++ (root_item e.hash (place n (completed n)) e.size ∷ []))
