-- The label of a root hash under a key: its verdict, and its bytes.
use Rattle.std.specs.Prelude.{ℕ, List, length, replicate}
use Rattle.answer_types.specs.Verdict.{Verdict, unless_refused}
use Rattle.blake2b.specs.Hash.{blake2b}
use Rattle.blake2b.specs.Digest.{verdict}

-- "A label is the 32-byte keyed hash of a root hash."
unfoldable pub label_of : List ℕ → List ℕ → List ℕ
label_of key root = blake2b 32 key root

-- "It refuses with 17 .. a longer key": as a hash with 32 bytes of output does
unfoldable pub label_verdict : List ℕ → Verdict
label_verdict key = verdict 32 (length key)

-- the label; zeros after a refusal
unfoldable pub label_bytes : List ℕ → List ℕ → List ℕ
label_bytes key root = unless_refused (label_verdict key) (label_of key root) (replicate 32 0)
