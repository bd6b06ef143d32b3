-- "For each m up to n, give the root hash of the first m chunks from the stored entries, without an audit", and "9 is given for m above n".
use Rattle.std.specs.Prelude.{ℕ, ◌≡◌, List, [], ◌∷◌, ◌++◌, leb}
use Rattle.answer_types.specs.Verdict.{Verdict, done, unless_refused}
use Rattle.byte_strings.specs.Lists.{zeros}
use Rattle.blake2b.specs.Hash.{node_hash}
use Rattle.file_format.specs.Stored.{stored_root_message}
use Rattle.file_format.specs.Belongs.{Register}
use Rattle.checks.specs.Checks.{Check, judged, register_checks}

-- "9 is given for m above n"
abbrev pub own_checks : ℕ → ℕ → List Check
own_checks n m = record { number = 9; right = leb m n } ∷ []

unfoldable pub own_verdict : ℕ → ℕ → Verdict
own_verdict n m = judged (own_checks n m) done

-- numbers 2 to 6, and then 9
unfoldable pub prefix_verdict : Register → ℕ → Verdict
prefix_verdict r m = judged (register_checks r ++ own_checks r.n m) done

-- the hash of the root message that the stored roots of the first m chunks of a tree file give; zeros after a refusal
abbrev pub root_unless : (List ℕ → List ℕ) → Verdict → List ℕ → ℕ → List ℕ
root_unless F v t m = unless_refused v (F (stored_root_message t m)) (zeros 32)

-- "For each m up to n, give the root hash of the first m chunks from the stored entries, without an audit"
unfoldable pub prefix_root : (List ℕ → List ℕ) → Register → ℕ → List ℕ
prefix_root F r m = root_unless F (prefix_verdict r m) r.tree m

-- what the inner step ensures: a verdict handed on, and that root hash beside it
pub record RootedPost (found : Verdict) (t : List ℕ) (m : ℕ) (v : Verdict) (h : List ℕ) : Type 0 where
  pub answer : v ≡ found
  pub root : h ≡ root_unless node_hash found t m

-- what the call ensures, on every input
pub record PrefixRootPost (r : Register) (m : ℕ) (v : Verdict) (h : List ℕ) : Type 0 where
  pub answer : v ≡ prefix_verdict r m
  pub root : h ≡ prefix_root node_hash r m
