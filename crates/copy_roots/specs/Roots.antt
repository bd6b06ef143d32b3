-- The root hash, root hashes of earlier years and the search on a copy.
use Rattle.std.specs.Prelude.{ℕ, List}
use Rattle.answer_types.specs.Verdict.{Verdict, tree, done}
use Rattle.tree_index.specs.Tree.{roots}
use Rattle.checks.specs.Checks.{judged}
use Rattle.audit.specs.Audit.{refused_at}
use Rattle.prefix_root.specs.PrefixRoot.{own_checks, root_unless}
use Rattle.search.specs.Search.{Sought, first_missing, sought_unless}
use Rattle.copy_checks.specs.Copy.{Copy, known}
use Rattle.lookup.specs.Unknown.{first_unknown}
use Rattle.copy_checks.specs.Checks.{copy_judged}

-- the root hash: every root is known
unfoldable pub copy_root_verdict : Copy → Verdict
copy_root_verdict c = copy_judged c done

-- the root hash of the first m chunks: 9 for m above n, and then 20 at the first of their roots, from the left, that is not known
unfoldable pub copy_prefix_verdict : Copy → ℕ → Verdict
copy_prefix_verdict c m = copy_judged c (judged (own_checks c.n m) (refused_at 20 tree (first_unknown (known c) (roots m)) done))

module _ (F : List ℕ → List ℕ) where
  unfoldable pub copy_root_answer : Copy → List ℕ
  copy_root_answer c = root_unless F (copy_root_verdict c) c.tree c.n

  unfoldable pub copy_prefix_root : Copy → ℕ → List ℕ
  copy_prefix_root c m = root_unless F (copy_prefix_verdict c m) c.tree m

-- the search reads data bits and the Index alone; 20 at a root is judged all the same, since 6 reads the roots
unfoldable pub copy_search : Copy → ℕ → Sought
copy_search c from = sought_unless (copy_judged c done) (first_missing c.bitfield c.n from)
