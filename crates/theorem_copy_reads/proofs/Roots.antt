-- Root hashes and the searches get the same of two copies that agree on what is known. Assumes nothing.
use Prim.Native.Nat.{ℕ, ◌-◌, ◌≤◌, ◌<◌}
use mathlib.Core.Path.{◌≡◌, refl, ap, ap₂, ◌∙◌}
use mathlib.Core.Bool.{true}
use mathlib.Core.List.{List}
use native.Mathlib.Omega.{arith}
use borrow.Author.Tests.{leb-true}
use lib.ListN.{length, get_or}
use Rattle.answer_types.specs.Verdict.{Verdict, tree, done, refused}
use Rattle.byte_strings.specs.Lowest.{lowest}
use Rattle.tree_index.specs.Tree.{filled, roots}
use Rattle.tree_index.proofs.Roots.{root_filled}
use Rattle.bitfield.specs.Known.{stored_known}
use Rattle.bitfield.specs.Release.{stored_held}
use Rattle.file_format.specs.Messages.{root_item, root_message}
use Rattle.file_format.specs.Stored.{stored_hash, stored_size, stored_root_message}
use Rattle.file_format.proofs.Spans.{map_ext}
use Rattle.checks.specs.Checks.{judged}
use Rattle.checks.proofs.Judged.{judged_done}
use Rattle.audit.specs.Audit.{refused_at}
use Rattle.prefix_root.specs.PrefixRoot.{own_checks, root_unless}
use Rattle.prefix_root.proofs.First.{filled_more}
use Rattle.search.specs.Search.{first_missing, sought_unless}
use Rattle.lookup.specs.Unknown.{first_unknown}
use Rattle.copy_checks.specs.Copy.{Copy}
use Rattle.copy_checks.proofs.Steps.{copy_passed, root_must}
use Rattle.copy_roots.specs.Roots.{copy_root_verdict, copy_prefix_verdict, copy_root_answer, copy_prefix_root, copy_search}
use Rattle.copy_short_lookup.specs.Short.{copy_short_search}
use Rattle.theorem_copy_reads.proofs.Checks.{Agreed, each_known, hash_same, size_same, one, two, root_known, copy_same}

module _ (t u bits : List ℕ) (n : ℕ) (g : Agreed t u bits n) (content : List ℕ) (size : ℕ) where
  abbrev a : Copy
  a = one t u bits n g content size

  abbrev b : Copy
  b = two t u bits n g content size

  -- the root message of the first m chunks, where its roots are known
  message_same : (m : ℕ) → m ≤ n → ((j : ℕ) → j < length (roots m) → stored_known bits (get_or (roots m) j 0) ≡ true)
      → stored_root_message t m ≡ stored_root_message u m
  unfolding stored_root_message
  message_same m h k =
      ap root_message
      (map_ext (λ i. root_item (stored_hash t i) i (stored_size t i)) (λ i. root_item (stored_hash u i) i (stored_size u i)) (roots m)
      (λ j l.
      let f : filled n (get_or (roots m) j 0) ≡ true = filled_more m n h (get_or (roots m) j 0) (root_filled m j l) in
      ap₂ (λ (x : List ℕ) (z : ℕ). root_item x (get_or (roots m) j 0) z) (hash_same t u bits n g (get_or (roots m) j 0) f (k j l))
      (size_same t u bits n g (get_or (roots m) j 0) f (k j l))))

  pub root_says_lem : copy_root_verdict a ≡ copy_root_verdict b
  unfolding copy_root_verdict
  root_says_lem = copy_same t u bits n g content size done

  module _ (F : List ℕ → List ℕ) where
    pub root_same_lem : copy_root_answer F a ≡ copy_root_answer F b
    unfolding copy_root_answer copy_root_verdict
    root_same_lem = go (copy_root_verdict a) refl ∙ ap (λ (v : Verdict). root_unless F v u n) root_says_lem
      where
        go : (v : Verdict) → copy_root_verdict a ≡ v → root_unless F v t n ≡ root_unless F v u n
        go done e = ap F (message_same n (omega arith) (root_known t u bits n g content size (copy_passed a done e).0.rooted))
        go (refused m at) e = refl

  module _ (m : ℕ) where
    abbrev next : Verdict
    next = refused_at 20 tree (first_unknown (stored_known bits) (roots m)) done

    pub old_says_lem : copy_prefix_verdict a m ≡ copy_prefix_verdict b m
    unfolding copy_prefix_verdict
    old_says_lem = copy_same t u bits n g content size (judged (own_checks n m) next)

    pub old_same : (F : List ℕ → List ℕ) → copy_prefix_root F a m ≡ copy_prefix_root F b m
    unfolding copy_prefix_root copy_prefix_verdict
    old_same F = go (copy_prefix_verdict a m) refl ∙ ap (λ (v : Verdict). root_unless F v u m) old_says_lem
      where
        go : (v : Verdict) → copy_prefix_verdict a m ≡ v → root_unless F v t m ≡ root_unless F v u m
        go done e =
            let p = judged_done (own_checks n m) next (copy_passed a (judged (own_checks n m) next) e).1 in
            ap F
            (message_same m (leb-true m n p.0.0)
            (each_known (stored_known bits) (roots m) (root_must (first_unknown (stored_known bits) (roots m)) done p.1).0))
        go (refused k at) e = refl

  -- ---- the searches, which read the bitfield file

  pub search_same : (from : ℕ) → copy_search a from ≡ copy_search b from
  unfolding copy_search
  search_same from = ap (λ (v : Verdict). sought_unless v (first_missing bits n from)) (copy_same t u bits n g content size done)

  pub short_search_same : (from : ℕ) → copy_short_search a from ≡ copy_short_search b from
  unfolding copy_short_search
  short_search_same from = ap (λ (v : Verdict). sought_unless v (lowest (stored_held bits) from (n - from))) (copy_same t u bits n g content size done)
