-- What the code needs of the definitions. Assumes nothing.
use Prim.Native.Nat.{ℕ, ◌≤◌}
use mathlib.Core.Path.{◌≡◌, sym, ap, ◌∙◌}
use mathlib.Core.List.{List}
use native.Mathlib.Omega.{arith}
use borrow.Author.Tests.{le-leb}
use Rattle.answer_types.specs.Verdict.{Spot, Verdict, tree, done, refused}
use Rattle.tree_index.specs.Tree.{roots, entries}
use Rattle.blake2b.specs.Hash.{node_hash}
use Rattle.bitfield.specs.Image.{entry_count}
use Rattle.file_format.specs.Sizes.{most_chunks, used_tree, used_bitfield}
use Rattle.file_format.specs.Inner.{RootsIn}
use Rattle.checks.specs.Checks.{judged}
use Rattle.checks.proofs.Judged.{judged_right, judged_done, judged_refused}
use Rattle.audit.specs.Audit.{refused_at}
use Rattle.audit.specs.BitfieldEntries.{BitsIn}
use Rattle.prefix_root.specs.PrefixRoot.{own_checks, own_verdict, root_unless, RootedPost}
use Rattle.prefix_root.proofs.Calls.{own_passed}
use Rattle.search.specs.Search.{first_missing, sought_unless}
use Rattle.search.specs.Inner.{DataIn}
use Rattle.search.proofs.Steps.{data_in}
use Rattle.copy_checks.specs.Copy.{Copy, known}
use Rattle.lookup.specs.Unknown.{first_unknown}
use Rattle.copy_checks.specs.Checks.{copy_judged}
use Rattle.copy_checks.proofs.Steps.{Knowing, copy_passed, copy_passes, copy_refused_by, roots_in}
use Rattle.copy_roots.specs.Roots.{copy_root_verdict, copy_prefix_verdict, copy_root_answer, copy_prefix_root, copy_search}
use Rattle.copy_roots.specs.Post.{RootPost, PrefixRootPost}

-- ---- the root hash

module _ (c : Copy) where
  pub root_fits : copy_judged c done ≡ done → RootsIn c.tree c.n
  root_fits e = roots_in c (copy_passed c done e).0.lent

  pub root_post : (a v : Verdict) (h : List ℕ) → a ≡ copy_judged c done → RootedPost a c.tree c.n v h → RootPost c v h
  unfolding copy_root_verdict copy_root_answer
  root_post a v h e w =
      record { answer = w.answer ∙ e; root = w.root ∙ ap (λ (x : Verdict). root_unless node_hash x c.tree c.n) e }

-- ---- the root hash of the first m chunks

module _ (c : Copy) (m : ℕ) where
  -- behind 9
  abbrev next : Verdict
  next = refused_at 20 tree (first_unknown (known c) (roots m)) done

  pub old_refused : (k : ℕ) (at : Spot) → refused k at ≡ copy_judged c done → refused k at ≡ copy_prefix_verdict c m
  unfolding copy_prefix_verdict
  old_refused k at e = sym (copy_refused_by c (judged (own_checks c.n m) next) k at (sym e))

  module _ (e : done ≡ copy_judged c done) where
    knows : Knowing c
    knows = (copy_passed c done (sym e)).0

    pub old_above : (k : ℕ) (at : Spot) → refused k at ≡ own_verdict c.n m → refused k at ≡ copy_prefix_verdict c m
    unfolding copy_prefix_verdict own_verdict
    old_above k at f =
        sym (copy_passes c (judged (own_checks c.n m) next) knows ∙ judged_refused (own_checks c.n m) next k at (sym f))

    module _ (f : done ≡ own_verdict c.n m) where
      pub old_bits : BitsIn c.bitfield m
      unfolding used_bitfield entry_count
      old_bits =
          let u : m ≤ c.n = own_passed c.n m (sym f) in
          let p = knows.lent in
          record { count = omega (arith, p.count); inside = omega (arith, p.bitfield) }

      pub old_judged : (v : Verdict) → v ≡ next → v ≡ copy_prefix_verdict c m
      unfolding copy_prefix_verdict
      old_judged v g =
          let u : m ≤ c.n = own_passed c.n m (sym f) in
          g
          ∙ sym (copy_passes c (judged (own_checks c.n m) next) knows ∙ judged_right (own_checks c.n m) next (le-leb m c.n u, tt))

  pub old_fits : copy_prefix_verdict c m ≡ done → RootsIn c.tree m
  unfolding copy_prefix_verdict own_verdict used_tree entries
  old_fits e =
      let a = copy_passed c (judged (own_checks c.n m) next) e in
      let p = a.0.lent in
      let b = judged_done (own_checks c.n m) next a.1 in
      let u : m ≤ c.n = own_passed c.n m (judged_right (own_checks c.n m) done b.0) in
      record { count = omega (arith, p.count); inside = omega (arith, p.tree) }

  pub old_post : (a v : Verdict) (h : List ℕ) → a ≡ copy_prefix_verdict c m → RootedPost a c.tree m v h → PrefixRootPost c m v h
  unfolding copy_prefix_root
  old_post a v h e w =
      record { answer = w.answer ∙ e; root = w.root ∙ ap (λ (x : Verdict). root_unless node_hash x c.tree m) e }

-- ---- the search

module _ (c : Copy) (from : ℕ) where
  pub search_by : (v : Verdict) → v ≡ copy_judged c done → sought_unless v (first_missing c.bitfield c.n from) ≡ copy_search c from
  unfolding copy_search
  search_by v e = ap (λ (x : Verdict). sought_unless x (first_missing c.bitfield c.n from)) e

  pub search_room : done ≡ copy_judged c done → (c.n ≤ most_chunks) × DataIn c.bitfield c.n
  search_room e = let p = (copy_passed c done (sym e)).0.lent in (p.count, data_in c.bitfield c.n p.bitfield)
