-- The answer, from the case that it is. Assumes nothing.
use Rattle.std.specs.Prelude.{Result, Ok, Err, ⊤}
use Prim.Native.Nat.{ℕ, ◌≤◌, ◌<◌}
use mathlib.Core.Path.{◌≡◌, sym, ap, ◌∙◌}
use mathlib.Core.Bool.{Bool, cond}
use mathlib.Core.List.{List}
use native.Mathlib.Omega.{arith}
use borrow.Author.Tests.{leb-true, le-leb, lt-leb}
use Rattle.answer_types.specs.Verdict.{Verdict, none, done, refused}
use Rattle.answer_types.specs.Meaning.{said, spot_of, refusal_of}
use Rattle.answer_types.specs.declared.Refusal.{Refusal}
use Rattle.tree_index.specs.Tree.{entries}
use Rattle.blake2b.specs.Hash.{node_hash}
use Rattle.file_format.specs.Sizes.{used_tree}
use Rattle.file_format.specs.Inner.{RootsIn}
use Rattle.file_format.specs.Belongs.{Register}
use Rattle.checks.specs.Checks.{judged, register_checks}
use Rattle.checks.proofs.Judged.{judged_append, judged_refused, judged_done}
use Rattle.checks.proofs.Passed.{Passed, passes, passed}
use Rattle.prefix_root.specs.PrefixRoot.{own_checks, own_verdict, prefix_verdict, root_unless, prefix_root, RootedPost, PrefixRootPost}

-- ---- the check of its own

pub own_right : (n m : ℕ) → m ≤ n → own_verdict n m ≡ done
unfolding own_verdict judged
own_right n m h = ap (λ (b : Bool). cond b done (refused 9 none)) (le-leb m n h)

pub own_wrong : (n m : ℕ) → n < m → own_verdict n m ≡ refused 9 none
unfolding own_verdict judged
own_wrong n m h = ap (λ (b : Bool). cond b done (refused 9 none)) (lt-leb m n h)

pub own_passed : (n m : ℕ) → own_verdict n m ≡ done → m ≤ n
unfolding own_verdict
own_passed n m e = leb-true m n (judged_done (own_checks n m) done e).0.0

-- ---- 2 to 6, then its own

pub in_turn_lem : (r : Register) (m : ℕ) → prefix_verdict r m ≡ judged (register_checks r) (own_verdict r.n m)
unfolding prefix_verdict own_verdict
in_turn_lem r m = judged_append (register_checks r) (own_checks r.n m) done

behind : (r : Register) (m : ℕ) → Passed r → prefix_verdict r m ≡ own_verdict r.n m
behind r m p = in_turn_lem r m ∙ passes r (own_verdict r.n m) p

pub old_takes : (r : Register) (m : ℕ) → Passed r → m ≤ r.n → prefix_verdict r m ≡ done
old_takes r m p h = behind r m p ∙ own_right r.n m h

pub old_above : (r : Register) (m : ℕ) → Passed r → r.n < m → prefix_verdict r m ≡ refused 9 none
old_above r m p h = behind r m p ∙ own_wrong r.n m h

-- what is known where it is done
pub record OldFits (r : Register) (m : ℕ) : Type 0 where
  pub checked : Passed r
  pub up_to : m ≤ r.n

pub old_passed : (r : Register) (m : ℕ) → prefix_verdict r m ≡ done → OldFits r m
old_passed r m e =
    let w = passed r (own_verdict r.n m) (sym (in_turn_lem r m) ∙ e) in
    record { checked = w.0; up_to = own_passed r.n m w.1 }

-- ---- the steps of the code

module _ (r : Register) (m : ℕ) (a : Result ⊤ Refusal) (e : said a ≡ judged (register_checks r) done) where
  pub before_refused : (x : Refusal) → a ≡ Err x → refusal_of x ≡ prefix_verdict r m
  before_refused x p =
      sym (in_turn_lem r m ∙ judged_refused (register_checks r) (own_verdict r.n m) x.number (spot_of x.place) (sym e ∙ ap said p))

  pub behind_checks : a ≡ (Ok tt) → (v : Verdict) → v ≡ own_verdict r.n m → v ≡ prefix_verdict r m
  behind_checks p v w = w ∙ sym (behind r m (passed r done (sym e ∙ ap said p)).0)

module _ (r : Register) (m : ℕ) where
  pub old_fits : prefix_verdict r m ≡ done → RootsIn r.tree m
  unfolding used_tree entries
  old_fits e =
      let w = old_passed r m e in
      record { count = omega (arith, w.checked.count, w.up_to); inside = omega (arith, w.checked.tree, w.up_to) }

  pub old_post : (a v : Verdict) (h : List ℕ) → a ≡ prefix_verdict r m → RootedPost a r.tree m v h → PrefixRootPost r m v h
  unfolding prefix_root
  old_post a v h e w =
      record { answer = w.answer ∙ e; root = w.root ∙ ap (λ (x : Verdict). root_unless node_hash x r.tree m) e }
