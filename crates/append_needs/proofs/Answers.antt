-- The answer, from the tests that led to it. Assumes nothing.
use Rattle.std.specs.Prelude.{Result, Ok, Err, ⊤}
use Prim.Native.Nat.{ℕ, ◌+◌, ◌*◌, ◌≤◌, ◌<◌}
use mathlib.Core.Path.{◌≡◌, refl, sym, ap, ◌∙◌}
use mathlib.Core.Bool.{Bool, cond}
use mathlib.Core.List.{List, map}
use native.Mathlib.Omega.{arith}
use borrow.Author.Tests.{leb-true, lt-leb}
use lib.Dec.{leb}
use lib.ListN.{length}
use Rattle.answer_types.specs.Verdict.{Verdict, none, done, refused, unless_refused}
use Rattle.answer_types.specs.Meaning.{said, refusal_of}
use Rattle.answer_types.specs.declared.Refusal.{Refusal}
use Rattle.byte_strings.specs.Lists.{run, total}
use Rattle.tree_index.specs.Tree.{completed}
use Rattle.file_format.specs.Sizes.{most_chunks, longest_chunk, used_tree, used_signatures, used_bitfield}
use Rattle.checks.specs.Checks.{judged}
use Rattle.checks.proofs.Judged.{judged_done}
use Rattle.checks.specs.Lengths.{most_listed, all_short}
use Rattle.append_needs.specs.Needs.{Need, leaf_runs, parent_runs, root_runs, need_of, need_checks, need_verdict, nothing, need_given}
use Rattle.append_needs.specs.Post.{NeedPost}
use Rattle.append_needs.specs.Inner.{Asked, Answered}
use Rattle.append_needs.specs.declared.Needed.{Needed}

-- 2, 16, 7 and 9 as tests
abbrev ladder : Bool → Bool → Bool → Bool → Verdict
ladder a b c d = cond a (cond b (cond c (cond d done (refused 9 none)) (refused 7 none)) (refused 16 none)) (refused 2 none)

-- two numbers above a limit
pub both_above : (a b m : ℕ) → a ≤ b → m < a → leb a m ≡ leb b m
both_above a b m h l = lt-leb a m l ∙ sym (lt-leb b m (omega arith))

module _ (n size : ℕ) (ls : List ℕ) where
  pub by_tests : {v : Verdict} {a b c d : Bool} → leb (n + length ls) most_chunks ≡ a → leb (length ls) most_listed ≡ b → all_short ls ≡ c
      → leb size (longest_chunk * n) ≡ d → v ≡ ladder a b c d → v ≡ need_verdict n size ls
  unfolding need_verdict need_checks judged
  by_tests p q s t w = rw (p, q, s, t) w

  pub asked : need_verdict n size ls ≡ done → Asked n size ls
  unfolding need_verdict need_checks
  asked e =
      let a = (judged_done (need_checks n size ls) done e).0 in
      record {
        count = leb-true (n + length ls) most_chunks a.0;
        listed = record { few = leb-true (length ls) most_listed a.1.0; short = a.1.1.0 };
        held = leb-true size (longest_chunk * n) a.1.1.1.0;
      }

  -- the numbers one by one
  pub all_numbers : (t g b c l p r : ℕ) → t ≡ used_tree (n + length ls) → g ≡ used_signatures (n + length ls) → b ≡ used_bitfield (n + length ls)
      → c ≡ total ls → l ≡ total (map leaf_runs ls) → p ≡ total (run (λ i. completed i * parent_runs) n (length ls)) → r ≡ root_runs (n + length ls)
      → ◌≡◌ {A = Need} (record { tree = t; signatures = g; bitfield = b; content = size + c; leaves = l; parents = p; root = r }) (need_of n size ls)
  unfolding need_of
  all_numbers t g b c l p r e₁ e₂ e₃ e₄ e₅ e₆ e₇ = cc

  module _ (a : Result ⊤ Refusal) (e : said a ≡ need_verdict n size ls) where
    pub asked_of : a ≡ (Ok tt) → Asked n size ls
    asked_of p = asked (sym e ∙ ap said p)

    pub need_not : (x : Refusal) → a ≡ Err x
        → NeedPost n size ls (Err x)
    unfolding need_given nothing
    need_not x p =
        let v : refusal_of x ≡ need_verdict n size ls = sym (ap said p) ∙ e in
        record { answer = v; numbers = ap (λ (w : Verdict). unless_refused w (need_of n size ls) nothing) v; runs = refl }

    pub need_done : (r : Needed) → a ≡ (Ok tt) → Answered n size ls r → NeedPost n size ls (Ok r)
    unfolding need_given
    need_done r p w =
        let v : done ≡ need_verdict n size ls = sym (ap said p) ∙ e in
        record {
          answer = v;
          numbers = w.numbers ∙ ap (λ (z : Verdict). unless_refused z (need_of n size ls) nothing) v;
          runs = w.runs;
        }
