-- A list of one chunk is an append. Over any F and on every register. Assumes nothing.
use Prim.Native.Nat.{ℕ, ◌+◌, ◌-◌}
use mathlib.Core.Path.{◌≡◌, refl, sym, ap, ap₂, ◌∙◌}
use mathlib.Core.Bool.{Bool, true, false, cond, ◌&&◌}
use mathlib.Core.List.{List, [], ◌∷◌}
use native.Mathlib.Nat.{add-zero}
use native.Mathlib.Omega.{arith}
use borrow.Author.Tests.{ltb-true, leb-true, eqb-true, le-leb, eq-eqb}
use lib.Dec.{leb, ltb, eqb}
use lib.ListN.{length}
use lib.Seq.{take-length}
use Rattle.answer_types.specs.Verdict.{Verdict, none, done, refused, unless_refused}
use Rattle.byte_strings.specs.Lists.{total}
use Rattle.file_format.specs.Sizes.{most_chunks, longest_chunk, used_tree, used_signatures, used_bitfield}
use Rattle.file_format.specs.Belongs.{Register, buffers_of}
use Rattle.checks.specs.Checks.{judged, holds, later_checks}
use Rattle.checks.specs.Lengths.{all_short}
use Rattle.checks.proofs.Judged.{AllRight, judged_same}
use Rattle.writing.specs.Append.{own_checks, append_verdict, appended_register, root_unless_refused, append_root, after_append}
use Rattle.writing.proofs.Orders.{append_order}
use Rattle.append_list.specs.Chunks.{chunks_of}
use Rattle.append_list.specs.Append.{list_checks, room_checks, list_verdict, appended_list, list_root, after_list}
use Rattle.append_list.specs.Inner.{own_verdict}
use Rattle.append_list.proofs.Orders.{list_order}

-- 16 is passed, and the signatures have their room where 8 is passed
flat : (a b c g d e : Bool) → (b ≡ true → g ≡ true)
    → cond true (cond (a && true) (cond b (cond c (cond g (cond d (cond e done (refused 14 none)) (refused 14 none)) (refused 14 none)) (refused 14 none)) (refused 8 none))
    (refused 7 none)) (refused 16 none)
    ≡ cond a (cond b (cond c (cond d (cond e done (refused 14 none)) (refused 14 none)) (refused 14 none)) (refused 8 none)) (refused 7 none)
flat false b c g d e h = refl
flat true false c g d e h = refl
flat true true false g d e h = refl
flat true true true g d e h = ap (λ (x : Bool). cond x (cond d (cond e done (refused 14 none)) (refused 14 none)) (refused 14 none)) (h refl)

own_same : (r : Register) (c : List ℕ) → AllRight (later_checks r) → own_verdict r (length c ∷ []) c ≡ judged (own_checks r c) done
unfolding own_verdict list_checks room_checks own_checks judged all_short total later_checks
own_same r c p =
    let n : ℕ = r.n + 1 in
    let paid : eqb r.s r.n ≡ true → holds r.signatures (used_signatures (r.n + 1 - 1)) ≡ true =
    λ e.
    le-leb (used_signatures (r.n + 1 - 1)) (length r.signatures)
    (omega (arith, leb-true (used_signatures r.s) (length r.signatures) p.1.1.0, ap used_signatures (same r.s r.n (eqb-true r.s r.n e))))
    in
    ap (λ (x : Bool).
    cond x (cond (leb (length c) longest_chunk && true) (cond (eqb r.s r.n) (cond (holds r.tree (used_tree n)) (cond (holds r.signatures (used_signatures (r.n + 1 - 1)))
    (cond (holds r.bitfield (used_bitfield n)) (cond (holds r.content (r.size + length c)) done (refused 14 none)) (refused 14 none)) (refused 14 none)) (refused 14 none))
    (refused 8 none)) (refused 7 none)) (refused 16 none))
    (eq-eqb (length c + 0) (length c) (add-zero (length c)))
    ∙ flat (leb (length c) longest_chunk) (eqb r.s r.n) (holds r.tree (used_tree n)) (holds r.signatures (used_signatures (r.n + 1 - 1)))
    (holds r.bitfield (used_bitfield n)) (holds r.content (r.size + length c)) paid
  where
    same : (s n : ℕ) → s ≡ n → s ≡ n + 1 - 1
    same s n e = omega arith

pub one_verdict : (r : Register) (c : List ℕ) → list_verdict r (length c ∷ []) c ≡ append_verdict r c
one_verdict r c = list_order r (length c ∷ []) c ∙ pick (ltb r.n most_chunks) refl ∙ sym (append_order r c)
  where
    pick : (b : Bool) → ltb r.n most_chunks ≡ b
        → cond b (cond (leb (r.n + 1) most_chunks) (judged (later_checks r) (own_verdict r (length c ∷ []) c)) (refused 2 none)) (refused 2 none)
        ≡ cond b (judged (later_checks r) (judged (own_checks r c) done)) (refused 2 none)
    pick true e =
        ap (λ (x : Bool). cond x (judged (later_checks r) (own_verdict r (length c ∷ []) c)) (refused 2 none))
        (le-leb (r.n + 1) most_chunks (omega (arith, ltb-true r.n most_chunks e)))
        ∙ judged_same (later_checks r) (own_verdict r (length c ∷ []) c) (judged (own_checks r c) done) (own_same r c)
    pick false e = refl

one_chunk : (c : List ℕ) → chunks_of (length c ∷ []) c ≡ c ∷ []
unfolding chunks_of
one_chunk c = ap (λ (x : List ℕ). x ∷ []) (take-length c)

module _ (F : List ℕ → List ℕ) (r : Register) (c : List ℕ) where
  pub one_register : appended_list F r (chunks_of (length c ∷ []) c) ≡ appended_register F r c
  unfolding appended_list
  one_register = ap (appended_list F r) (one_chunk c)

  pub one_root : list_root F r (length c ∷ []) c ≡ append_root F r c
  unfolding list_root append_root
  one_root = ap₂ (root_unless_refused F) (one_verdict r c) one_register

  pub one_buffers : after_list F r (length c ∷ []) c ≡ after_append F r c
  unfolding after_list after_append
  one_buffers = ap₂ (λ (v : Verdict) (x : Register). unless_refused v (buffers_of x) (buffers_of r)) (one_verdict r c) one_register
