-- The checks of a list in their order, number by number as the code finds them. Assumes nothing.
use Rattle.std.specs.Prelude.{Result, Ok, Err, ⊤}
use Prim.Native.Nat.{ℕ, ◌+◌, ◌-◌, ◌≤◌, ◌<◌}
use mathlib.Core.Path.{◌≡◌, sym, ap, ◌∙◌}
use mathlib.Core.Bool.{Bool, cond}
use mathlib.Core.List.{List, ◌++◌}
use borrow.Author.Tests.{ltb-true, lt-ltb, le-ltb, le-leb, lt-leb}
use lib.Dec.{leb, ltb, eqb}
use lib.ListN.{length}
use Rattle.answer_types.specs.Verdict.{Verdict, none, done, refused}
use Rattle.answer_types.specs.Meaning.{said, refusal_of}
use Rattle.answer_types.specs.declared.Refusal.{Refusal}
use Rattle.byte_strings.specs.Lists.{total}
use Rattle.file_format.specs.Sizes.{most_chunks, used_tree, used_signatures, used_bitfield}
use Rattle.file_format.specs.Belongs.{Register}
use Rattle.checks.specs.Checks.{judged, holds, later_checks}
use Rattle.checks.proofs.Judged.{judged_append, judged_done}
use Rattle.checks.specs.Lengths.{most_listed, all_short}
use Rattle.writing.proofs.Orders.{refused_before, passed_before}
use Rattle.append_list.specs.Append.{list_checks, room_checks, append_list_checks, list_verdict}
use Rattle.append_list.specs.Inner.{own_verdict}

-- 2 twice, then 3 to 6, then the list's own
abbrev ladder : Bool → Bool → Verdict → Verdict
ladder a b v = cond a (cond b v (refused 2 none)) (refused 2 none)

pub list_order : (r : Register) (ls bs : List ℕ)
    → list_verdict r ls bs ≡ ladder (ltb r.n most_chunks) (leb (r.n + length ls) most_chunks) (judged (later_checks r) (own_verdict r ls bs))
unfolding list_verdict append_list_checks own_verdict judged
list_order r ls bs =
    ap (ladder (ltb r.n most_chunks) (leb (r.n + length ls) most_chunks))
    (judged_append (later_checks r) (list_checks ls bs ++ room_checks r (length ls) (length bs)) done
    ∙ ap (judged (later_checks r)) (judged_append (list_checks ls bs) (room_checks r (length ls) (length bs)) done))

pub list_over : (r : Register) (ls bs : List ℕ) {v : Verdict} → most_chunks ≤ r.n → v ≡ refused 2 none → v ≡ list_verdict r ls bs
list_over r ls bs h e =
    e
    ∙ sym
    (list_order r ls bs
    ∙ ap (λ (a : Bool). ladder a (leb (r.n + length ls) most_chunks) (judged (later_checks r) (own_verdict r ls bs))) (le-ltb r.n most_chunks h))

module _ (r : Register) (ls bs : List ℕ) {v : Verdict} (fewer : r.n < most_chunks) where
  pub list_past : most_chunks < r.n + length ls → v ≡ refused 2 none → v ≡ list_verdict r ls bs
  list_past h e =
      e
      ∙ sym
      (list_order r ls bs
      ∙ ap (λ (a : Bool). ladder a (leb (r.n + length ls) most_chunks) (judged (later_checks r) (own_verdict r ls bs))) (lt-ltb r.n most_chunks fewer)
      ∙ ap (λ (b : Bool). cond b (judged (later_checks r) (own_verdict r ls bs)) (refused 2 none)) (lt-leb (r.n + length ls) most_chunks h))

  pub list_within : r.n + length ls ≤ most_chunks → v ≡ judged (later_checks r) (own_verdict r ls bs) → v ≡ list_verdict r ls bs
  list_within h e =
      e
      ∙ sym
      (list_order r ls bs
      ∙ ap (λ (a : Bool). ladder a (leb (r.n + length ls) most_chunks) (judged (later_checks r) (own_verdict r ls bs))) (lt-ltb r.n most_chunks fewer)
      ∙ ap (λ (b : Bool). cond b (judged (later_checks r) (own_verdict r ls bs)) (refused 2 none)) (le-leb (r.n + length ls) most_chunks h))

-- 16 three times, then 7, as tests
abbrev pub list_ladder : Bool → Bool → Bool → Bool → Verdict
list_ladder a b c d = cond a (cond b (cond c (cond d done (refused 7 none)) (refused 16 none)) (refused 16 none)) (refused 16 none)

pub list_answered : (ls bs : List ℕ) {v : Verdict} {a b c d : Bool} → ltb 0 (length ls) ≡ a → leb (length ls) most_listed ≡ b
    → eqb (total ls) (length bs) ≡ c → all_short ls ≡ d → v ≡ list_ladder a b c d → v ≡ judged (list_checks ls bs) done
unfolding list_checks judged
list_answered ls bs p q s t w = rw (p, q, s, t) w

-- 8 and 14 as tests
abbrev pub room_ladder : Bool → Bool → Bool → Bool → Bool → Verdict
room_ladder a b c d e =
    cond a (cond b (cond c (cond d (cond e done (refused 14 none)) (refused 14 none)) (refused 14 none)) (refused 14 none)) (refused 8 none)

pub room_answered : (r : Register) (k m : ℕ) {v : Verdict} {a b c d e : Bool} → eqb r.s r.n ≡ a → holds r.tree (used_tree (r.n + k)) ≡ b
    → holds r.signatures (used_signatures (r.n + k - 1)) ≡ c → holds r.bitfield (used_bitfield (r.n + k)) ≡ d
    → holds r.content (r.size + m) ≡ e → v ≡ room_ladder a b c d e → v ≡ judged (room_checks r k m) done
unfolding room_checks judged
room_answered r k m p q s t u w = rw (p, q, s, t, u) w

-- ---- the list's own, by the answers of its two halves

pub some_listed : (ls bs : List ℕ) {a : Result ⊤ Refusal} → a ≡ (Ok tt) → said a ≡ judged (list_checks ls bs) done → 0 < length ls
unfolding list_checks
some_listed ls bs p e = ltb-true 0 (length ls) (judged_done (list_checks ls bs) done (sym e ∙ ap said p)).0.0

pub own_refused : (r : Register) (ls bs : List ℕ) {a : Result ⊤ Refusal} {x : Refusal} → a ≡ Err x → said a ≡ judged (list_checks ls bs) done
    → refusal_of x ≡ own_verdict r ls bs
unfolding own_verdict
own_refused r ls bs = refused_before (list_checks ls bs) (judged (room_checks r (length ls) (length bs)) done)

pub own_passed : (r : Register) (ls bs : List ℕ) {v : Verdict} {a : Result ⊤ Refusal} → a ≡ (Ok tt) → said a ≡ judged (list_checks ls bs) done
    → v ≡ judged (room_checks r (length ls) (length bs)) done → v ≡ own_verdict r ls bs
unfolding own_verdict
own_passed r ls bs = passed_before (list_checks ls bs)
