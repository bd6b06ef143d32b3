-- The checks of an append and of a stored signature in their order, number by number. Assumes nothing.
use Rattle.std.specs.Prelude.{Result, Ok, Err, ⊤}
use Prim.Native.Nat.{ℕ, ◌+◌, ◌≤◌, ◌<◌}
use mathlib.Core.Path.{◌≡◌, sym, ap, ◌∙◌}
use mathlib.Core.Bool.{Bool, cond, not}
use mathlib.Core.List.{List, [], ◌∷◌, ◌++◌}
use borrow.Author.Tests.{lt-ltb, le-ltb}
use lib.Dec.{leb, ltb, eqb}
use lib.ListN.{length}
use Rattle.answer_types.specs.Verdict.{Spot, Verdict, none, done, refused, unless_refused}
use Rattle.answer_types.specs.Meaning.{said, spot_of, refusal_of}
use Rattle.answer_types.specs.declared.Refusal.{Refusal}
use Rattle.file_format.specs.Sizes.{most_chunks, longest_chunk, used_tree, used_signatures, used_bitfield}
use Rattle.file_format.specs.Belongs.{Buffers, Register}
use Rattle.checks.specs.Checks.{Check, judged, holds, later_checks, register_checks}
use Rattle.checks.proofs.Passed.{AllRight}
use Rattle.checks.proofs.Judged.{judged_append, judged_refused, judged_right, judged_done}
use Rattle.writing.specs.Append.{own_checks, append_checks, append_verdict}
use Rattle.writing.specs.Sign.{own_sign_checks, sign_checks, sign_verdict}

-- ---- checks behind checks

-- a refusal of the first is the refusal of all
pub refused_before : (cs : List Check) (next : Verdict) {a : Result ⊤ Refusal} {x : Refusal} → a ≡ Err x → said a ≡ judged cs done
    → refusal_of x ≡ judged cs next
refused_before cs next {x = x} p e = sym (judged_refused cs next x.number (spot_of x.place) (sym e ∙ ap said p))

-- where the first are passed, the others decide
pub passed_before : (cs : List Check) {v next : Verdict} {a : Result ⊤ Refusal} → a ≡ (Ok tt) → said a ≡ judged cs done → v ≡ next → v ≡ judged cs next
passed_before cs {next = next} p e q = q ∙ sym (judged_right cs next (judged_done cs done (sym e ∙ ap said p)).0)

-- all checks of two lists, one behind the other, are right
pub both_right : (xs ys : List Check) → AllRight xs → AllRight ys → AllRight (xs ++ ys)
both_right [] ys p q = q
both_right (x ∷ xs) ys p q = (p.0, both_right xs ys p.1 q)

pub right_both : (xs ys : List Check) → AllRight (xs ++ ys) → AllRight xs × AllRight ys
right_both [] ys p = (tt, p)
right_both (x ∷ xs) ys p = let r = right_both xs ys p.1 in ((p.0, r.0), r.1)

-- what is left in the buffers
pub left_done : (v : Verdict) (x y : Buffers) → v ≡ done → unless_refused v x y ≡ x
left_done v x y e = ap (λ (u : Verdict). unless_refused u x y) e

pub left_refused : (v : Verdict) (x y : Buffers) (m : ℕ) (at : Spot) → v ≡ refused m at → unless_refused v x y ≡ y
left_refused v x y m at e = ap (λ (u : Verdict). unless_refused u x y) e

-- ---- an append

pub append_order : (r : Register) (chunk : List ℕ)
    → append_verdict r chunk ≡ cond (ltb r.n most_chunks) (judged (later_checks r) (judged (own_checks r chunk) done)) (refused 2 none)
unfolding append_verdict append_checks judged
append_order r chunk =
    ap (λ (v : Verdict). cond (ltb r.n most_chunks) v (refused 2 none)) (judged_append (later_checks r) (own_checks r chunk) done)

-- 2, with n at 1,048,576 too
pub append_over : (r : Register) (chunk : List ℕ) {v : Verdict} → most_chunks ≤ r.n → v ≡ refused 2 none → v ≡ append_verdict r chunk
append_over r chunk h e =
    e
    ∙ sym
    (append_order r chunk
    ∙ ap (λ (b : Bool). cond b (judged (later_checks r) (judged (own_checks r chunk) done)) (refused 2 none)) (le-ltb r.n most_chunks h))

pub append_within : (r : Register) (chunk : List ℕ) {v : Verdict} → r.n < most_chunks → v ≡ judged (later_checks r) (judged (own_checks r chunk) done)
    → v ≡ append_verdict r chunk
append_within r chunk h e =
    e
    ∙ sym
    (append_order r chunk
    ∙ ap (λ (b : Bool). cond b (judged (later_checks r) (judged (own_checks r chunk) done)) (refused 2 none)) (lt-ltb r.n most_chunks h))

-- 7, 8 and 14 as tests
abbrev pub own_ladder : Bool → Bool → Bool → Bool → Bool → Verdict
own_ladder a b c d e =
    cond a (cond b (cond c (cond d (cond e done (refused 14 none)) (refused 14 none)) (refused 14 none)) (refused 8 none)) (refused 7 none)

pub own_answered : (r : Register) (chunk : List ℕ) {v : Verdict} {a b c d e : Bool} → leb (length chunk) longest_chunk ≡ a
    → eqb r.s r.n ≡ b → holds r.tree (used_tree (r.n + 1)) ≡ c → holds r.bitfield (used_bitfield (r.n + 1)) ≡ d
    → holds r.content (r.size + length chunk) ≡ e → v ≡ own_ladder a b c d e → v ≡ judged (own_checks r chunk) done
unfolding own_checks judged
own_answered r chunk p q s t u w = rw (p, q, s, t, u) w

-- ---- a stored signature

pub sign_order : (r : Register) → sign_verdict r ≡ judged (register_checks r) (judged (own_sign_checks r.signatures r.n r.s) done)
unfolding sign_verdict sign_checks
sign_order r = judged_append (register_checks r) (own_sign_checks r.signatures r.n r.s) done

pub sign_by : (r : Register) {v : Verdict} → v ≡ judged (register_checks r) (judged (own_sign_checks r.signatures r.n r.s) done) → v ≡ sign_verdict r
sign_by r e = e ∙ sym (sign_order r)

pub own_sign_answered : (signatures : List ℕ) (n s : ℕ) {v : Verdict} {a b : Bool} → eqb s n ≡ a → holds signatures (used_signatures (s + 1)) ≡ b
    → v ≡ cond (not a) (cond b done (refused 14 none)) (refused 8 none) → v ≡ judged (own_sign_checks signatures n s) done
unfolding own_sign_checks judged
own_sign_answered signatures n s p q w = rw (p, q) w
