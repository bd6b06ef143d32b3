-- `append_list::judging::judge_list` meets its contract: each number is refused where those before it are passed. Assumes nothing.
use mathlib.Core.Bool.{Bool, true, false}
use Prim.Native.Nat.{ℕ}
use lib.Dec.{eqb, ltb}
use mathlib.Core.Path.{◌≡◌, refl, sym, ◌∙◌}
use native.Mathlib.Omega.{arith}
use borrow.Author.Tests.{eqb-true, eqb-false, lt-ltb, le-ltb, le-leb, lt-leb}
use lib.ListN.{length}
use Rattle.append_list.proofs.Orders.{list_answered}
use Rattle.append_list.proofs.judging.judge_list.Goals as goal

-- whether there are lengths, as the code asks it
none_listed : (k : ℕ) {b : Bool} → b ≡ eqb k 0 → b ≡ true → ltb 0 k ≡ false
none_listed k q e = le-ltb 0 k (omega (arith, eqb-true k 0 (sym q ∙ e)))

some_listed : (k : ℕ) {b : Bool} → b ≡ eqb k 0 → b ≡ false → ltb 0 k ≡ true
some_listed k q e =
    let other = eqb-false k 0 (sym q ∙ e) in
    lt-ltb 0 k (omega (arith, other))

pub returns-then-is_empty : goal.returns-then-is_empty
returns-then-is_empty c =
    list_answered c.args.lengths.now c.args.bytes.now
    (none_listed _ c.is_empty.ensures c.if-is_empty.true) refl refl refl c.refuse.ensures

pub returns-then-lengths-gt256 : goal.returns-then-lengths-gt256
returns-then-lengths-gt256 c =
    list_answered c.args.lengths.now c.args.bytes.now
    (some_listed _ c.is_empty.ensures c.if-is_empty.false) (lt-leb (length c.args.lengths.now) 256 c.if-lengths-gt256.true) refl refl c.refuse-then-lengths-gt256.ensures

pub returns-then-not-adds_up : goal.returns-then-not-adds_up
returns-then-not-adds_up c =
    list_answered c.args.lengths.now c.args.bytes.now
    (some_listed _ c.is_empty.ensures c.if-is_empty.false) (le-leb (length c.args.lengths.now) 256 c.if-lengths-gt256.false)
    (sym c.adds_up.ensures ∙ c.if-not-adds_up.true) refl c.refuse-then-not-adds_up.ensures

pub returns-then-not-all_short : goal.returns-then-not-all_short
returns-then-not-all_short c =
    list_answered c.args.lengths.now c.args.bytes.now
    (some_listed _ c.is_empty.ensures c.if-is_empty.false) (le-leb (length c.args.lengths.now) 256 c.if-lengths-gt256.false)
    (sym c.adds_up.ensures ∙ c.if-not-adds_up.false) (sym c.all_short.ensures ∙ c.if-not-all_short.true) c.refuse-then-not-all_short.ensures

pub returns : goal.returns
returns c =
    list_answered c.args.lengths.now c.args.bytes.now
    (some_listed _ c.is_empty.ensures c.if-is_empty.false) (le-leb (length c.args.lengths.now) 256 c.if-lengths-gt256.false)
    (sym c.adds_up.ensures ∙ c.if-not-adds_up.false) (sym c.all_short.ensures ∙ c.if-not-all_short.false) refl
