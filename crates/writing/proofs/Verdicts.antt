-- What a register is on which an append or a stored signature is not refused.
-- Assumes nothing.
use Prim.Native.Nat.{ℕ, ◌+◌, ◌<◌}
use mathlib.Core.Path.{◌≡◌, refl, ap}
use mathlib.Core.Bool.{Bool, true, false, not, ◌||◌}
use mathlib.Core.List.{List}
use native.Mathlib.Omega.{arith}
use borrow.Author.Tests.{leb-true, ltb-true, eqb-true, eqb-false, le-leb, lt-ltb, eq-eqb, ne_eqb, not-true}
use lib.Dec.{eqb}
use lib.ListN.{length}
use Rattle.answer_types.specs.Verdict.{done}
use Rattle.file_format.specs.Sizes.{most_chunks, longest_chunk, used_tree, used_signatures, used_bitfield}
use Rattle.file_format.specs.Belongs.{Register}
use Rattle.checks.specs.Checks.{signed_right, later_checks, register_checks}
use Rattle.checks.proofs.Passed.{Passed, all-must, all_pass, all_right, right_all}
use Rattle.writing.specs.Append.{own_checks, append_checks, append_verdict}
use Rattle.writing.specs.Sign.{own_sign_checks, sign_checks, sign_verdict}
use Rattle.writing.specs.Conditions.{AppendFits, SignFits}
use Rattle.writing.proofs.Orders.{both_right, right_both}

-- ---- an append

pub append_passed : (r : Register) (chunk : List ℕ) → append_verdict r chunk ≡ done → Passed r × AppendFits r chunk
unfolding append_verdict append_checks register_checks own_checks
append_passed r chunk e =
    let a = (all-must (append_checks r chunk) done e).0 in
    let s = right_both (later_checks r) (own_checks r chunk) a.1 in
    let l : r.n < most_chunks = ltb-true r.n most_chunks a.0 in (
      right_all r (le-leb r.n most_chunks (omega arith), s.0),
      record {
        fewer = l;
        short = leb-true (length chunk) longest_chunk s.1.0;
        paid = eqb-true r.s r.n s.1.1.0;
        tree = leb-true (used_tree (r.n + 1)) (length r.tree) s.1.1.1.0;
        bitfield = leb-true (used_bitfield (r.n + 1)) (length r.bitfield) s.1.1.1.1.0;
        content = leb-true (r.size + length chunk) (length r.content) s.1.1.1.1.1.0;
      },
    )

pub passed_append : (r : Register) (chunk : List ℕ) → Passed r → AppendFits r chunk → append_verdict r chunk ≡ done
unfolding append_verdict append_checks register_checks own_checks
passed_append r chunk c p =
    all_pass (append_checks r chunk) done (
      lt-ltb r.n most_chunks p.fewer,
      both_right (later_checks r) (own_checks r chunk) (all_right r c).1 (
        le-leb (length chunk) longest_chunk p.short,
        (
          eq-eqb r.s r.n p.paid,
          (
            le-leb (used_tree (r.n + 1)) (length r.tree) p.tree,
            (
              le-leb (used_bitfield (r.n + 1)) (length r.bitfield) p.bitfield,
              (le-leb (r.size + length chunk) (length r.content) p.content, tt),
            ),
          ),
        ),
      ),
    )

-- ---- a stored signature

pub one_owed : (n s : ℕ) → signed_right n s ≡ true → (s ≡ n → ⊥) → s + 1 ≡ n
one_owed n s h d = split (eqb s n) refl h
  where
    split : (b : Bool) → eqb s n ≡ b → (b || eqb (s + 1) n) ≡ true → s + 1 ≡ n
    split true e q = absurd (d (eqb-true s n e))
    split false e q = eqb-true (s + 1) n q

pub sign_passed : (r : Register) → sign_verdict r ≡ done → Passed r × SignFits r
unfolding sign_verdict sign_checks own_sign_checks
sign_passed r e =
    let s = right_both (register_checks r) (own_sign_checks r.signatures r.n r.s) (all-must (sign_checks r) done e).0 in
    let p : Passed r = right_all r s.0 in (
      p,
      record {
        owed = one_owed r.n r.s p.signed (eqb-false r.s r.n (not-true (eqb r.s r.n) s.1.0));
        room = leb-true (used_signatures (r.s + 1)) (length r.signatures) s.1.1.0;
      },
    )

pub passed_sign : (r : Register) → Passed r → SignFits r → sign_verdict r ≡ done
unfolding sign_verdict sign_checks own_sign_checks
passed_sign r c p =
    all_pass (sign_checks r) done
    (both_right (register_checks r) (own_sign_checks r.signatures r.n r.s) (all_right r c) (
      ap not (ne_eqb r.s r.n (λ e. omega (arith, p.owed))),
      (le-leb (used_signatures (r.s + 1)) (length r.signatures) p.room, tt),
    ))
