-- What a register and a list are on which the append of a list is not refused. Assumes nothing.
use Prim.Native.Nat.{ℕ, ◌+◌, ◌-◌, ◌<◌}
use mathlib.Core.Path.{◌≡◌}
use mathlib.Core.List.{List}
use native.Mathlib.Omega.{arith}
use borrow.Author.Tests.{leb-true, ltb-true, eqb-true, le-leb, lt-ltb, eq-eqb}
use lib.ListN.{length}
use Rattle.answer_types.specs.Verdict.{done}
use Rattle.byte_strings.specs.Lists.{total}
use Rattle.file_format.specs.Sizes.{most_chunks, used_tree, used_signatures, used_bitfield}
use Rattle.file_format.specs.Belongs.{Register}
use Rattle.checks.specs.Checks.{later_checks, register_checks}
use Rattle.checks.proofs.Passed.{Passed, all-must, all_pass, all_right, right_all}
use Rattle.checks.specs.Lengths.{most_listed}
use Rattle.checks.proofs.Lengths.{short_at}
use Rattle.writing.proofs.Orders.{both_right, right_both}
use Rattle.append_list.specs.Append.{list_checks, room_checks, append_list_checks, list_verdict}
use Rattle.append_list.specs.Conditions.{ListFits}
use Rattle.append_list.proofs.Chunks.{each_short}

pub list_passed : (r : Register) (ls bs : List ℕ) → list_verdict r ls bs ≡ done → Passed r × ListFits r ls bs
unfolding list_verdict append_list_checks register_checks list_checks room_checks
list_passed r ls bs e =
    let a = (all-must (append_list_checks r ls bs) done e).0 in
    let s = right_both (later_checks r) _ a.1.1 in
    let o = right_both (list_checks ls bs) (room_checks r (length ls) (length bs)) s.1 in
    let l : r.n < most_chunks = ltb-true r.n most_chunks a.0 in (
      right_all r (le-leb r.n most_chunks (omega arith), s.0),
      record {
        fewer = leb-true (r.n + length ls) most_chunks a.1.0;
        some = ltb-true 0 (length ls) o.0.0;
        most = leb-true (length ls) most_listed o.0.1.0;
        adds = eqb-true (total ls) (length bs) o.0.1.1.0;
        short = λ k. short_at ls k o.0.1.1.1.0;
        paid = eqb-true r.s r.n o.1.0;
        tree = leb-true (used_tree (r.n + length ls)) (length r.tree) o.1.1.0;
        signatures = leb-true (used_signatures (r.n + length ls - 1)) (length r.signatures) o.1.1.1.0;
        bitfield = leb-true (used_bitfield (r.n + length ls)) (length r.bitfield) o.1.1.1.1.0;
        content = leb-true (r.size + length bs) (length r.content) o.1.1.1.1.1.0;
      },
    )

pub passed_list : (r : Register) (ls bs : List ℕ) → Passed r → ListFits r ls bs → list_verdict r ls bs ≡ done
unfolding list_verdict append_list_checks register_checks list_checks room_checks
passed_list r ls bs c p =
    all_pass (append_list_checks r ls bs) done (
      lt-ltb r.n most_chunks (omega (arith, p.fewer, p.some)),
      (
        le-leb (r.n + length ls) most_chunks p.fewer,
        both_right (later_checks r) _ (all_right r c).1
            (both_right (list_checks ls bs) (room_checks r (length ls) (length bs)) (
              lt-ltb 0 (length ls) p.some,
              (le-leb (length ls) most_listed p.most, (eq-eqb (total ls) (length bs) p.adds, (each_short ls p.short, tt))),
            ) (
              eq-eqb r.s r.n p.paid,
              (
                le-leb (used_tree (r.n + length ls)) (length r.tree) p.tree,
                (
                  le-leb (used_signatures (r.n + length ls - 1)) (length r.signatures) p.signatures,
                  (
                    le-leb (used_bitfield (r.n + length ls)) (length r.bitfield) p.bitfield,
                    (le-leb (r.size + length bs) (length r.content) p.content, tt),
                  ),
                ),
              ),
            )),
      ),
    )
