-- What a register is that passes the numbers 2 to 6.
-- Assumes nothing.
use Prim.Native.Nat.{◌≤◌}
use mathlib.Core.Path.{◌≡◌}
use mathlib.Core.Bool.{true}
use borrow.Author.Tests.{leb-true, le-leb, eq-eqb, eqb-true}
use lib.ListN.{length, take}
use Rattle.answer_types.specs.Verdict.{Verdict, done}
use Rattle.byte_strings.specs.Lists.{total}
use Rattle.byte_strings.proofs.Lists.{same_eq}
use Rattle.file_format.specs.Headers.{tree_header, signatures_header, bitfield_header}
use Rattle.file_format.specs.Sizes.{most_chunks, used_tree, used_signatures, used_bitfield}
use Rattle.file_format.specs.Stored.{stored_root_sizes}
use Rattle.file_format.specs.Belongs.{Register}
use Rattle.checks.specs.Checks.{judged, signed_right, adds_up, later_checks, register_checks}
-- where every check of a list is passed the verdict is what comes next, and only then it can be done
pub use Rattle.checks.proofs.Judged.{AllRight, judged_right as all_pass, judged_done as all-must}
pub use Rattle.byte_strings.proofs.Lists.{same_of}

pub record Passed (r : Register) : Type 0 where
  pub count : r.n ≤ most_chunks
  pub signed : signed_right r.n r.s ≡ true
  pub tree : used_tree r.n ≤ length r.tree
  pub signatures : used_signatures r.s ≤ length r.signatures
  pub bitfield : used_bitfield r.n ≤ length r.bitfield
  pub content : r.size ≤ length r.content
  pub tree_front_lem : take 32 r.tree ≡ tree_header
  pub signatures_front : take 32 r.signatures ≡ signatures_header
  pub bitfield_front : take 32 r.bitfield ≡ bitfield_header
  pub adds : total (stored_root_sizes r.tree r.n) ≡ r.size

pub all_right : (r : Register) → Passed r → AllRight (register_checks r)
unfolding register_checks later_checks adds_up
all_right r p = (
  le-leb r.n most_chunks p.count,
  (
    p.signed,
    (
      le-leb (used_tree r.n) (length r.tree) p.tree,
      (
        le-leb (used_signatures r.s) (length r.signatures) p.signatures,
        (
          le-leb (used_bitfield r.n) (length r.bitfield) p.bitfield,
          (
            le-leb r.size (length r.content) p.content,
            (
              same_of (take 32 r.tree) tree_header p.tree_front_lem,
              (
                same_of (take 32 r.signatures) signatures_header p.signatures_front,
                (
                  same_of (take 32 r.bitfield) bitfield_header p.bitfield_front,
                  (eq-eqb (total (stored_root_sizes r.tree r.n)) r.size p.adds, tt),
                ),
              ),
            ),
          ),
        ),
      ),
    ),
  ),
)

pub right_all : (r : Register) → AllRight (register_checks r) → Passed r
unfolding register_checks later_checks adds_up
right_all r a =
    record {
      count = leb-true _ _ a.0;
      signed = a.1.0;
      tree = leb-true _ _ a.1.1.0;
      signatures = leb-true _ _ a.1.1.1.0;
      bitfield = leb-true _ _ a.1.1.1.1.0;
      content = leb-true _ _ a.1.1.1.1.1.0;
      tree_front_lem = same_eq _ _ a.1.1.1.1.1.1.0;
      signatures_front = same_eq _ _ a.1.1.1.1.1.1.1.0;
      bitfield_front = same_eq _ _ a.1.1.1.1.1.1.1.1.0;
      adds = eqb-true _ _ a.1.1.1.1.1.1.1.1.1.0;
    }

pub passes : (r : Register) (next : Verdict) → Passed r → judged (register_checks r) next ≡ next
passes r next p = all_pass (register_checks r) next (all_right r p)

pub passed : (r : Register) (next : Verdict) → judged (register_checks r) next ≡ done → Passed r × (next ≡ done)
passed r next e = let a = all-must (register_checks r) next e in (right_all r a.0, a.1)
