-- Both conditions on a grown copy are needed: without them the audit refuses.
use Rattle.std.specs.Prelude.{ℕ, ◌≡◌, false, List}
use Rattle.answer_types.specs.Verdict.{none, done, refused}
use Rattle.byte_strings.specs.Lists.{Bytes}
use Rattle.file_format.specs.Messages.{HashFunction}
use Rattle.copy_checks.specs.Copy.{Copy}
use Rattle.copy_make.specs.Make.{make_verdict, made_copy}
use Rattle.copy_take_in.specs.TakeIn.{lying, take_verdict, taken_in}
use Rattle.copy_audit.specs.Audit.{audit_copy, AcceptedCopy}
use Rattle.theorem_copies_grown.specs.Grown.{leaves_short, Grown}

pub record Needed (F : List ℕ → List ℕ) : Type 0 where
  -- a copy of no chunks has no roots, so 6 is not passed over
  pub size : (c : Copy) → make_verdict c ≡ done → c.n ≡ 0 → (c.size ≡ 0 → ⊥) → audit_copy F (made_copy c) ≡ refused 6 none
  -- a grown copy that takes in a packet with a longer leaf is not accepted: that leaf is known then, and the audit finds it or an entry before it wrong
  pub leaves : (c : Copy) → Grown F c → (p : List ℕ) (i : ℕ) (root : List ℕ) → Bytes p → take_verdict F c p i root ≡ done
      → leaves_short (lying p c.n i) ≡ false → AcceptedCopy F (taken_in F c p i) → ⊥

abbrev pub NeededForAll : Type 0
NeededForAll = (F : List ℕ → List ℕ) → HashFunction F → Needed F
