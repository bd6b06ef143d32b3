-- What the taking in ensures: the answer and the later content of the lent files, on every input.
use Rattle.std.specs.Prelude.{ℕ, ◌≡◌, List, [], ◌∷◌, eqb}
use Rattle.answer_types.specs.Verdict.{Verdict, tree, done, unless_refused, and_then}
use Rattle.checks.specs.Checks.{judged}
use Rattle.audit.specs.Audit.{refused_at}
use Rattle.packet.specs.Check.{packet_total, packet_verdict}
use Rattle.copy_checks.specs.Copy.{Copy, Files, files_of}
use Rattle.copy_checks.specs.Checks.{partly_judged}
use Rattle.copy_take_in.specs.TakeIn.{contradiction, take_verdict, taken_in, after_taking}

module _ (F : List ℕ → List ℕ) where
  pub record TakePost (c : Copy) (p : List ℕ) (i : ℕ) (root : List ℕ) (v : Verdict) (left : Files) : Type 0 where
    pub answer : v ≡ take_verdict F c p i root
    pub files : left ≡ after_taking F c p i root

  -- the packet's 9, 12 and 13, then the 6 of its total
  unfoldable pub total_verdict : List ℕ → ℕ → ℕ → ℕ → List ℕ → Verdict
  total_verdict p n size i root =
      and_then (packet_verdict F p n i root) (judged (record { number = 6; right = eqb (packet_total p n i) size } ∷ []) done)

  -- everything but 19
  unfoldable pub size_verdict : Copy → List ℕ → ℕ → List ℕ → Verdict
  size_verdict c p i root = partly_judged c (total_verdict p c.n c.size i root)

  -- 19, of a packet that passes everything else
  unfoldable pub own_verdict : Copy → List ℕ → ℕ → Verdict
  own_verdict c p i = refused_at 19 tree (contradiction F c p i) done

  pub record OwnPost (c : Copy) (p : List ℕ) (i : ℕ) (v : Verdict) (left : Files) : Type 0 where
    pub answer : v ≡ own_verdict c p i
    pub files : left ≡ unless_refused v (files_of (taken_in F c p i)) (files_of c)
