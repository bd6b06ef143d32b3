-- The verdict on a packet in its stages: the copy, the packet, its total. Assumes nothing.
use Prim.Native.Nat.{ℕ, ◌≤◌}
use mathlib.Core.Path.{◌≡◌, refl, sym, ap, ◌∙◌, subst}
use mathlib.Core.Bool.{Bool, true, cond, ◌&&◌}
use mathlib.Core.List.{List, [], ◌∷◌}
use native.Mathlib.Omega.{arith}
use borrow.Author.Tests.{leb-true, eqb-true, eq-eqb, ltb-true}
use lib.Dec.{eqb, leb, ltb}
use lib.ListN.{length}
use Rattle.answer_types.specs.Verdict.{Spot, Verdict, none, tree, done, refused, unless_refused, and_then}
use Rattle.byte_strings.specs.Lists.{same_list}
use Rattle.byte_strings.proofs.Bools.{both_true}
use Rattle.checks.specs.Checks.{Check, judged, count_right, adds_up}
use Rattle.checks.proofs.Judged.{judged_done, judged_right, judged_refused}
use Rattle.audit.specs.Audit.{refused_at}
use Rattle.packet.specs.Check.{shape_right, packet_total, root_right, packet_root_message, packet_verdict}
use Rattle.copy_checks.specs.Copy.{Copy, Files, files_of}
use Rattle.copy_checks.specs.Checks.{partly_judged, unknown_root, passed_over}
use Rattle.copy_checks.proofs.Steps.{Lent, partly_passed, partly_passes, partly_refused_by}
use Rattle.copy_take_in.specs.TakeIn.{contradiction, take_verdict, taken_in, after_taking}
use Rattle.copy_take_in.specs.Inner.{Fits, Room}
use Rattle.copy_take_in.specs.Post.{TakePost, total_verdict, size_verdict, own_verdict, OwnPost}

-- both of two verdicts are done where the whole is
pub then_done : (v w : Verdict) → and_then v w ≡ done → (v ≡ done) × (w ≡ done)
then_done done w e = (refl, e)
then_done (refused m at) w e = absurd (let z : ◌≡◌ {A = ℕ} 0 1 = cc in omega arith)

abbrev pub total_check : Copy → List ℕ → ℕ → List Check
total_check c p i = record { number = 6; right = eqb (packet_total p c.n i) c.size } ∷ []

-- what the code of `judge_packet` says
module _ (F : List ℕ → List ℕ) (p : List ℕ) (n size i : ℕ) (root : List ℕ) where
  pub packet_refused : (m : ℕ) (at : Spot) → refused m at ≡ packet_verdict F p n i root → refused m at ≡ total_verdict F p n size i root
  unfolding total_verdict
  packet_refused m at f =
      ap (λ (v : Verdict). and_then v (judged (record { number = 6; right = eqb (packet_total p n i) size } ∷ []) done)) f

  pub packet_total_lem : done ≡ packet_verdict F p n i root → (v : Verdict) (right : Bool) → right ≡ eqb (packet_total p n i) size
      → v ≡ cond right done (refused 6 none) → v ≡ total_verdict F p n size i root
  unfolding total_verdict judged
  packet_total_lem f v right g h =
      h ∙ ap (λ (b : Bool). cond b done (refused 6 none)) g
      ∙ ap (λ (w : Verdict). and_then w (judged (record { number = 6; right = eqb (packet_total p n i) size } ∷ []) done)) f

  -- a packet that passes the check
  pub packet_fits : done ≡ packet_verdict F p n i root → Fits p n i
  unfolding packet_verdict root_right
  packet_fits f =
      let a = (judged_done
      (record { number = 2; right = count_right n } ∷ record { number = 9; right = ltb i n }
      ∷ record { number = 12; right = shape_right p n i }
      ∷ record { number = 13; right = leb (packet_total p n i) 68719476736 && same_list (F (packet_root_message F p n i)) root } ∷ [])
      done (sym f)).0 in
      record {
        shaped = record { chunk = record { count = leb-true _ _ a.0; below = ltb-true _ _ a.1.0 }; shape = a.1.1.0 };
        small = leb-true _ _ (both_true _ _ a.1.1.1.0).0;
      }

module _ (F : List ℕ → List ℕ) (c : Copy) (p : List ℕ) (i : ℕ) (root : List ℕ) where
  abbrev pub staged : Verdict → Verdict
  staged next = partly_judged c (and_then (packet_verdict F p c.n i root) (judged (total_check c p i) next))

  pub record Passes : Type 0 where
    pub lent : Lent c
    pub roots : passed_over (unknown_root c) (adds_up c.tree c.n c.size) ≡ true
    pub packet : packet_verdict F p c.n i root ≡ done
    pub total : packet_total p c.n i ≡ c.size

  pub staged_passes : (next : Verdict) → staged next ≡ done → Passes × (next ≡ done)
  staged_passes next e =
      let a = partly_passed c (and_then (packet_verdict F p c.n i root) (judged (total_check c p i) next)) e in
      let b = then_done (packet_verdict F p c.n i root) (judged (total_check c p i) next) a.1.1 in
      let d = judged_done (total_check c p i) next b.1 in
      (record { lent = a.0; roots = a.1.0; packet = b.0; total = eqb-true (packet_total p c.n i) c.size d.0.0 }, d.1)

  pub passes_staged : (next : Verdict) → Passes → staged next ≡ next
  passes_staged next w =
      partly_passes c (and_then (packet_verdict F p c.n i root) (judged (total_check c p i) next)) w.lent w.roots
      ∙ ap (λ (v : Verdict). and_then v (judged (total_check c p i) next)) w.packet
      ∙ judged_right (total_check c p i) next (eq-eqb (packet_total p c.n i) c.size w.total, tt)

  staged_refused : (next : Verdict) (m : ℕ) (at : Spot) → staged done ≡ refused m at → staged next ≡ refused m at
  staged_refused next m at e = by_partly (partly_judged c done) refl
    where
      by_packet : (v : Verdict) → and_then v (judged (total_check c p i) done) ≡ refused m at → and_then v (judged (total_check c p i) next) ≡ refused m at
      by_packet done f = judged_refused (total_check c p i) next m at f
      by_packet (refused k b) f = f

      by_partly : (v : Verdict) → partly_judged c done ≡ v → staged next ≡ refused m at
      by_partly (refused k b) f =
          partly_refused_by c (and_then (packet_verdict F p c.n i root) (judged (total_check c p i) next)) k b f
          ∙ sym (partly_refused_by c (and_then (packet_verdict F p c.n i root) (judged (total_check c p i) done)) k b f) ∙ e
      by_partly done f =
          let a = partly_passed c done f in
          partly_passes c (and_then (packet_verdict F p c.n i root) (judged (total_check c p i) next)) a.0 a.1.0
          ∙ by_packet (packet_verdict F p c.n i root)
          (sym (partly_passes c (and_then (packet_verdict F p c.n i root) (judged (total_check c p i) done)) a.0 a.1.0) ∙ e)

  -- what the code of `judge` says
  pub judge_copy : (m : ℕ) (at : Spot) → refused m at ≡ partly_judged c done → refused m at ≡ size_verdict F c p i root
  unfolding size_verdict total_verdict
  judge_copy m at e =
      sym (partly_refused_by c (and_then (packet_verdict F p c.n i root) (judged (total_check c p i) done)) m at (sym e))

  pub judge_own_lem : done ≡ partly_judged c done → (v : Verdict) → v ≡ total_verdict F p c.n c.size i root → v ≡ size_verdict F c p i root
  unfolding size_verdict
  judge_own_lem e v f =
      let a = partly_passed c done (sym e) in
      f ∙ sym (partly_passes c (total_verdict F p c.n c.size i root) a.0 a.1.0)

  -- a packet that passes the check
  pub fits : done ≡ packet_verdict F p c.n i root → Fits p c.n i
  fits f = packet_fits F p c.n c.size i root f

  pub room : done ≡ size_verdict F c p i root → Room c.tree c.bitfield c.content p c.n i
  unfolding size_verdict total_verdict
  room e =
      let w = (staged_passes done (sym e)).0 in
      record {
        packet = fits (sym w.packet);
        nodes = w.lent.tree;
        field = w.lent.bitfield;
        bytes = subst (λ (x : ℕ). x ≤ length c.content) (sym w.total) w.lent.content;
      }

  pub take_not : (m : ℕ) (at : Spot) → refused m at ≡ size_verdict F c p i root → TakePost F c p i root (refused m at) (files_of c)
  unfolding size_verdict total_verdict take_verdict after_taking
  take_not m at e =
      let f : refused m at ≡ take_verdict F c p i root = sym (staged_refused (refused_at 19 tree (contradiction F c p i) done) m at (sym e)) in
      record { answer = f; files = ap (λ (v : Verdict). unless_refused v (files_of (taken_in F c p i)) (files_of c)) f }

  pub take_done : (v : Verdict) (left : Files) → done ≡ size_verdict F c p i root → OwnPost F c p i v left → TakePost F c p i root v left
  unfolding size_verdict total_verdict own_verdict take_verdict after_taking
  take_done v left e w =
      let f : v ≡ take_verdict F c p i root =
      w.answer ∙ sym (passes_staged (refused_at 19 tree (contradiction F c p i) done) (staged_passes done (sym e)).0) in
      record { answer = f; files = w.files ∙ ap (λ (x : Verdict). unless_refused x (files_of (taken_in F c p i)) (files_of c)) f }
