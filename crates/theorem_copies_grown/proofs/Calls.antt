-- What the calls leave.
-- Assumes nothing.
use Prim.Native.Nat.{ℕ}
use mathlib.Core.Path.{◌≡◌, refl, sym, ap, ◌∙◌, subst}
use mathlib.Core.Bool.{true}
use mathlib.Core.List.{List}
use Rattle.answer_types.specs.Verdict.{Verdict, done, refused, unless_refused}
use Rattle.byte_strings.specs.Lists.{Bytes}
use Rattle.blake2b.specs.Hash.{node_hash}
use Rattle.file_format.proofs.Hashed.{hash_function}
use Rattle.copy_checks.specs.Copy.{Copy, Files, files_of}
use Rattle.copy_make.specs.Make.{make_verdict, made_copy, after_making, MakePost}
use Rattle.copy_take_in.specs.TakeIn.{lying, take_verdict, taken_in, after_taking}
use Rattle.copy_take_in.specs.Post.{TakePost}
use Rattle.copy_release.specs.Release.{copy_release_verdict, released_copy, copy_after_release}
use Rattle.copy_release.specs.Post.{ReleasePost}
use Rattle.release.specs.Release.{released_register}
use Rattle.copy_audit.specs.Audit.{AcceptedCopy}
use Rattle.theorem_copies_grown.specs.Grown.{leaves_short, Grown, made, grew, shrank}
use Rattle.theorem_copies_grown.specs.KeptByCalls.{left_as, KeptByCalls}
use Rattle.theorem_copies_grown.proofs.Grown.{grown_accepted}

module _ (F : List ℕ → List ℕ) where
  made_left : (c : Copy) (v : Verdict) (left : Files) → MakePost c v left → v ≡ done → (c.n ≡ 0 → c.size ≡ 0) → Grown F (left_as c left)
  unfolding after_making made_copy
  made_left c v left w e z =
      let d : make_verdict c ≡ done = sym w.answer ∙ e in
      subst (λ (x : Files). Grown F (left_as c x)) (sym (w.files ∙ ap (λ (y : Verdict). unless_refused y (files_of (made_copy c)) (files_of c)) d)) (made c d z)

  taken_left : (c : Copy) → Grown F c → (p : List ℕ) (i : ℕ) (root : List ℕ) (v : Verdict) (left : Files) → Bytes p
      → (v ≡ done → leaves_short (lying p c.n i) ≡ true) → TakePost F c p i root v left → Grown F (left_as c left)
  unfolding after_taking taken_in
  taken_left c g p i root v left b s w = subst (λ (x : Files). Grown F (left_as c x)) (sym w.files) (pick (take_verdict F c p i root) refl)
    where
      pick : (y : Verdict) → take_verdict F c p i root ≡ y → Grown F (left_as c (unless_refused (take_verdict F c p i root) (files_of (taken_in F c p i)) (files_of c)))
      pick done e =
          subst (λ (y : Verdict). Grown F (left_as c (unless_refused y (files_of (taken_in F c p i)) (files_of c)))) (sym e) (grew c g p i root b e (s (w.answer ∙ e)))
      pick (refused m at) e = subst (λ (y : Verdict). Grown F (left_as c (unless_refused y (files_of (taken_in F c p i)) (files_of c)))) (sym e) g

  released_left : (c : Copy) → Grown F c → (i : ℕ) (v : Verdict) (left : Files) → ReleasePost c i v left → Grown F (left_as c left)
  unfolding copy_after_release released_copy released_register
  released_left c g i v left w = subst (λ (x : Files). Grown F (left_as c x)) (sym w.files) (pick (copy_release_verdict c i) refl)
    where
      pick : (y : Verdict) → copy_release_verdict c i ≡ y → Grown F (left_as c (unless_refused (copy_release_verdict c i) (files_of (released_copy c i)) (files_of c)))
      pick done e = subst (λ (y : Verdict). Grown F (left_as c (unless_refused y (files_of (released_copy c i)) (files_of c)))) (sym e) (shrank c g i e)
      pick (refused m at) e = subst (λ (y : Verdict). Grown F (left_as c (unless_refused y (files_of (released_copy c i)) (files_of c)))) (sym e) g

  pub kept_by_calls : KeptByCalls F
  kept_by_calls = record { making = made_left; taking = taken_left; releasing = released_left }

-- at the hash of the calls
pub grown_of_the_calls : (c : Copy) → Grown node_hash c → AcceptedCopy node_hash c
grown_of_the_calls = grown_accepted node_hash hash_function
