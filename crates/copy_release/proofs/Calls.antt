-- What the code of a release on a copy needs of the definitions. Assumes nothing.
use Prim.Native.Nat.{ℕ}
use mathlib.Core.Path.{◌≡◌, sym, ap, ap₂, ◌∙◌}
use mathlib.Core.List.{List}
use Rattle.answer_types.specs.Verdict.{Verdict, unless_refused}
use Rattle.lookup.specs.Lookup.{Found, refusal, found}
use Rattle.lookup.specs.Read.{verdict_found}
use Rattle.lookup.proofs.Calls.{held_placing}
use Rattle.release.specs.Release.{bytes_cleared, released_register}
use Rattle.release.specs.Post.{ClearsAt, ReleasedPost}
use Rattle.release.proofs.Calls.{release_fits as register-fits}
use Rattle.copy_checks.specs.Copy.{Copy, files_of, files_lent}
use Rattle.copy_checks.proofs.Signed.{signed}
use Rattle.copy_lookup.specs.Lookups.{copy_held_place_of}
use Rattle.copy_lookup.proofs.AsRegister.{held_at, held_place_as}
use Rattle.copy_release.specs.Release.{copy_release_verdict, released_copy, copy_after_release}
use Rattle.copy_release.specs.Post.{ReleasePost}

module _ (c : Copy) (i : ℕ) where
  pub release_fits : (p : Found) → p ≡ copy_held_place_of c i → ClearsAt c.bitfield c.content i p
  release_fits (refusal m at) e = tt
  release_fits (found start size) e = register-fits (signed c) i (found start size) (held_place_as c i start size e)

  module _ (v : Verdict) (bits content : List ℕ) where
    pub release_post : (p : Found) → p ≡ copy_held_place_of c i → ReleasedPost c.bitfield c.content i p v bits content
        → ReleasePost c i v (files_lent c.tree bits content)
    unfolding copy_release_verdict copy_after_release released_copy released_register
    release_post p e w =
        record { answer = w.answer ∙ ap verdict_found e; files = left p e w ∙ ap (λ (f : Found). unless_refused (verdict_found f) (files_of (released_copy c i)) (files_of c)) e }
      where
        left : (p : Found) → p ≡ copy_held_place_of c i → ReleasedPost c.bitfield c.content i p v bits content
            → files_lent c.tree bits content ≡ unless_refused (verdict_found p) (files_of (released_copy c i)) (files_of c)
        left (refusal m at) e w = ap₂ (files_lent c.tree) w.bitfield w.content
        left (found start size) e w =
            ap₂ (files_lent c.tree) w.bitfield
            (w.content ∙ sym (ap (bytes_cleared c.content) (held_placing (signed c) i (held_at c i (sym e)).register).place))
