-- Storing a signature: 64 bytes, unread, behind the s signatures that are there.
use Rattle.std.specs.Prelude.{ℕ, ◌+◌, not, List, [], ◌∷◌, ◌++◌, eqb}
use Rattle.answer_types.specs.Verdict.{Verdict, done, unless_refused}
use Rattle.byte_strings.specs.Lists.{put}
use Rattle.file_format.specs.Sizes.{used_signatures}
use Rattle.file_format.specs.Belongs.{Buffers, Register, buffers_of}
use Rattle.checks.specs.Checks.{Check, judged, register_checks, holds}

-- the numbers behind 6: "8. .. a signature is offered while s = n", and 14 for the signatures
unfoldable pub own_sign_checks : List ℕ → ℕ → ℕ → List Check
own_sign_checks signatures n s =
    record { number = 8; right = not (eqb s n) } ∷ record { number = 14; right = holds signatures (used_signatures (s + 1)) } ∷ []

-- numbers 2 to 6, then its own
unfoldable pub sign_checks : Register → List Check
sign_checks r = register_checks r ++ own_sign_checks r.signatures r.n r.s

unfoldable pub sign_verdict : Register → Verdict
sign_verdict r = judged (sign_checks r) done

-- the register after one stored signature
unfoldable pub signed_register : Register → List ℕ → Register
signed_register r signature =
    record {
      tree = r.tree;
      signatures = put r.signatures (used_signatures r.s) signature;
      bitfield = r.bitfield;
      content = r.content;
      n = r.n;
      s = r.s + 1;
      size = r.size;
    }

unfoldable pub after_sign : Register → List ℕ → Buffers
after_sign r signature = unless_refused (sign_verdict r) (buffers_of (signed_register r signature)) (buffers_of r)
