-- "Releasing a chunk, found by the place lookup with its refusals, clears its data bit, regenerates that entry's Index and writes zeros over the
-- chunk's bytes; its tree entries stay. It answers done".
use Rattle.std.specs.Prelude.{ℕ, List}
use Rattle.answer_types.specs.Verdict.{Verdict, unless_refused}
use Rattle.byte_strings.specs.Lists.{put, zeros}
use Rattle.bitfield.specs.Release.{released_bits}
use Rattle.file_format.specs.Belongs.{Buffers, Register, buffers_of}
use Rattle.lookup.specs.Descent.{always}
use Rattle.lookup.specs.Lookup.{Found, refusal, found, place_in, held_place_of}
use Rattle.lookup.specs.Read.{verdict_found}

-- the refusals of the place lookup, with 18 just after 9 for a chunk that is not held
unfoldable pub release_verdict : Register → ℕ → Verdict
release_verdict r c = verdict_found (held_place_of r c)

-- zeros at a place that was found
abbrev pub bytes_cleared : List ℕ → Found → List ℕ
bytes_cleared bytes (refusal m at) = bytes
bytes_cleared bytes (found start size) = put bytes start (zeros size)

-- the register after the release of chunk c: its bits, and zeros at its place
unfoldable pub released_register : Register → ℕ → Register
released_register r c =
    record {
      tree = r.tree;
      signatures = r.signatures;
      bitfield = released_bits r.bitfield c;
      content = bytes_cleared r.content (place_in always r.tree r.n c);
      n = r.n;
      s = r.s;
      size = r.size;
    }

unfoldable pub after_release : Register → ℕ → Buffers
after_release r c = unless_refused (release_verdict r c) (buffers_of (released_register r c)) (buffers_of r)
