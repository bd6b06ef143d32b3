-- Start: "only lent four buffers and writes the three headers; its one refusal is 14".
use Rattle.std.specs.Prelude.{List, [], ◌∷◌}
use Rattle.answer_types.specs.Verdict.{Verdict, done, unless_refused}
use Rattle.byte_strings.specs.Lists.{put}
use Rattle.file_format.specs.Headers.{tree_header, signatures_header, bitfield_header}
use Rattle.file_format.specs.Belongs.{Buffers, Register}
use Rattle.checks.specs.Checks.{Check, judged, holds}

-- "14. A buffer to be written is shorter than the result needs.": a header takes 32 bytes, and the data file has none
unfoldable pub start_checks : Buffers → List Check
start_checks b =
    record { number = 14; right = holds b.tree 32 } ∷ record { number = 14; right = holds b.signatures 32 }
    ∷ record { number = 14; right = holds b.bitfield 32 } ∷ []

unfoldable pub start_verdict : Buffers → Verdict
start_verdict b = judged (start_checks b) done

-- the buffers with the headers written, other bytes as they were
unfoldable pub started : Buffers → Buffers
started b =
    record {
      tree = put b.tree 0 tree_header;
      signatures = put b.signatures 0 signatures_header;
      bitfield = put b.bitfield 0 bitfield_header;
      content = b.content;
    }

-- the register that a start gives: no chunk, no signature, no data
unfoldable pub started_register : Buffers → Register
started_register b =
    record {
      tree = (started b).tree;
      signatures = (started b).signatures;
      bitfield = (started b).bitfield;
      content = (started b).content;
      n = 0;
      s = 0;
      size = 0;
    }

unfoldable pub after_start : Buffers → Buffers
after_start b = unless_refused (start_verdict b) (started b) b
