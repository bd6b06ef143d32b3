-- "Make a copy for a count and a data size with headers, zero entries, zero bits and zero data". "Making it refuses with 2 and 14 only."
use Rattle.std.specs.Prelude.{◌+◌, ◌*◌, ◌≤◌, ◌≡◌, List, [], ◌∷◌, ◌++◌, length}
use Rattle.answer_types.specs.Verdict.{Verdict, done, unless_refused}
use Rattle.byte_strings.specs.Lists.{put, zeros}
use Rattle.tree_index.specs.Tree.{entries}
use Rattle.bitfield.specs.Image.{entry_count}
use Rattle.file_format.specs.Headers.{tree_header, bitfield_header}
use Rattle.file_format.specs.Sizes.{most_chunks, used_tree, used_bitfield}
use Rattle.checks.specs.Checks.{Check, judged, count_right, holds}
use Rattle.copy_checks.specs.Copy.{Copy, Files, files_of}

-- 2, and 14 for each file that is written
unfoldable pub make_checks : Copy → List Check
make_checks c =
    record { number = 2; right = count_right c.n }
    ∷ record { number = 14; right = holds c.tree (used_tree c.n) }
    ∷ record { number = 14; right = holds c.bitfield (used_bitfield c.n) }
    ∷ record { number = 14; right = holds c.content c.size } ∷ []

unfoldable pub make_verdict : Copy → Verdict
make_verdict c = judged (make_checks c) done

-- the files of the new copy stand at the front of the lent buffers; what lies behind the used sizes stays
unfoldable pub made_copy : Copy → Copy
made_copy c =
    record {
      tree = put c.tree 0 (tree_header ++ zeros (40 * entries c.n));
      bitfield = put c.bitfield 0 (bitfield_header ++ zeros (3328 * entry_count c.n));
      content = put c.content 0 (zeros c.size);
      n = c.n;
      size = c.size;
    }

unfoldable pub after_making : Copy → Files
after_making c = unless_refused (make_verdict c) (files_of (made_copy c)) (files_of c)

-- what the call ensures, on every input: the answer, and the later content of the lent buffers
pub record MakePost (c : Copy) (v : Verdict) (left : Files) : Type 0 where
  pub answer : v ≡ make_verdict c
  pub files : left ≡ after_making c

-- what the inner part requires: room for the files
pub record Roomy (c : Copy) : Type 0 where
  pub count : c.n ≤ most_chunks
  pub tree : used_tree c.n ≤ length c.tree
  pub bitfield : used_bitfield c.n ≤ length c.bitfield
  pub content : c.size ≤ length c.content
