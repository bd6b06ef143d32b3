-- The checks of a call on a copy, in their order.
use Rattle.std.specs.Prelude.{Bool, true, List, [], ◌∷◌}
use Rattle.answer_types.specs.Verdict.{Verdict, tree}
use Rattle.byte_strings.specs.Lowest.{Lowest, nowhere, first}
use Rattle.tree_index.specs.Tree.{roots}
use Rattle.file_format.specs.Headers.{tree_header, bitfield_header}
use Rattle.file_format.specs.Sizes.{used_tree, used_bitfield}
use Rattle.checks.specs.Checks.{Check, judged, count_right, holds, headed, adds_up}
use Rattle.audit.specs.Audit.{refused_at}
use Rattle.lookup.specs.Unknown.{first_unknown}
use Rattle.copy_checks.specs.Copy.{Copy, known}

-- numbers 2, 4 and 5; "it has no signatures file and no s", so there is no 3
unfoldable pub lent_checks : Copy → List Check
lent_checks c =
    record { number = 2; right = count_right c.n }
    ∷ record { number = 4; right = holds c.tree (used_tree c.n) }
    ∷ record { number = 4; right = holds c.bitfield (used_bitfield c.n) }
    ∷ record { number = 4; right = holds c.content c.size }
    ∷ record { number = 5; right = headed c.tree tree_header }
    ∷ record { number = 5; right = headed c.bitfield bitfield_header } ∷ []

-- "a root, from the left": the first that is not known
unfoldable pub unknown_root : Copy → Lowest
unknown_root c = first_unknown (known c) (roots c.n)

-- number 6, by its test
abbrev pub size_check : Bool → List Check
size_check right = record { number = 6; right = right } ∷ []

-- it is passed over where an unknown root was found
abbrev pub passed_over : Lowest → Bool → Bool
passed_over nowhere right = right
passed_over (first i) right = true

-- "20 another call on such a copy that would read an unknown entry, which is the place: a root, from the left, just before 6": the checks of every call
-- on a copy but these two, and what comes next
unfoldable pub copy_judged : Copy → Verdict → Verdict
copy_judged c next =
    judged (lent_checks c)
    (refused_at 20 tree (unknown_root c) (judged (size_check (adds_up c.tree c.n c.size)) next))

-- "This audit and the taking in pass over 6 while a root is unknown."
unfoldable pub partly_judged : Copy → Verdict → Verdict
partly_judged c next =
    judged (lent_checks c) (judged (size_check (passed_over (unknown_root c) (adds_up c.tree c.n c.size))) next)
