-- The code's checks, number by number.
use Rattle.std.specs.Prelude.{ℕ, Bool, ◌&&◌, List}
use Rattle.file_format.specs.Headers.{tree_header, bitfield_header}
use Rattle.file_format.specs.Sizes.{used_tree, used_bitfield}
use Rattle.checks.specs.Checks.{holds, headed}
use Rattle.copy_checks.specs.Copy.{Copy}

-- number 4: all three files are long enough
unfoldable pub long_right : Copy → Bool
long_right c = holds c.tree (used_tree c.n) && (holds c.bitfield (used_bitfield c.n) && holds c.content c.size)

-- number 5: both headers stand
unfoldable pub heads_right : List ℕ → List ℕ → Bool
heads_right tree bitfield = headed tree tree_header && headed bitfield bitfield_header
