-- What a call on a register is given, and its checks number by number.
use Rattle.std.specs.Prelude.{ℕ, Bool, ◌&&◌, List}
use Rattle.file_format.specs.Headers.{tree_header, signatures_header, bitfield_header}
use Rattle.file_format.specs.Sizes.{used_tree, used_signatures, used_bitfield}
use Rattle.file_format.specs.Belongs.{Register}
use Rattle.checks.specs.Checks.{holds, headed}

-- the four images that a call is lent, and n, s and the data size that it is told
abbrev pub register_of : List ℕ → List ℕ → List ℕ → List ℕ → ℕ → ℕ → ℕ → Register
register_of tree signatures bitfield content n s size =
    record { tree = tree; signatures = signatures; bitfield = bitfield; content = content; n = n; s = s; size = size }

-- number 4: all four buffers are long enough
unfoldable pub long_right : Register → Bool
long_right r =
    holds r.tree (used_tree r.n)
    && (holds r.signatures (used_signatures r.s) && (holds r.bitfield (used_bitfield r.n) && holds r.content r.size))

-- number 5: all three headers stand
unfoldable pub heads_right : List ℕ → List ℕ → List ℕ → Bool
heads_right tree signatures bitfield =
    headed tree tree_header && (headed signatures signatures_header && headed bitfield bitfield_header)
