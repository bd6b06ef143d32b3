-- Each word of the row is rotated.
use Rattle.std.proofs.Common.{◌≡◌, ℕ, ◌^◌, ◌<◌, ◌∙◌, rules}
use lib.Bits.{bit_xor}
use Rattle.std.specs.Int.{w64, rotate_right}
use Rattle.blake2b_compression.specs.Mixing.{rotr}
use Rattle.blake2b_compression.proofs.Rotation.{xor_rotated}
use Rattle.blake2b_compression.proofs.Steps.{rowed}
use Rattle.blake2b_compression.proofs.mixing.xor_rotate.Goals as goal

pub returns : goal.returns
returns c =
    let a = c.args.a in
    let b = c.args.b in
    let by : (x y : ℕ) → x < 2 ^ 64 → y < 2 ^ 64 → rotate_right w64 (bit_xor x y) c.args.n ≡ rotr (bit_xor x y) c.args.n =
    λ x y. xor_rotated x y c.args.n c.requires.0 c.requires.1 in
    rowed (c.rotate_right.ensures ∙ by a.0 b.0 (search rules) (search rules)) (c.rotate_right-2.ensures ∙ by a.1 b.1 (search rules) (search rules))
    (c.rotate_right-3.ensures ∙ by a.2 b.2 (search rules) (search rules)) (c.rotate_right-4.ensures ∙ by a.3 b.3 (search rules) (search rules))
