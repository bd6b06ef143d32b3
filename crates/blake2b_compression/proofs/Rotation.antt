-- std's rotation, by two shifts whose bits do not meet, is `rotr x n`.
use Rattle.std.proofs.Common.{◌≡◌, ℕ, ◌+◌, ◌-◌, ◌*◌, ◌/◌, ◌%◌, ◌^◌, ◌<◌, ap, ◌∙◌, subst, ap₂, add-zero, mul-div_cancel, arith, pow_pos, shr_lt}
use native.Mathlib.Nat.{mul-mod_left}
use lib.Bits.{bit_or, bit_xor, or_shifted_r, xor_lt}
use lib.Pow.{mod-pow-add}
use Rattle.std.specs.Int.{w64, rotate_right}
use Rattle.blake2b_compression.specs.Mixing.{rotr}

-- the bits that a shift to the left keeps are the low ones
kept : (x n k : ℕ) → x * 2 ^ k % 2 ^ (n + k) ≡ (x % 2 ^ n) * 2 ^ k
kept x n k =
    mod-pow-add (x * 2 ^ k) n k
    ∙ ap₂ (λ (q r : ℕ). (q % 2 ^ n) * 2 ^ k + r) (mul-div_cancel x (pow_pos k)) (mul-mod_left x (2 ^ k))
    ∙ add-zero ((x % 2 ^ n) * 2 ^ k)

-- at any width n + k
joined : (x n k : ℕ) → x < 2 ^ (k + n) → bit_or (x / 2 ^ n) (x * 2 ^ k % 2 ^ (n + k)) ≡ (x % 2 ^ n) * 2 ^ k + x / 2 ^ n
joined x n k h = ap (bit_or (x / 2 ^ n)) (kept x n k) ∙ or_shifted_r (x % 2 ^ n) k (x / 2 ^ n) (shr_lt k n h)

shifted : (x n : ℕ) → n < 64 → x < 2 ^ 64 → bit_or (x / 2 ^ n) (x * 2 ^ (64 - n) % 2 ^ 64) ≡ rotr x n
unfolding rotr
shifted x n h fits =
    let right : n + (64 - n) ≡ 64 = omega arith in
    let left : 64 ≡ (64 - n) + n = omega arith in
    subst (λ (w : ℕ). bit_or (x / 2 ^ n) (x * 2 ^ (64 - n) % 2 ^ w) ≡ (x % 2 ^ n) * 2 ^ (64 - n) + x / 2 ^ n) right
    (joined x n (64 - n) (subst (λ (w : ℕ). x < 2 ^ w) left fits))

rotated : (x n : ℕ) → 0 < n → n < 64 → x < 2 ^ 64 → rotate_right w64 x n ≡ rotr x n
rotated x n some h fits =
    let e₁ : n % 64 ≡ n = omega arith in
    let e₂ : (64 - n % 64) % 64 ≡ 64 - n = omega arith in
    ap₂ (λ (i j : ℕ). bit_or (x / 2 ^ i) (x * 2 ^ j % 2 ^ 64)) e₁ e₂ ∙ shifted x n h fits

pub xor_rotated : (x y n : ℕ) → 0 < n → n < 64 → x < 2 ^ 64 → y < 2 ^ 64 → rotate_right w64 (bit_xor x y) n ≡ rotr (bit_xor x y) n
xor_rotated x y n some h fits fits₂ = rotated (bit_xor x y) n some h (xor_lt 64 x y fits fits₂)
