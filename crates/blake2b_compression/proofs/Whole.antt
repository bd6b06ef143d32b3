-- The compression's parts put together.
use Rattle.std.proofs.Common.{◌≡◌, ℕ, zero, suc, ◌+◌, ◌*◌, ◌/◌, ◌%◌, ◌^◌, ◌<◌, Bool, List, []}
use Rattle.std.proofs.Common.{◌∷◌, ◌++◌, length, drop, sym, ap, ◌∙◌, ap₂, mod-eq_of_lt, zero-add, arith, lit<, drop_of_length-le, drop-cons}
use native.Mathlib.Nat.{div-eq_of_lt, add-mul-div_left, add-mul-mod_self_left}
use lib.Bits.{bit_xor}
use Rattle.blake2b_compression.specs.Constants.{IV}
use Rattle.blake2b_compression.specs.Mixing.{at}
use Rattle.blake2b_compression.specs.Compression.{round, row, rounds, flagged, start, folded, F}

-- the words of a list, one after the other
words : ℕ → ℕ → List ℕ → List ℕ
words i zero h = []
words i (suc k) h = at h i ∷ words (suc i) k h

words_all : (i k : ℕ) (h : List ℕ) → length h ≡ i + k → words i k h ≡ drop i h
unfolding words
words_all i zero h e = sym (drop_of_length-le h {i = i} (omega arith))
words_all i (suc k) h e = ap (λ (t : List ℕ). at h i ∷ t) (words_all (suc i) k h (omega arith)) ∙ sym (drop-cons h i 0 (omega arith))

-- a list of eight words is written out by its words
pub eight_words : (h : List ℕ) → length h ≡ 8 → at h 0 ∷ at h 1 ∷ at h 2 ∷ at h 3 ∷ at h 4 ∷ at h 5 ∷ at h 6 ∷ at h 7 ∷ [] ≡ h
unfolding words
eight_words h e = words_all 0 8 h e

-- IV with p, q and r for its words 4, 5 and 6 behind eight words of the state
abbrev behind : List ℕ → ℕ → ℕ → ℕ → List ℕ
behind h p q r = h ++ at IV 0 ∷ at IV 1 ∷ at IV 2 ∷ at IV 3 ∷ p ∷ q ∷ r ∷ at IV 7 ∷ []

-- a counter's two words, each put in at its place
begun : (h0 h1 h2 h3 h4 h5 h6 h7 t u : ℕ) (f : Bool) {r : ℕ} →
    let h : List ℕ = h0 ∷ h1 ∷ h2 ∷ h3 ∷ h4 ∷ h5 ∷ h6 ∷ h7 ∷ [] in
    t < 2 ^ 64 → u < 2 ^ 64 → r ≡ flagged f (at IV 6)
    → behind h (bit_xor (at IV 4) t) (bit_xor (at IV 5) u) r ≡ start h (t + 2 ^ 64 * u) f
unfolding start IV
begun h0 h1 h2 h3 h4 h5 h6 h7 t u f {r} fits fits₂ e =
    let h : List ℕ = h0 ∷ h1 ∷ h2 ∷ h3 ∷ h4 ∷ h5 ∷ h6 ∷ h7 ∷ [] in
    let low : t ≡ (t + 2 ^ 64 * u) % 2 ^ 64 = sym (add-mul-mod_self_left t (2 ^ 64) u ∙ mod-eq_of_lt fits) in
    let above : (t + 2 ^ 64 * u) / 2 ^ 64 ≡ u =
    add-mul-div_left t u {y = 2 ^ 64} (lit< tt) ∙ ap (λ (i : ℕ). i + u) (div-eq_of_lt fits) ∙ zero-add u in
    let high : u ≡ (t + 2 ^ 64 * u) / 2 ^ 64 % 2 ^ 64 = sym (ap (λ (i : ℕ). i % 2 ^ 64) above ∙ mod-eq_of_lt fits₂) in
    ap₂ (λ (p q : ℕ). behind h (bit_xor (at IV 4) p) (bit_xor (at IV 5) q) r) low high
    ∙ ap (behind h (bit_xor (at IV 4) ((t + 2 ^ 64 * u) % 2 ^ 64)) (bit_xor (at IV 5) ((t + 2 ^ 64 * u) / 2 ^ 64 % 2 ^ 64))) e

-- the same of a state that is a list of eight words
pub started : (h : List ℕ) (t u : ℕ) (f : Bool) {r : ℕ} → length h ≡ 8 → t < 2 ^ 64 → u < 2 ^ 64 → r ≡ flagged f (at IV 6)
    → behind (at h 0 ∷ at h 1 ∷ at h 2 ∷ at h 3 ∷ at h 4 ∷ at h 5 ∷ at h 6 ∷ at h 7 ∷ []) (bit_xor (at IV 4) t) (bit_xor (at IV 5) u) r
    ≡ start h (t + 2 ^ 64 * u) f
started h t u f l fits fits₂ e =
    begun (at h 0) (at h 1) (at h 2) (at h 3) (at h 4) (at h 5) (at h 6) (at h 7) t u f fits fits₂ e
    ∙ ap (λ (w : List ℕ). start w (t + 2 ^ 64 * u) f) (eight_words h l)

-- the twelve rounds, from the vector after each; the last two have the rows of the first two
pub twelve : (m v₀ : List ℕ) {v₁ v₂ v₃ v₄ v₅ v₆ v₇ v₈ v₉ v₁₀ v₁₁ v₁₂ : List ℕ}
    → v₁ ≡ round (row 0) m v₀
    → v₂ ≡ round (row 1) m v₁
    → v₃ ≡ round (row 2) m v₂
    → v₄ ≡ round (row 3) m v₃
    → v₅ ≡ round (row 4) m v₄
    → v₆ ≡ round (row 5) m v₅
    → v₇ ≡ round (row 6) m v₆
    → v₈ ≡ round (row 7) m v₇
    → v₉ ≡ round (row 8) m v₈
    → v₁₀ ≡ round (row 9) m v₉
    → v₁₁ ≡ round (row 0) m v₁₀
    → v₁₂ ≡ round (row 1) m v₁₁
    → v₁₂ ≡ rounds 12 m v₀
unfolding rounds row
twelve m v₀ e₁ e₂ e₃ e₄ e₅ e₆ e₇ e₈ e₉ e₁₀ e₁₁ e₁₂ =
    rw (e₁₂, e₁₁, e₁₀, e₉, e₈, e₇, e₆, e₅, e₄, e₃, e₂, e₁)

-- F, from the vector before the rounds and after them
pub compressed : (h m : List ℕ) (t : ℕ) (f : Bool) {w v : List ℕ} → w ≡ start h t f → v ≡ rounds 12 m w
    → folded h v 0 ∷ folded h v 1 ∷ folded h v 2 ∷ folded h v 3 ∷ folded h v 4 ∷ folded h v 5 ∷ folded h v 6 ∷ folded h v 7 ∷ []
    ≡ F h m t f
unfolding F
compressed h m t f e₁ e₂ = rw (e₂, e₁)
