-- Blocks by their bytes, and the states after them by the number of a block.
-- Assumes nothing.
use mathlib.Core.Path.{◌≡◌, sym, ap, ◌∙◌}
use mathlib.Core.Bool.{Bool, true, false}
use mathlib.Core.List.{List, ◌++◌}
use Prim.Native.Nat.{ℕ, suc, ◌+◌, ◌-◌, ◌*◌, ◌/◌, ◌≤◌, ◌<◌, max}
use native.Mathlib.Nat.{add-zero, zero-add, add_assoc}
use native.Mathlib.Numerals.{add-one}
use native.Mathlib.Omega.{arith}
use lib.ListN.{length, get_or}
use lib.Seq.{get_or-append-add}
use Rattle.blake2b_compression.specs.Compression.{F}
use Rattle.blake2b.specs.Inner.{Piece, onward, absorbed}
use Rattle.blake2b.specs.Hash.{word_at, block, blocks}

-- a word is made of the eight bytes from its place on, and of nothing else
word_same : (x y : List ℕ) (a b : ℕ) → ((j : ℕ) → j < 8 → get_or x (a + j) 0 ≡ get_or y (b + j) 0) → word_at x a ≡ word_at y b
unfolding word_at
word_same x y a b h =
    let h₀ : get_or x a 0 ≡ get_or y b 0 = simp add-zero at (h 0 (omega arith)) in
    cc (h₀, h 1 (omega arith), h 2 (omega arith), h 3 (omega arith), h 4 (omega arith), h 5 (omega arith), h 6 (omega arith), h 7 (omega arith))

-- a block is made of the 128 bytes from its place on
module _ (x y : List ℕ) (a b : ℕ) (same : (j : ℕ) → j < 128 → get_or x (a + j) 0 ≡ get_or y (b + j) 0) where
  part_same : (i : ℕ) → i ≤ 120 → word_at x (a + i) ≡ word_at y (b + i)
  part_same i h = word_same x y (a + i) (b + i) (λ j k. rw (add_assoc a, add_assoc b) (same (i + j) (omega arith)))

  pub block_same : block x a ≡ block y b
  unfolding block
  block_same =
      let h₀ : word_at x a ≡ word_at y b = simp add-zero at (part_same 0 (omega arith)) in
      cc (
        h₀,
        part_same 8 (omega arith),
        part_same 16 (omega arith),
        part_same 24 (omega arith),
        part_same 32 (omega arith),
        part_same 40 (omega arith),
        part_same 48
            (omega arith),
        part_same 56 (omega arith),
        part_same 64 (omega arith),
        part_same 72 (omega arith),
        part_same 80 (omega arith),
        part_same 88 (omega arith),
        part_same 96
            (omega arith),
        part_same 104 (omega arith),
        part_same 112 (omega arith),
        part_same 120 (omega arith),
      )

-- a block past the prefix stands in the body
pub block_body : (x y : List ℕ) (p : ℕ) → length x ≤ p → block y (p - length x) ≡ block (x ++ y) p
block_body x y p h =
    block_same y (x ++ y) (p - length x) p
    (λ j k.
    let e : length x + (p - length x + j) ≡ p + j = omega arith in
    sym (get_or-append-add x y (p - length x + j) 0) ∙ ap (λ (i : ℕ). get_or (x ++ y) i 0) e)

-- a block that was gathered has the words of the message
pub block_piece : (d : List ℕ) (p : ℕ) (r : List ℕ) → Piece d p r → block r 0 ≡ block d p
block_piece d p r h = block_same r d 0 p (λ j k. ap (λ (i : ℕ). get_or r i 0) (zero-add j) ∙ h.holds j k)

-- a block goes in, whose words are those of another
pub of_block : (h b m : List ℕ) (t : ℕ) (f : Bool) {r : List ℕ} → r ≡ F h b t f → b ≡ m → r ≡ F h m t f
of_block h b m t f e g = e ∙ ap (λ (x : List ℕ). F h x t f) g

-- a block goes in with a count that is another's
pub of_count : (h b : List ℕ) (t n : ℕ) (f : Bool) {r : List ℕ} → r ≡ F h b t f → t ≡ n → r ≡ F h b n f
of_count h b t n f e g = e ∙ ap (λ (x : ℕ). F h b x f) g

-- a block goes in, which is not the last
pub onward_more : (h : List ℕ) (t : ℕ) (d : List ℕ) (i : ℕ) (s r : List ℕ) → s ≡ onward h t d i
    → r ≡ F s (block d (128 * i)) (t + (128 * i + 128)) false → r ≡ onward h t d (i + 1)
unfolding onward
onward_more h t d i s r f g =
    let e₁ : i + 1 ≡ suc i = add-one i in
    let e₂ : 128 * (i + 1) ≡ 128 * i + 128 = omega arith in
    cc

-- the last block goes in, which holds the rest
pub absorbed_last : (h : List ℕ) (t : ℕ) (d : List ℕ) (last n : ℕ) (s r : List ℕ) → n ≡ length d → last ≡ (n - 1) / 128
    → s ≡ onward h t d last → r ≡ F s (block d (128 * last)) (t + n) true → r ≡ absorbed h t d
unfolding absorbed blocks
absorbed_last h t d last n s r l k f g =
    let e₁ : max 1 ((length d + 127) / 128) - 1 ≡ last = omega arith in
    rw e₁ (cc)
