-- The key's block in front of a message.
-- Assumes nothing.
use mathlib.Core.Path.{◌≡◌, refl, sym, ap, ap₂, ◌∙◌}
use mathlib.Core.Bool.{true, false}
use mathlib.Core.List.{List, [], ◌∷◌, ◌++◌}
use Prim.Native.Nat.{ℕ, zero, suc, ◌+◌, ◌-◌, ◌*◌, ◌/◌, ◌≤◌, ◌<◌, min, max}
use native.Mathlib.Nat.{zero-add}
use native.Mathlib.Omega.{arith}
use lib.ListN.{length, get_or, replicate, length-append, length-replicate, get_or-append}
use Rattle.blake2b_compression.specs.Compression.{F}
use Rattle.blake2b.specs.Hash.{block, blocks, key_block, input, initial, after, final}
use Rattle.blake2b.specs.Inner.{keyed, key_count, onward, absorbed}
use Rattle.blake2b.proofs.Blocks.{block_same, block_body}

-- zeros behind a list change none of its bytes, which are zeros past its end
zeros_at : (m j : ℕ) → get_or (replicate {A = ℕ} m 0) j 0 ≡ 0
zeros_at zero j = refl
zeros_at (suc m) zero = refl
zeros_at (suc m) (suc j) = zeros_at m j

padded_at : (xs : List ℕ) (m j : ℕ) → get_or (xs ++ replicate m 0) j 0 ≡ get_or xs j 0
padded_at [] m j = zeros_at m j
padded_at (x ∷ xs) m zero = refl
padded_at (x ∷ xs) m (suc j) = padded_at xs m j

key_block_lem : (key : List ℕ) → 0 < length key → key_block key ≡ key ++ replicate (128 - length key) 0
unfolding key_block
key_block_lem [] h = absurd (omega arith)
key_block_lem (b ∷ bs) h = refl

module _ (key : List ℕ) (some : 0 < length key) (short : length key ≤ 64) where
  key_length_lem : length (key_block key) ≡ 128
  key_length_lem =
      ap length (key_block_lem key some)
      ∙ simp (length-append, length-replicate) (omega arith)

  -- the first block of the data is the key's
  key_first : (d : List ℕ) → block key 0 ≡ block (input key d) 0
  unfolding input
  key_first d =
      block_same key (key_block key ++ d) 0 0
      (λ j h.
      sym (padded_at key (128 - length key) (0 + j)) ∙ ap (λ (l : List ℕ). get_or l (0 + j) 0) (sym (key_block_lem key some))
      ∙ sym (get_or-append (key_block key) d 0 (0 + j) (omega (arith, key_length_lem))))

-- the message's blocks behind k others
module _ (h front d : List ℕ) (k : ℕ) (long : length front ≡ 128 * k) where
  onward_after : (i : ℕ) → onward (after h (front ++ d) k) (128 * k) d i ≡ after h (front ++ d) (i + k)
  unfolding onward after
  onward_after zero = ap (after h (front ++ d)) (sym (zero-add k))
  onward_after (suc i) =
      let e₁ : suc i + k ≡ suc (i + k) = omega arith in
      let e₂ : 128 * (i + k) - length front ≡ 128 * i = omega arith in
      let e₃ : 128 * k + 128 * (i + 1) ≡ 128 * (i + k + 1) = omega arith in
      let e₄ : block d (128 * i) ≡ block (front ++ d) (128 * (i + k)) =
      ap (block d) (sym e₂) ∙ block_body front d (128 * (i + k)) (omega arith) in
      let e₅ : onward (after h (front ++ d) k) (128 * k) d i ≡ after h (front ++ d) (i + k) = onward_after i in
      rw e₁ (cc)

absorbed_final : (nn kk : ℕ) (front d : List ℕ) (k : ℕ) → length front ≡ 128 * k → min k 1 ≤ length d
    → absorbed (after (initial nn kk) (front ++ d) k) (128 * k) d ≡ final nn kk (front ++ d)
unfolding absorbed final blocks
absorbed_final nn kk front d k long some =
    let m : ℕ = max 1 ((length d + 127) / 128) - 1 in
    let e₀ : length (front ++ d) ≡ 128 * k + length d = length-append front d ∙ ap (λ (i : ℕ). i + length d) long in
    let e₁ : max 1 ((128 * k + length d + 127) / 128) - 1 ≡ m + k = omega arith in
    let e₂ : 128 * (m + k) - length front ≡ 128 * m = omega arith in
    let e₃ : block d (128 * m) ≡ block (front ++ d) (128 * (m + k)) =
    ap (block d) (sym e₂) ∙ block_body front d (128 * (m + k)) (omega arith) in
    rw (e₀, e₁) (cc (onward_after (initial nn kk) front d k long m))

-- the last state without a key
keyless : (nn : ℕ) (d r : List ℕ) → r ≡ absorbed (initial nn 0) 0 d → r ≡ final nn 0 d
unfolding after
keyless nn d r g = g ∙ absorbed_final nn 0 [] d 0 refl (omega arith)

module _ (nn : ℕ) (key d s : List ℕ) (some : 0 < length key) (short : length key ≤ 64) (e : s ≡ initial nn (length key)) where
  -- the last state under a key where the message is empty: the key's block is the last
  pub key_alone : (r : List ℕ) → length d ≡ 0 → r ≡ F s (block key 0) 128 true → r ≡ final nn (length key) (input key d)
  unfolding final blocks after input
  key_alone r none f =
      let e₀ : length (key_block key ++ d) ≡ 128 = length-append (key_block key) d ∙ omega (arith, key_length_lem key some short) in
      rw e₀ (f ∙ cc (key_first key some short d))

  -- and where it is not
  key_before : (m r : List ℕ) → 0 < length d → m ≡ F s (block key 0) 128 false → r ≡ absorbed m 128 d
      → r ≡ final nn (length key) (input key d)
  unfolding input after
  key_before m r more f g =
      let e₁ : m ≡ after (initial nn (length key)) (key_block key ++ d) 1 = f ∙ cc (key_first key some short d) in
      g ∙ ap (λ (x : List ℕ). absorbed x 128 d) e₁ ∙ absorbed_final nn (length key) (key_block key) d 1 (key_length_lem key some short) (omega arith)

-- the last state where the key's block, if there is one, is not the last
pub key_then_message : (nn : ℕ) (key d s m : List ℕ) (front : ℕ) (r : List ℕ) → length key ≤ 64 → (0 < length key → 0 < length d)
    → s ≡ initial nn (length key) → m ≡ keyed s key → front ≡ key_count key → r ≡ absorbed m front d → r ≡ final nn (length key) (input key d)
unfolding input key_block keyed key_count
key_then_message nn [] d s m front r short more e f c g =
    keyless nn d r (g ∙ ap₂ (λ (x : List ℕ) (i : ℕ). absorbed x i d) (f ∙ e) c)
key_then_message nn (b ∷ bs) d s m front r short more e f c g =
    let some : 0 < length (b ∷ bs) = omega arith in
    key_before nn (b ∷ bs) d s some short e m r (more some) f (g ∙ ap (λ (i : ℕ). absorbed m i d) c)

-- what `absorb_key` leaves and answers, by whether there is a key
pub no_key : (h key : List ℕ) → length key ≡ 0 → (h ≡ keyed h key) × (0 ≡ key_count key)
unfolding keyed key_count
no_key h [] e = (refl, refl)
no_key h (b ∷ bs) e = absurd (omega arith)

pub some_key : (h key r : List ℕ) → 0 < length key → r ≡ F h (block key 0) 128 false → (r ≡ keyed h key) × (128 ≡ key_count key)
unfolding keyed key_count
some_key h [] r e f = absurd (omega arith)
some_key h (b ∷ bs) r e f = (f, refl)
