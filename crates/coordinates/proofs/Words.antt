-- Words, their differences and the way back. Assumes nothing.
use Rattle.std.proofs.Common.{◌≡◌, ℕ, zero, suc, ◌+◌, ◌-◌, ◌*◌, ◌%◌, ◌^◌, ◌<◌, ◌≤◌, List, [], ◌∷◌, ◌++◌, length, get_or, sym, refl, ap, ◌∙◌, subst, mul_comm, zero-add, add-one, arith}
use Rattle.byte_strings.specs.Lists.{Bytes, part, put, run, joined}
use Rattle.byte_strings.specs.Numbers.{be, number, number_from}
use Rattle.byte_strings.proofs.Lists.{length_run, length_joined, joined_run_suc, put_nil, put_append, bytes_run}
use Rattle.byte_strings.proofs.Numbers.{length_be, four_lt, number_lt}
use Rattle.coordinates.specs.Grouping.{count, word, words, difference, remaining, gathered, restored, ungrouped}

-- the word before word i, as a loop keeps it: 0 before the first
unfoldable pub prior : (ℕ → ℕ) → ℕ → ℕ
prior w zero = 0
prior w (suc i) = w i

pub prior_next : (w : ℕ → ℕ) (i : ℕ) → prior w (i + 1) ≡ w i
unfolding prior
prior_next w i = ap (prior w) (add-one i)

-- all words lie within
pub words_inside : (d : List ℕ) (i : ℕ) → i < count d → 4 * i + 4 ≤ length d
unfolding count
words_inside d i h = omega arith

pub all_inside : (d : List ℕ) → 4 * count d ≤ length d
unfolding count
all_inside d = omega arith

pub length_words : (w : ℕ → ℕ) (n : ℕ) → length (words w n) ≡ 4 * n
unfolding words
length_words w n = length_joined (λ i. be 4 (w i)) 4 (λ i. length_be 4 (w i)) 0 n ∙ mul_comm n 4

pub words_none : (out : List ℕ) (w : ℕ → ℕ) → put out 0 (words w 0) ≡ out
unfolding words run joined
words_none out w = put_nil out 0

words_suc : (w : ℕ → ℕ) (i : ℕ) → words w i ++ be 4 (w i) ≡ words w (i + 1)
unfolding words
words_suc w i =
    ap (λ (j : ℕ). joined (run (λ j. be 4 (w j)) 0 i) ++ be 4 (w j)) (sym (zero-add i))
    ∙ sym (joined_run_suc (λ j. be 4 (w j)) 0 i) ∙ ap (λ (k : ℕ). joined (run (λ j. be 4 (w j)) 0 k)) (sym (add-one i))

-- one word more behind those that stand at the front
pub words_more : (out : List ℕ) (w : ℕ → ℕ) (i : ℕ) → put (put out 0 (words w i)) (4 * i) (be 4 (w i)) ≡ put out 0 (words w (i + 1))
words_more out w i =
    ap (λ (k : ℕ). put (put out 0 (words w i)) k (be 4 (w i))) (sym (zero-add (length (words w i)) ∙ length_words w i))
    ∙ put_append out 0 (words w i) (be 4 (w i)) (omega arith) ∙ ap (put out 0) (words_suc w i)

pub word_is : (d : List ℕ) (i r : ℕ) → r ≡ number (part d (4 * i) 4) → r ≡ word d i
unfolding word
word_is d i r e = e

pub word_lt : (d : List ℕ) (i : ℕ) → Bytes d → i < count d → word d i < 2 ^ 32
unfolding word
word_lt d i p h = four_lt d (4 * i) p (words_inside d i h)

pub gathered_lt : (g : List ℕ) (i : ℕ) → Bytes g → gathered g i < 2 ^ 32
unfolding gathered
gathered_lt g i p =
    let f : ℕ → ℕ = λ k. get_or g (k * count g + i) 0 in
    subst (λ (n : ℕ). number (run f 0 4) < 256 ^ n) (length_run f 0 4) (number_lt (run f 0 4) (bytes_run f 0 4 (λ k. p (k * count g + i))))

four_bytes : (a b c d : ℕ) → ((d + c * 256) + b * 65536) + a * 16777216 ≡ number (a ∷ b ∷ c ∷ d ∷ [])
unfolding number number_from
four_bytes a b c d = omega arith

-- the four bytes, one of each plane
pub gathered_four : (g : List ℕ) (n i : ℕ) → n ≡ count g
    → ((get_or g (3 * n + i) 0 + get_or g (2 * n + i) 0 * 256) + get_or g (n + i) 0 * 65536) + get_or g i 0 * 16777216 ≡ gathered g i
unfolding gathered run
gathered_four g n i e =
    let e₀ : i ≡ 0 * count g + i = omega arith in
    let e₁ : n + i ≡ 1 * count g + i = omega arith in
    let e₂ : 2 * n + i ≡ 2 * count g + i = omega arith in
    let e₃ : 3 * n + i ≡ 3 * count g + i = omega arith in
    four_bytes (get_or g i 0) (get_or g (n + i) 0) (get_or g (2 * n + i) 0) (get_or g (3 * n + i) 0) ∙ (cc)

-- a difference that wraps is the definition's
pub difference_is : (d : List ℕ) (i x b r : ℕ) → b ≡ prior (word d) i → x ≡ word d i → x < 2 ^ 32 → b < 2 ^ 32 → r ≡ (x + (2 ^ 32 - b)) % 2 ^ 32
    → r ≡ difference d i
unfolding difference prior
difference_is d zero x b r e f hx hb s = omega arith
difference_is d (suc i) x b r e f hx hb s = omega arith

pub difference_lt : (d : List ℕ) (i : ℕ) → Bytes d → i < count d → difference d i < 2 ^ 32
unfolding difference
difference_lt d zero p h = word_lt d zero p h
difference_lt d (suc i) p h = omega arith

-- a sum that wraps is the definition's
pub restored_is : (g : List ℕ) (i r b : ℕ) → b ≡ prior (restored g) i → gathered g i < 2 ^ 32 → r ≡ (b + gathered g i) % 2 ^ 32 → r ≡ restored g i
unfolding restored prior
restored_is g zero r b e h s = omega arith
restored_is g (suc i) r b e h s = s ∙ ap (λ (x : ℕ). (x + gathered g (suc i)) % 2 ^ 32) e

pub restored_lt : (g : List ℕ) (i : ℕ) → Bytes g → restored g i < 2 ^ 32
unfolding restored
restored_lt g zero p = gathered_lt g zero p
restored_lt g (suc i) p = omega arith

pub ungrouped_is : (g : List ℕ) → ungrouped g ≡ words (restored g) (count g) ++ remaining g
unfolding ungrouped
ungrouped_is g = refl
