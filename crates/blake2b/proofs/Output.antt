-- The words and bytes of a state, and a list that is put out over zeros.
-- Assumes nothing.
use mathlib.Core.Path.{◌≡◌, refl, sym, ap, ap₂, ◌∙◌}
use mathlib.Core.List.{List, [], ◌∷◌, ◌++◌, append-nil, append_assoc}
use Prim.Native.Nat.{ℕ, ◌+◌, ◌-◌, ◌*◌, ◌^◌, ◌<◌}
use native.Mathlib.Numerals.{add-one}
use native.Mathlib.Omega.{arith}
use lib.ListN.{length, get_or, take, drop, replicate}
use lib.Seq.{take-suc, length-take-le, take_at, drop_at, take_all}
use borrow.Rule.Slice.PartMut.{put_mid}
use Rattle.std.specs.Int.{w64, to_le_bytes}
use Rattle.std.proofs.lemmas.Nat.{le_bytes_8}
use Rattle.std.proofs.lemmas.List.{drop-replicate}
use Rattle.blake2b.specs.Hash.{input, final, low_bytes, bytes, blake2b}
use Rattle.blake2b.proofs.Laws.{low_bytes_bytes, bytes_length}

-- what std writes as eight bytes
pub word_written : (x : ℕ) → x < 2 ^ 64 → to_le_bytes w64 x ≡ low_bytes 8 x
unfolding low_bytes
word_written x h = le_bytes_8 (low_bytes 8 x) x refl (low_bytes_bytes 8 x) (omega arith)

pub bytes_append : (xs ys : List ℕ) → bytes (xs ++ ys) ≡ bytes xs ++ bytes ys
unfolding bytes
bytes_append [] ys = refl
bytes_append (x ∷ xs) ys = ap (λ (r : List ℕ). low_bytes 8 x ++ r) (bytes_append xs ys) ∙ sym (append_assoc (low_bytes 8 x) (bytes xs) (bytes ys))

-- the bytes of the first i words, over zeros
abbrev pub words_out : List ℕ → ℕ → List ℕ
words_out h i = bytes (take i h) ++ replicate (64 - 8 * i) 0

pub words_none : (h : List ℕ) → replicate 64 0 ≡ words_out h 0
unfolding bytes
words_none h = refl

next_word : (h : List ℕ) (i : ℕ) → i < length h → bytes (take (i + 1) h) ≡ bytes (take i h) ++ low_bytes 8 (get_or h i 0)
unfolding bytes
next_word h i k =
    let x : ℕ = get_or h i 0 in
    ap bytes (ap (λ (n : ℕ). take n h) (add-one i) ∙ take-suc h i 0 k) ∙ bytes_append (take i h) (x ∷ [])
    ∙ ap (λ (us : List ℕ). bytes (take i h) ++ us) (append-nil (low_bytes 8 x))

pub words_more : (h : List ℕ) (i : ℕ) (out b : List ℕ) → length h ≡ 8 → i < 8 → out ≡ words_out h i → b ≡ low_bytes 8 (get_or h i 0)
    → put_mid (8 * i) (8 * i + 8 - 8 * i) out b ≡ words_out h (i + 1)
words_more h i out b l k e f =
    let x : ℕ = get_or h i 0 in
    let front : List ℕ = bytes (take i h) in
    let zeros : List ℕ = replicate (64 - 8 * i) 0 in
    let rest : List ℕ = replicate (64 - 8 * (i + 1)) 0 in
    let m : ℕ = 8 * i + 8 - 8 * i in
    let long : length front ≡ 8 * i = bytes_length (take i h) ∙ ap (λ (n : ℕ). 8 * n) (length-take-le i h (omega arith)) in
    let r : 64 - 8 * i - m ≡ 64 - 8 * (i + 1) = omega arith in
    ap (λ (o : List ℕ). put_mid (8 * i) m o b) e
    ∙ ap₂ (λ (us vs : List ℕ). us ++ (b ++ drop m vs)) (take_at front zeros (8 * i) long) (drop_at front zeros (8 * i) long)
    ∙ ap (λ (us : List ℕ). front ++ (b ++ us)) (drop-replicate m (64 - 8 * i) 0 ∙ ap (λ (n : ℕ). replicate n 0) r)
    ∙ ap (λ (us : List ℕ). front ++ (us ++ rest)) f ∙ sym (append_assoc front (low_bytes 8 x) rest)
    ∙ ap (λ (us : List ℕ). us ++ rest) (sym (next_word h i (omega arith)))

pub words_all : (h : List ℕ) → length h ≡ 8 → words_out h 8 ≡ bytes h
words_all h l = append-nil (bytes (take 8 h)) ∙ ap bytes (take_all 8 h (omega arith))

-- the first j of the bytes over m zeros
abbrev pub over : ℕ → List ℕ → ℕ → List ℕ
over m bs j = take j bs ++ replicate (m - j) 0

-- 32 bytes of the hash: the first half of the last state's bytes
pub half_from : (key d s b r : List ℕ) → s ≡ final 32 (length key) (input key d) → b ≡ bytes s → r ≡ take 32 b → r ≡ blake2b 32 key d
unfolding blake2b
half_from key d s b r e f g = g ∙ ap (λ (x : List ℕ). take 32 x) (f ∙ ap bytes e)
