-- Bytes put one behind another. Assumes nothing.
use Prim.Native.Nat.{ℕ, zero, suc, ◌+◌, ◌*◌, ◌≤◌, ◌<◌}
use native.Mathlib.Omega.{arith}
use native.Mathlib.Numerals.{add-one}
use mathlib.Core.Path.{◌≡◌, refl, sym, ap, ap₂, ◌∙◌}
use mathlib.Core.List.{List, [], ◌∷◌, ◌++◌, append_assoc, append-nil}
use lib.ListN.{length, get_or, take, length-append}
use lib.Seq.{take-suc}
use Rattle.byte_strings.specs.Lists.{put, zeros}
use Rattle.byte_strings.specs.Numbers.{be}
use Rattle.byte_strings.proofs.Lists.{put_append, put_nil, length_put}
use Rattle.byte_strings.proofs.Numbers.{length_be}
use Rattle.journal.specs.Form.{magic, words, header}
use Rattle.journal.proofs.Lengths.{words_length}
use Rattle.journal_making.specs.Making.{range_bytes}

-- bytes put behind others
pub put_next : (xs : List ℕ) (at : ℕ) (ys zs : List ℕ) (p : ℕ) → p ≡ at + length ys → at ≤ length xs → put (put xs at ys) p zs ≡ put xs at (ys ++ zs)
put_next xs at ys zs p e h = ap (λ (n : ℕ). put (put xs at ys) n zs) e ∙ put_append xs at ys zs h

-- ---- a range

module _ (j : List ℕ) (q file kind at size : ℕ) (old new : List ℕ) (h : q ≤ length j) where
  pub five_puts : (a b c d e place long : List ℕ) → place ≡ be 8 at → long ≡ be 8 size → a ≡ put j q (file ∷ kind ∷ []) → b ≡ put a (q + 2) place → c ≡ put b (q + 10) long
      → d ≡ put c (q + 18) old → e ≡ put d (q + 18 + length old) new → e ≡ put j q (range_bytes file kind at size old new)
  unfolding range_bytes header
  five_puts a b c d e place long pe le ae be' ce de ee =
      let b' : b ≡ put j q ((file ∷ kind ∷ []) ++ be 8 at) = be' ∙ ap₂ (λ (x y : List ℕ). put x (q + 2) y) ae pe ∙ put_next j q (file ∷ kind ∷ []) (be 8 at) (q + 2) refl h in
      let c' : c ≡ put j q (((file ∷ kind ∷ []) ++ be 8 at) ++ be 8 size) =
      ce ∙ ap₂ (λ (x y : List ℕ). put x (q + 10) y) b' le
      ∙ put_next j q ((file ∷ kind ∷ []) ++ be 8 at) (be 8 size) (q + 10) (omega (arith, length-append (file ∷ kind ∷ []) (be 8 at), length_be 8 at)) h in
      let d' : d ≡ put j q ((((file ∷ kind ∷ []) ++ be 8 at) ++ be 8 size) ++ old) =
      de ∙ ap (λ (x : List ℕ). put x (q + 18) old) c'
      ∙ put_next j q (((file ∷ kind ∷ []) ++ be 8 at) ++ be 8 size) old (q + 18)
      (omega (arith, length-append ((file ∷ kind ∷ []) ++ be 8 at) (be 8 size), length-append (file ∷ kind ∷ []) (be 8 at), length_be 8 at, length_be 8 size)) h in
      ee ∙ ap (λ (x : List ℕ). put x (q + 18 + length old) new) d'
      ∙ put_next j q ((((file ∷ kind ∷ []) ++ be 8 at) ++ be 8 size) ++ old) new (q + 18 + length old)
      (omega (
        arith,
        length-append (((file ∷ kind ∷ []) ++ be 8 at) ++ be 8 size) old,
        length-append ((file ∷ kind ∷ []) ++ be 8 at) (be 8 size),
        length-append (file ∷ kind ∷ [])
            (be 8 at),
        length_be 8 at,
        length_be 8 size,
      )) h
      ∙ ap (put j q) (append_assoc ((file ∷ kind ∷ []) ++ (be 8 at ++ be 8 size)) old new)

-- ---- words

words_append : (xs ys : List ℕ) → words (xs ++ ys) ≡ words xs ++ words ys
unfolding words
words_append [] ys = refl
words_append (x ∷ xs) ys = ap (λ (z : List ℕ). be 8 x ++ z) (words_append xs ys) ∙ sym (append_assoc (be 8 x) (words xs) (words ys))

pub words_none : (j : List ℕ) (q : ℕ) (xs : List ℕ) → j ≡ put j q (words (take 0 xs))
unfolding words
words_none j q xs = sym (put_nil j q)

one_word : (x : ℕ) → words (x ∷ []) ≡ be 8 x
unfolding words
one_word x = append-nil (be 8 x)

take-length : (n : ℕ) (xs : List ℕ) → n ≤ length xs → length (take n xs) ≡ n
take-length zero xs h = refl
take-length (suc n) [] h = absurd (omega arith)
take-length (suc n) (x ∷ xs) h = ap suc (take-length n xs (omega arith))

module _ (j : List ℕ) (q : ℕ) (xs : List ℕ) (h : q ≤ length j) where
  pub words_next : (a b w : List ℕ) (i : ℕ) → i < length xs → a ≡ put j q (words (take i xs)) → w ≡ be 8 (get_or xs i 0) → b ≡ put a (q + 8 * i) w → b ≡ put j q (words (take (i + 1) xs))
  words_next a b w i l ae we be' =
      be' ∙ ap₂ (λ (x y : List ℕ). put x (q + 8 * i) y) ae (we ∙ sym (one_word (get_or xs i 0)))
      ∙ put_next j q (words (take i xs)) (words (get_or xs i 0 ∷ [])) (q + 8 * i) (omega (arith, words_length (take i xs), take-length i xs (omega arith))) h
      ∙ ap (put j q) (sym (words_append (take i xs) (get_or xs i 0 ∷ [])) ∙ ap words (sym (take-suc xs i 0 l)) ∙ ap (λ (n : ℕ). words (take n xs)) (sym (add-one i)))

  pub words_all : (a : List ℕ) (i : ℕ) → length xs ≡ i → a ≡ put j q (words (take i xs)) → a ≡ put j q (words xs)
  words_all a i e d = d ∙ ap (λ (l : List ℕ). put j q (words l)) (ap (λ (n : ℕ). take n xs) (sym e) ∙ whole xs)
    where
      whole : (ys : List ℕ) → take (length ys) ys ≡ ys
      whole [] = refl
      whole (y ∷ ys) = ap (λ (l : List ℕ). y ∷ l) (whole ys)

  -- what is put so keeps the length
  pub words_long : (b : List ℕ) (n : ℕ) → q + 8 * length xs ≤ length j → n ≤ length xs → b ≡ put j q (words (take n xs)) → length b ≡ length j
  words_long b n l g e = ap length e ∙ length_put j q (words (take n xs)) (omega (arith, words_length (take n xs), take-length n xs g))

-- ---- the front

pub front_put : (j a b c ss : List ℕ) → 184 ≤ length j → a ≡ put j 0 magic → b ≡ put a 16 (zeros 8) → c ≡ put b 24 (words ss) → c ≡ put j 0 (magic ++ (zeros 8 ++ words ss))
front_put j a b c ss h ae be' ce =
    let b' : b ≡ put j 0 (magic ++ zeros 8) = be' ∙ ap (λ (x : List ℕ). put x 16 (zeros 8)) ae ∙ put_next j 0 magic (zeros 8) 16 refl (omega arith) in
    ce ∙ ap (λ (x : List ℕ). put x 24 (words ss)) b' ∙ put_next j 0 (magic ++ zeros 8) (words ss) 24 refl (omega arith) ∙ ap (put j 0) (append_assoc magic (zeros 8) (words ss))
