-- What equal messages say of what they were made of.
-- Assumes nothing.
use Rattle.std.proofs.Common.{◌≡◌, ℕ, ◌^◌, ◌<◌, List, ◌++◌, length, sym, ap, ◌∙◌}
use mathlib.Core.List.{tail-eq_of_cons-eq}
use Rattle.byte_strings.specs.Numbers.{be, number}
use Rattle.byte_strings.proofs.Numbers.{length_be, number_be}
use Rattle.file_format.specs.Messages.{leaf_message, parent_message, root_item}
use Rattle.compare.proofs.Local.{split_append}

-- the bytes of a number are told apart from those of every other that fits
pub be_injective : (k x y : ℕ) → x < 256 ^ k → y < 256 ^ k → be k x ≡ be k y → x ≡ y
be_injective k x y h g e = sym (number_be k x h) ∙ ap number e ∙ number_be k y g

-- two numbers in bytes, each with something behind it
behind_number : (x y : ℕ) (s t : List ℕ) → be 8 x ++ s ≡ be 8 y ++ t → (be 8 x ≡ be 8 y) × (s ≡ t)
behind_number x y s t e = split_append (be 8 x) (be 8 y) s t (length_be 8 x ∙ sym (length_be 8 y)) e

-- ---- equal messages

-- equal leaf messages are those of one chunk
pub leaf_injective : (c d : List ℕ) → leaf_message c ≡ leaf_message d → c ≡ d
unfolding leaf_message
leaf_injective c d e = (behind_number (length c) (length d) c d (tail-eq_of_cons-eq e)).1

-- equal parent messages have one sum and the same two hashes
pub record SameParent (s t : ℕ) (l l' r r' : List ℕ) : Type 0 where
  pub sum : be 8 s ≡ be 8 t
  pub left : l ≡ l'
  pub right : r ≡ r'

pub parent_injective : (s t : ℕ) (l l' r r' : List ℕ) → length l ≡ 32 → length l' ≡ 32
    → parent_message s l r ≡ parent_message t l' r' → SameParent s t l l' r r'
unfolding parent_message
parent_injective s t l l' r r' h h' e =
    let p = behind_number s t (l ++ r) (l' ++ r') (tail-eq_of_cons-eq e) in
    let q = split_append l l' r r' (h ∙ sym h') p.1 in
    record { sum = p.0; left = q.0; right = q.1 }

-- equal root items have one hash, one tree index and one length
pub record SameItem (h h' : List ℕ) (i j s t : ℕ) : Type 0 where
  pub hash : h ≡ h'
  pub place : be 8 i ≡ be 8 j
  pub size : be 8 s ≡ be 8 t

pub item_injective : (h h' : List ℕ) (i j s t : ℕ) → length h ≡ 32 → length h' ≡ 32 → root_item h i s ≡ root_item h' j t → SameItem h h' i j s t
unfolding root_item
item_injective h h' i j s t l l' e =
    let p = split_append h h' (be 8 i ++ be 8 s) (be 8 j ++ be 8 t) (l ∙ sym l') e in
    let q = behind_number i j (be 8 s) (be 8 t) p.1 in
    record { hash = p.0; place = q.0; size = q.1 }
