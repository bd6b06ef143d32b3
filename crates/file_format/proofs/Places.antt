-- Lists written front to back, as the messages are. Assumes nothing.
use mathlib.Core.Path.{◌≡◌, refl, sym, ap, ap₂, ◌∙◌, subst}
use Prim.Native.Nat.{ℕ, ◌+◌, ◌-◌, ◌≤◌}
use native.Mathlib.Nat.{zero-add, le_refl}
use native.Mathlib.Omega.{arith}
use mathlib.Core.List.{List, ◌∷◌, ◌++◌, append_assoc, append-nil}
use lib.ListN.{length, take, replicate, length-append, drop_of_length-le}
use Rattle.byte_strings.specs.Lists.{part, put, zeros}
use Rattle.byte_strings.specs.Numbers.{be}
use Rattle.byte_strings.proofs.Lists.{put_append, length_part}
use Rattle.byte_strings.proofs.Numbers.{length_be}
use Rattle.blake2b.specs.Hash.{node_hash}
use Rattle.file_format.specs.Messages.{leaf_message, parent_message, root_item}

-- bytes put up to the end
pub put_rest : (xs : List ℕ) (at : ℕ) (ys : List ℕ) → at + length ys ≡ length xs → put xs at ys ≡ take at xs ++ ys
unfolding put
put_rest xs at ys e =
    ap (λ (r : List ℕ). take at xs ++ (ys ++ r)) (drop_of_length-le xs (subst (λ (k : ℕ). k ≤ at + length ys) e (le_refl (at + length ys))))
    ∙ ap (λ (r : List ℕ). take at xs ++ r) (append-nil ys)

-- bytes put over a whole list
pub put_all : (xs ys : List ℕ) → length ys ≡ length xs → put xs 0 ys ≡ ys
put_all xs ys e = put_rest xs 0 ys (zero-add (length ys) ∙ e)

-- one list put behind another that was put before
pub put_next : (xs : List ℕ) (at m k : ℕ) (ys zs : List ℕ) → length ys ≡ k → at + k ≡ m → at ≤ length xs → put (put xs at ys) m zs ≡ put xs at (ys ++ zs)
put_next xs at m k ys zs e f l =
    ap (λ (i : ℕ). put (put xs at ys) i zs) (sym (ap (λ (i : ℕ). at + i) e ∙ f)) ∙ put_append xs at ys zs l

-- the hash of an entry, read into an array
pub read_hash : (tree : List ℕ) {r : List ℕ} {at place : ℕ} → at ≡ place → at + 32 ≤ length tree
    → r ≡ put (zeros 32) 0 (part tree at (at + 32 - at)) → r ≡ part tree place 32
read_hash tree {at = at} p h e =
    let k : at + 32 - at ≡ 32 = omega arith in
    e ∙ ap (λ (i : ℕ). put (zeros 32) 0 (part tree at i)) k ∙ put_all (zeros 32) (part tree at 32) (length_part tree at 32 h) ∙ ap (λ (i : ℕ). part tree i 32) p

-- nine bytes before a chunk, and the chunk
pub leaf_prefix : (chunk : List ℕ) {h p n : List ℕ} → n ≡ be 8 (length chunk) → p ≡ put (zeros 9) 1 n → h ≡ node_hash (p ++ chunk)
    → h ≡ node_hash (leaf_message chunk)
unfolding leaf_message
leaf_prefix chunk e f g =
    g ∙ ap (λ (m : List ℕ). node_hash (m ++ chunk))
    (f ∙ ap (put (zeros 9) 1) e
    ∙ put_rest (zeros 9) 1 (be 8 (length chunk)) (ap (λ (i : ℕ). 1 + i) (length_be 8 (length chunk))))

-- an entry: its hash and then its length
pub written_entry : (tree hash : List ℕ) (n : ℕ) {r m size : List ℕ} {at place : ℕ} → at ≡ place → length hash ≡ 32 → at ≤ length tree
    → m ≡ put tree at hash → size ≡ be 8 n → r ≡ put m (at + 32) size → r ≡ put tree place (hash ++ be 8 n)
written_entry tree hash n {at = at} p l h e f g =
    g ∙ ap₂ (λ (xs ys : List ℕ). put xs (at + 32) ys) e f ∙ put_next tree at (at + 32) 32 hash (be 8 n) l refl h
    ∙ ap (λ (i : ℕ). put tree i (hash ++ be 8 n)) p

-- a parent's message: a byte, a length, and two hashes
pub parent_pieces : (left right : List ℕ) (n : ℕ) {h m m₁ m₂ sum : List ℕ} → sum ≡ be 8 n → length left ≡ 32 → length right ≡ 32
    → m₁ ≡ put (replicate 73 1) 1 sum → m₂ ≡ put m₁ 9 left → m ≡ put m₂ 41 right → h ≡ node_hash m
    → h ≡ node_hash (parent_message n left right)
unfolding parent_message
parent_pieces left right n {m = m} s l r e f g d =
    let a : length (be 8 n) ≡ 8 = length_be 8 n in
    let b : length (be 8 n ++ left) ≡ 40 = length-append (be 8 n) left ∙ omega arith in
    let two : put (put (replicate 73 1) 1 (be 8 n)) 9 left ≡ put (replicate 73 1) 1 (be 8 n ++ left) =
    put_next (replicate 73 1) 1 9 8 (be 8 n) left a refl (omega arith)
    in
    let three : put (put (replicate 73 1) 1 (be 8 n ++ left)) 41 right ≡ put (replicate 73 1) 1 (be 8 n ++ left ++ right) =
    put_next (replicate 73 1) 1 41 40 (be 8 n ++ left) right b refl (omega arith)
    in
    let whole : length (be 8 n ++ left ++ right) ≡ 72 = length-append (be 8 n ++ left) right ∙ omega arith in
    let all : put (replicate 73 1) 1 (be 8 n ++ left ++ right) ≡ 1 ∷ (be 8 n ++ left ++ right) =
    put_rest (replicate 73 1) 1 (be 8 n ++ left ++ right) (ap (λ (i : ℕ). 1 + i) whole)
    in
    let same : m ≡ 1 ∷ (be 8 n ++ left ++ right) =
    g ∙ ap (λ (x : List ℕ). put x 41 right)
    (f ∙ ap (λ (x : List ℕ). put x 9 left) (e ∙ ap (put (replicate 73 1) 1) s) ∙ two)
    ∙ three ∙ all
    in
    d ∙ ap node_hash (same ∙ ap {B = List ℕ} (λ x. 1 ∷ x) (append_assoc (be 8 n) left right))

-- a root's item: its hash, its tree index and its length
pub written_item : (message hash : List ℕ) (i size : ℕ) {r m₁ m₂ a b : List ℕ} {at : ℕ} → length hash ≡ 32 → at ≤ length message
    → m₁ ≡ put message at hash → a ≡ be 8 i → m₂ ≡ put m₁ (at + 32) a → b ≡ be 8 size → r ≡ put m₂ (at + 40) b
    → r ≡ put message at (root_item hash i size)
unfolding root_item
written_item message hash i size {at = at} l h e p f q g =
    let k : length (hash ++ be 8 i) ≡ 40 = length-append hash (be 8 i) ∙ omega (arith, length_be 8 i) in
    g ∙ ap₂ (λ (xs ys : List ℕ). put xs (at + 40) ys) (written_entry message hash i refl l h e p f) q
    ∙ put_next message at (at + 40) 40 (hash ++ be 8 i) (be 8 size) k refl h
    ∙ ap (put message at) (append_assoc hash (be 8 i) (be 8 size))
