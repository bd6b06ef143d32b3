-- A hash is as long as it is asked to be, and a list of bytes.
-- Assumes nothing.
use mathlib.Core.Path.{◌≡◌, refl, ap}
use mathlib.Core.Bool.{Bool}
use mathlib.Core.List.{List, [], ◌∷◌, ◌++◌}
use Prim.Native.Nat.{ℕ, zero, suc, ◌*◌, ◌%◌, ◌/◌, ◌≤◌, ◌<◌}
use native.Mathlib.Omega.{arith}
use lib.Dec.{lit<}
use lib.ListN.{length, get_or, take, length-append}
use lib.Seq.{length-take-le}
use Rattle.blake2b_compression.specs.Compression.{F}
use Rattle.blake2b.specs.Hash.{input, final, low_bytes, bytes, blake2b, node_hash}

-- the state that F gives has eight words
pub F_length : (h m : List ℕ) (t : ℕ) (f : Bool) → length (F h m t f) ≡ 8
unfolding F
F_length h m t f = refl

pub final_length : (nn kk : ℕ) (d : List ℕ) → length (final nn kk d) ≡ 8
unfolding final
final_length nn kk d = F_length _ _ _ _

pub low_bytes_length : (k x : ℕ) → length (low_bytes k x) ≡ k
unfolding low_bytes
low_bytes_length zero x = refl
low_bytes_length (suc k) x = ap suc (low_bytes_length k (x / 256))

pub bytes_length : (ws : List ℕ) → length (bytes ws) ≡ 8 * length ws
unfolding bytes
bytes_length [] = refl
bytes_length (x ∷ xs) =
    omega (arith, length-append (low_bytes 8 x) (bytes xs), low_bytes_length 8 x, bytes_length xs)

-- each element of the list is a byte
abbrev pub AreBytes : List ℕ → Type 0
AreBytes l = (i : ℕ) → get_or l i 0 < 256

none_bytes : AreBytes []
none_bytes i = lit< tt

cons_bytes : (x : ℕ) (l : List ℕ) → x < 256 → AreBytes l → AreBytes (x ∷ l)
cons_bytes x l h k zero = h
cons_bytes x l h k (suc i) = k i

append_bytes : (xs ys : List ℕ) → AreBytes xs → AreBytes ys → AreBytes (xs ++ ys)
append_bytes [] ys h k = k
append_bytes (x ∷ xs) ys h k = cons_bytes x (xs ++ ys) (h 0) (append_bytes xs ys (λ i. h (suc i)) k)

take_bytes : (n : ℕ) (l : List ℕ) → AreBytes l → AreBytes (take n l)
take_bytes zero l h = none_bytes
take_bytes (suc n) [] h = none_bytes
take_bytes (suc n) (x ∷ l) h = cons_bytes x (take n l) (h 0) (take_bytes n l (λ i. h (suc i)))

pub low_bytes_bytes : (k x : ℕ) → AreBytes (low_bytes k x)
unfolding low_bytes
low_bytes_bytes zero x = none_bytes
low_bytes_bytes (suc k) x = cons_bytes (x % 256) (low_bytes k (x / 256)) (omega arith) (low_bytes_bytes k (x / 256))

pub bytes_bytes : (ws : List ℕ) → AreBytes (bytes ws)
unfolding bytes
bytes_bytes [] = none_bytes
bytes_bytes (x ∷ xs) = append_bytes (low_bytes 8 x) (bytes xs) (low_bytes_bytes 8 x) (bytes_bytes xs)

-- BLAKE2b with up to 64 bytes of output has as many as it is asked for
pub hash_length : (nn : ℕ) (key d : List ℕ) → nn ≤ 64 → length (blake2b nn key d) ≡ nn
unfolding blake2b
hash_length nn key d h =
    let s : List ℕ = final nn (length key) (input key d) in
    length-take-le nn (bytes s) (omega (arith, bytes_length s, final_length nn (length key) (input key d)))

pub hash_byte : (nn : ℕ) (key d : List ℕ) (i : ℕ) → get_or (blake2b nn key d) i 0 < 256
unfolding blake2b
hash_byte nn key d = let s : List ℕ = final nn (length key) (input key d) in take_bytes nn (bytes s) (bytes_bytes s)

-- the hash of nodes is that under the empty key
pub node_keyless : (d : List ℕ) → blake2b 32 [] d ≡ node_hash d
unfolding node_hash
node_keyless d = refl

-- the hash of nodes has 32 bytes
pub node_length : (d : List ℕ) → length (node_hash d) ≡ 32
unfolding node_hash
node_length d = hash_length 32 [] d (omega arith)

pub node_byte : (d : List ℕ) (i : ℕ) → get_or (node_hash d) i 0 < 256
unfolding node_hash
node_byte d = hash_byte 32 [] d
