-- RFC 7693, section 3.3: key, padding, counter and output.
use Rattle.std.specs.Prelude.{ℕ, zero, suc, ◌+◌, ◌-◌, ◌*◌, ◌/◌, ◌%◌, ◌^◌, max, true, false, List, [], ◌∷◌, ◌++◌, length, set, take, replicate}
use Rattle.std.specs.Int.Bits.{bit_xor}
use Rattle.blake2b_compression.specs.Constants.{IV}
use Rattle.blake2b_compression.specs.Mixing.{at}
use Rattle.blake2b_compression.specs.Compression.{F}

-- section 2.4: the word whose bytes stand from place p on, the lowest first; past the end of the message they are the zeros that pad it
unfoldable pub word_at : List ℕ → ℕ → ℕ
word_at d p =
    at d p + 2 ^ 8 * at d (p + 1) + 2 ^ 16 * at d (p + 2) + 2 ^ 24 * at d (p + 3) + 2 ^ 32 * at d (p + 4)
    + 2 ^ 40 * at d (p + 5) + 2 ^ 48 * at d (p + 6) + 2 ^ 56 * at d (p + 7)

-- the block of 128 bytes that starts at place p, as sixteen words
unfoldable pub block : List ℕ → ℕ → List ℕ
block d p =
    word_at d p ∷ word_at d (p + 8) ∷ word_at d (p + 16) ∷ word_at d (p + 24) ∷ word_at d (p + 32) ∷ word_at d (p + 40)
    ∷ word_at d (p + 48) ∷ word_at d (p + 56) ∷ word_at d (p + 64) ∷ word_at d (p + 72) ∷ word_at d (p + 80) ∷ word_at d (p + 88)
    ∷ word_at d (p + 96) ∷ word_at d (p + 104) ∷ word_at d (p + 112) ∷ word_at d (p + 120) ∷ []

-- the key's block: the key and then zeros, 128 bytes; without a key there is none
unfoldable pub key_block : List ℕ → List ℕ
key_block [] = []
key_block (b ∷ bs) = (b ∷ bs) ++ replicate (128 - length (b ∷ bs)) 0

-- the data that go in: the key's block and then the message
unfoldable pub input : List ℕ → List ℕ → List ℕ
input key d = key_block key ++ d

-- the number of blocks of n bytes of data: n / 128 rounded up, and one where there are none
unfoldable pub blocks : ℕ → ℕ
blocks n = max 1 ((n + 127) / 128)

-- the parameter word: 01010000 (hex) with the key length kk and the output length nn put in
unfoldable pub parameter : ℕ → ℕ → ℕ
parameter nn kk = bit_xor (bit_xor 0x01010000 (kk * 2 ^ 8)) nn

-- the first state: IV with the parameter word put into its first word
unfoldable pub initial : ℕ → ℕ → List ℕ
initial nn kk = set IV 0 (bit_xor (at IV 0) (parameter nn kk))

-- the state after the first i blocks, none of which is the last: each goes in with the bytes taken so far, it included
unfoldable pub after : List ℕ → List ℕ → ℕ → List ℕ
after h d zero = h
after h d (suc i) = F (after h d i) (block d (128 * i)) (128 * (i + 1)) false

-- the last state: the last block goes in with the length of the data, the key's block counted, and the final flag
unfoldable pub final : ℕ → ℕ → List ℕ → List ℕ
final nn kk d = let last : ℕ = blocks (length d) - 1 in F (after (initial nn kk) d last) (block d (128 * last)) (length d) true

-- the lowest k bytes of a word, the lowest first
unfoldable pub low_bytes : ℕ → ℕ → List ℕ
low_bytes zero x = []
low_bytes (suc k) x = x % 256 ∷ low_bytes k (x / 256)

-- the bytes of a vector of words
unfoldable pub bytes : List ℕ → List ℕ
bytes [] = []
bytes (x ∷ xs) = low_bytes 8 x ++ bytes xs

-- BLAKE2b with nn bytes of output under a key: the first nn bytes of the last state. The empty key is the hash without a key.
unfoldable pub blake2b : ℕ → List ℕ → List ℕ → List ℕ
blake2b nn key d = take nn (bytes (final nn (length key) (input key d)))

-- "Nodes use output length 32, which is a parameter of the hash", and "nodes and roots keep the empty key": the hash of leaves, parents
-- and roots
unfoldable pub node_hash : List ℕ → List ℕ
node_hash d = blake2b 32 [] d
