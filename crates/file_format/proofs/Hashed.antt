-- The hash of the calls is a function from byte strings to 32 bytes.
-- Assumes nothing.
use Rattle.blake2b.specs.Hash.{node_hash}
use Rattle.blake2b.proofs.Laws.{node_length, node_byte}
use Rattle.file_format.specs.Messages.{HashFunction}

pub hash_function : HashFunction node_hash
hash_function = record { size = λ d b. node_length d; byte = λ d b. node_byte d }
