-- With the calls' own hash put in. Assumes nothing.
use Rattle.blake2b.specs.Hash.{node_hash}
use Rattle.file_format.proofs.Hashed.{hash_function}
use Rattle.append_needs.specs.Theorems.{NeedsOfAppends}
use Rattle.append_needs.proofs.Appends.{needs_of_appends}

pub needs_of_the_calls : NeedsOfAppends node_hash
needs_of_the_calls = needs_of_appends node_hash hash_function
