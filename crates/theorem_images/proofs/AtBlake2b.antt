-- The hash of the calls is such a function, so the demand holds of the calls as they are.
use Rattle.blake2b.specs.Hash.{node_hash}
use Rattle.file_format.proofs.Hashed.{hash_function}
use Rattle.theorem_images.specs.Demand2.{Demand2}
use Rattle.theorem_images.proofs.Demand2.{demand_2}

pub demand_2_of_the_calls : Demand2 node_hash
demand_2_of_the_calls = demand_2 node_hash hash_function
