-- The hash of the calls is such a function, so the demand holds of the calls as they are.
use Rattle.blake2b.specs.Hash.{node_hash}
use Rattle.file_format.proofs.Hashed.{hash_function}
use Rattle.theorem_comparison.specs.Demand3.{Demand3}
use Rattle.theorem_comparison.proofs.Demand3.{demand_3}

pub demand_3_of_the_calls : Demand3 node_hash
demand_3_of_the_calls = demand_3 node_hash hash_function
