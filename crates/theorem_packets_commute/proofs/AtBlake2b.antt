-- The hash of the calls is such a function, so it holds of the taking in as it is.
use Prim.Native.Nat.{ℕ}
use mathlib.Core.List.{List}
use Rattle.byte_strings.specs.Lists.{Bytes}
use Rattle.blake2b.specs.Hash.{node_hash}
use Rattle.file_format.proofs.Hashed.{hash_function}
use Rattle.copy_checks.specs.Copy.{Copy}
use Rattle.theorem_packets_commute.specs.Commute.{BothTaken, Commute}
use Rattle.theorem_packets_commute.proofs.Chunks.{commute_for_all}

pub commute_of_the_call : (c : Copy) (p : List ℕ) (i : ℕ) (a q : List ℕ) (j : ℕ) (b : List ℕ) → Bytes p → Bytes q
    → BothTaken node_hash c p i a q j b → Commute node_hash c p i a q j b
commute_of_the_call = commute_for_all node_hash hash_function
