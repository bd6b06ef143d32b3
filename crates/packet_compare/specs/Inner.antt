-- What the inner functions of the walk along two packets require and ensure.
use Rattle.std.specs.Prelude.{ℕ, ◌+◌, ◌≤◌, ◌<◌, ◌≡◌, ◌≢◌, List, length}
use Rattle.answer_types.specs.Verdict.{done}
use Rattle.byte_strings.specs.Lists.{Bytes}
use Rattle.blake2b.specs.Hash.{node_hash}
use Rattle.file_format.specs.Entries.{Entry}
use Rattle.packet.specs.Check.{chunk_length, entry_in, entries_in, steps_above, packet_verdict}
use Rattle.packet.specs.Inner.{Climbable}
use Rattle.packet_compare.specs.Walk.{Walk, at_roots, first_pair}

-- a packet that is long enough for its chunk
pub record Framed (p : List ℕ) : Type 0 where
  pub front : 4 ≤ length p
  pub chunk : chunk_length p ≤ 65536
  pub inside : 4 + chunk_length p ≤ length p

-- an entry lies at a place, and its length may be added to a size
pub record Steppable (p : List ℕ) (at size : ℕ) : Type 0 where
  pub inside : at + 40 ≤ length p
  pub sum : size + (entry_in p at).size ≤ 68719476736

-- an entry with a hash of 32 bytes
pub record Whole (e : Entry) : Type 0 where
  pub long : length e.hash ≡ 32
  pub bytes : Bytes e.hash

-- two leaves of one chunk with different hashes, and the siblings of both
pub record Climbable2 (p : List ℕ) (at : ℕ) (e : Entry) (q : List ℕ) (at2 : ℕ) (f : Entry) (count c : ℕ) : Type 0 where
  pub first : Climbable p at count e.size
  pub second : Climbable q at2 count f.size
  pub bytes : Bytes p × Bytes q
  pub whole : Whole e × Whole f
  pub small : c < 1048576
  pub differ : e.hash ≢ f.hash

-- the first pair on the way up from them, and "at the roots" where there is none
unfoldable pub up_along : List ℕ → ℕ → Entry → List ℕ → ℕ → Entry → ℕ → ℕ → Walk
up_along p at e q at2 f count c =
    first_pair node_hash (steps_above node_hash 0 c e (entries_in p at count)) (steps_above node_hash 0 c f (entries_in q at2 count)) at_roots

-- two packets that pass the check under one root hash
pub record Accepted2 (p q : List ℕ) (n c : ℕ) : Type 0 where
  pub root : List ℕ
  pub first : packet_verdict node_hash p n c root ≡ done
  pub second : packet_verdict node_hash q n c root ≡ done
