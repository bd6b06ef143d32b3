-- The number and the values that each case of an answer stands for.
use Rattle.std.specs.Prelude.{ℕ, ◌+◌, ◌≤◌, ◌<◌, List, length, Result, Ok, Err}
use Rattle.answer_types.specs.Meaning.{spot_of}
use Rattle.answer_types.specs.declared.Refusal.{Refusal}
use Rattle.tree_index.specs.Tree.{index}
use Rattle.file_format.specs.Inner.{EntryIn}
use Rattle.lookup.specs.Lookup.{Found, refusal, found}
use Rattle.lookup.specs.Read.{Name, metadata, contents}
use Rattle.lookup.specs.declared.places.Placed.{Placed}
use Rattle.lookup.specs.declared.places.Located.{Located}
use Rattle.lookup.specs.declared.reading.Name.{Name as CodeName}
use Rattle.lookup.specs.declared.reading.Name.TheVariants.{Metadata, Content}
use Rattle.lookup.specs.declared.reading.Verified.{Verified}

abbrev pub refused_as : Refusal → Found
refused_as r = refusal r.number (spot_of r.place)

abbrev pub placed_of : Result Placed Refusal → Found
placed_of (Err r) = refused_as r
placed_of (Ok p) = found p.start.0 p.length

abbrev pub located_of : Result Located Refusal → Found
located_of (Err r) = refused_as r
located_of (Ok l) = found l.chunk.0 l.rest

abbrev pub name_of : CodeName → Name
name_of Metadata = metadata
name_of Content = contents

abbrev pub verified_of : Result Verified Refusal → Found
verified_of (Err r) = refused_as r
verified_of (Ok v) = found v.start.0 v.end.0

-- a part that is found, from a start to an end, lies within the data
abbrev pub PartIn : List ℕ → Found → Type 0
PartIn content (refusal m at) = Unit {0}
PartIn content (found start end) = (start ≤ end) × (end ≤ length content)

-- a chunk that has a place has its bytes within the data, and its leaf's entry within the tree file
pub record LiesAt (tree content : List ℕ) (c start size : ℕ) : Type 0 where
  pub inside : start + size ≤ length content
  pub small : c < 2097152
  pub entry : EntryIn tree (index 0 c)

abbrev pub PlacedIn : List ℕ → List ℕ → ℕ → Found → Type 0
PlacedIn tree content c (refusal m at) = Unit {0}
PlacedIn tree content c (found start size) = LiesAt tree content c start size
