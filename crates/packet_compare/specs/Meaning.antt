-- The answer of the papers that each case of what is found stands for.
use Rattle.std.specs.Prelude.{Result, Ok, Err}
use Rattle.answer_types.specs.Meaning.{spot_of}
use Rattle.compare.specs.declared.CompareError.{CompareError}
use Rattle.compare.specs.declared.CompareError.TheVariants.{First, Second}
use Rattle.packet_compare.specs.Walk.{Walk, first_refused, second_refused, same_chunk, at_index, at_roots}
use Rattle.packet_compare.specs.declared.Walked.{Walked}
use Rattle.packet_compare.specs.declared.Walked.TheVariants.{SameChunk, AtIndex, AtRoots}

abbrev pub walk_of : Walked → Walk
walk_of SameChunk = same_chunk
walk_of (AtIndex i) = at_index i.0
walk_of AtRoots = at_roots

-- and of a comparison, which may be refused for either packet
abbrev pub told : Result Walked CompareError → Walk
told (Ok w) = walk_of w
told (Err (First r)) = first_refused r.number (spot_of r.place)
told (Err (Second r)) = second_refused r.number (spot_of r.place)
