-- The number and the values that each case of an answer stands for.
use Rattle.std.specs.Prelude.{Result, Ok, Err, Option, Some, None}
use Rattle.answer_types.specs.Meaning.{spot_of}
use Rattle.byte_strings.specs.Lowest.{nowhere, first}
use Rattle.search.specs.Search.{Sought, refusal, answer}
use Rattle.answer_types.specs.declared.Refusal.{Refusal}
use Rattle.number_types.specs.declared.ChunkNumber.{ChunkNumber}

abbrev pub searched_of : Result (Option ChunkNumber) Refusal → Sought
searched_of (Err r) = refusal r.number (spot_of r.place)
searched_of (Ok (Some c)) = answer (first c.0)
searched_of (Ok None) = answer nowhere
