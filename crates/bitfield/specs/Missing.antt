-- What a search for a chunk that is not held answers.
use Rattle.std.specs.Prelude.{Option, Some, None}
use Rattle.byte_strings.specs.Lowest.{Lowest, nowhere, first}
use Rattle.number_types.specs.declared.ChunkNumber.{ChunkNumber}

abbrev pub found_at : Option ChunkNumber → Lowest
found_at (Some k) = first k.0
found_at None = nowhere
