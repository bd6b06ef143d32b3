-- The values that each case of an answer stands for.
use Rattle.std.specs.Prelude.{Option, Some, None}
use Rattle.answer_types.specs.Meaning.{said}
use Rattle.station_reads.specs.Serving.{Serving, none, station}
use Rattle.station_reads.specs.declared.Served.{Served}

abbrev pub served_of : Option Served → Serving
served_of None = none
served_of (Some s) = station s.station (said s.answer)
