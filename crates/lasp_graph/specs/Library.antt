-- A library as plain data.
use Rattle.model_functions.specs.Library as plain
use Rattle.lasp_fns.specs.declared.library.Library.{Library}
use Rattle.lasp_fns.specs.Library.{maps_of, predicates_of, lifts_of}

abbrev pub library_of : {a b c d e f g h i : _} → Library a b c d e f g h i → plain.Library
library_of l = record { maps = maps_of l; predicates = predicates_of l; lifts = lifts_of l }
