use Rattle.std.proofs.Common.{◌≡◌, take, []}
use Rattle.lasp_fns.specs.Library.{maps_of, predicates_of, lifts_of}
use Rattle.lasp_program.specs.Functions.{program_maps, program_predicates, program_lifts}
use Rattle.lasp_site_cli.proofs.answer.answer_over.Given as goal

abbrev pub invariant-loop-name : goal.invariant-loop-name
invariant-loop-name g l = record {
  maps : maps_of l.library ≡ take l.name-index program_maps;
  predicates : predicates_of l.library ≡ [];
  lifts : lifts_of l.library ≡ [];
}

abbrev pub invariant-loop-name-2 : goal.invariant-loop-name-2
invariant-loop-name-2 g l = record {
  maps : maps_of l.library ≡ program_maps;
  predicates : predicates_of l.library ≡ take l.name-index program_predicates;
  lifts : lifts_of l.library ≡ [];
}

abbrev pub invariant-loop-name-3 : goal.invariant-loop-name-3
invariant-loop-name-3 g l = record {
  maps : maps_of l.library ≡ program_maps;
  predicates : predicates_of l.library ≡ program_predicates;
  lifts : lifts_of l.library ≡ take l.name-index program_lifts;
}
