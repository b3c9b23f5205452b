use Rattle.std.proofs.Common.{◌∙◌, ℕ, List, [], Bor}
use Rattle.lasp_fns.specs.declared.map.MapOp.{MapOp}
use Rattle.lasp_fns.specs.declared.lift.LiftOp.{LiftOp}
use Rattle.lasp_fns.specs.declared.lift.LiftOp.TheVariants.{One}
use Rattle.lasp_fns.specs.Library.{maps_of, predicates_of, lifts_of}
use Rattle.lasp_program.specs.declared.functions.Condition.{Condition}
use Rattle.lasp_program.specs.Functions.{program_maps, program_predicates, program_lifts}
use Rattle.lasp_program.specs.Tables.{map_entry, predicate_entry, lift_entry}
use Rattle.lasp_program.proofs.TableLaws.{entry-named, entry-free, entries-added, few-added, free-in, one-more}
use Rattle.lasp_program.proofs.FunctionLaws.{maps-free, predicates-free, lifts-free, few-maps, few-predicates, few-lifts, library-whole}
use Rattle.lasp_program.proofs.answer.answer_over.Goals as goal

abbrev no_map : Bor (List ℕ) × Bor (List MapOp)
no_map = (record { ref_ptr = (0, 0); now = [] }, record { ref_ptr = (0, 0); now = [] })

abbrev no_predicate : Bor (List ℕ) × Bor (List Condition)
no_predicate = (record { ref_ptr = (0, 0); now = [] }, record { ref_ptr = (0, 0); now = [] })

abbrev no_lift : Bor (List ℕ) × LiftOp
no_lift = (record { ref_ptr = (0, 0); now = [] }, One)

pub add_map-requires-clause-room : goal.add_map-requires-clause-room
add_map-requires-clause-room g c = few-added (maps_of c.loop-name.library) program_maps c.loop-name.name-index c.loop-name.invariant.maps few-maps

pub add_map-requires-clause-shape : goal.add_map-requires-clause-shape
add_map-requires-clause-shape g c = entry-named map_entry c.args.maps.now program_maps c.loop-name.name-index no_map c.requires.maps maps-free c.loop-name-test.true

pub add_map-requires-clause-free : goal.add_map-requires-clause-free
add_map-requires-clause-free g c =
    free-in _ (maps_of c.loop-name.library) _ c.loop-name.invariant.maps (entry-free map_entry c.args.maps.now program_maps c.loop-name.name-index no_map c.requires.maps maps-free c.loop-name-test.true)

pub loop-name-preserved : goal.loop-name-preserved
loop-name-preserved g c = record {
  maps = one-more map_entry c.args.maps.now program_maps c.loop-name.name-index no_map c.requires.maps c.loop-name-test.true _ _ c.loop-name.invariant.maps c.in_ok-add_map.ensures.ok;
  predicates = c.add_map.ensures.predicates ∙ c.loop-name.invariant.predicates;
  lifts = c.add_map.ensures.lifts ∙ c.loop-name.invariant.lifts;
}

pub add_predicate-requires-clause-room : goal.add_predicate-requires-clause-room
add_predicate-requires-clause-room g c = few-added (predicates_of c.loop-name-2.library) program_predicates c.loop-name-2.name-index c.loop-name-2.invariant.predicates few-predicates

pub add_predicate-requires-clause-shape : goal.add_predicate-requires-clause-shape
add_predicate-requires-clause-shape g c = entry-named predicate_entry c.args.predicates.now program_predicates c.loop-name-2.name-index no_predicate c.requires.predicates predicates-free c.loop-name-2-test.true

pub add_predicate-requires-clause-free : goal.add_predicate-requires-clause-free
add_predicate-requires-clause-free g c =
    free-in _ (predicates_of c.loop-name-2.library) _ c.loop-name-2.invariant.predicates
    (entry-free predicate_entry c.args.predicates.now program_predicates c.loop-name-2.name-index no_predicate c.requires.predicates predicates-free c.loop-name-2-test.true)

pub loop-name-2-preserved : goal.loop-name-2-preserved
loop-name-2-preserved g c = record {
  maps = c.add_predicate.ensures.maps ∙ c.loop-name-2.invariant.maps;
  predicates = one-more predicate_entry c.args.predicates.now program_predicates c.loop-name-2.name-index no_predicate c.requires.predicates c.loop-name-2-test.true _ _ c.loop-name-2.invariant.predicates c.in_ok-add_predicate.ensures.ok;
  lifts = c.add_predicate.ensures.lifts ∙ c.loop-name-2.invariant.lifts;
}

pub add_lift-requires-clause-room : goal.add_lift-requires-clause-room
add_lift-requires-clause-room g c = few-added (lifts_of c.loop-name-3.library) program_lifts c.loop-name-3.name-index c.loop-name-3.invariant.lifts few-lifts

pub add_lift-requires-clause-shape : goal.add_lift-requires-clause-shape
add_lift-requires-clause-shape g c = entry-named lift_entry c.args.lifts.now program_lifts c.loop-name-3.name-index no_lift c.requires.lifts lifts-free c.loop-name-3-test.true

pub add_lift-requires-clause-free : goal.add_lift-requires-clause-free
add_lift-requires-clause-free g c =
    free-in _ (lifts_of c.loop-name-3.library) _ c.loop-name-3.invariant.lifts (entry-free lift_entry c.args.lifts.now program_lifts c.loop-name-3.name-index no_lift c.requires.lifts lifts-free c.loop-name-3-test.true)

pub loop-name-3-preserved : goal.loop-name-3-preserved
loop-name-3-preserved g c = record {
  maps = c.add_lift.ensures.maps ∙ c.loop-name-3.invariant.maps;
  predicates = c.add_lift.ensures.predicates ∙ c.loop-name-3.invariant.predicates;
  lifts = one-more lift_entry c.args.lifts.now program_lifts c.loop-name-3.name-index no_lift c.requires.lifts c.loop-name-3-test.true _ _ c.loop-name-3.invariant.lifts c.in_ok-add_lift.ensures.ok;
}

pub returns-clause-answered : goal.returns-clause-answered
returns-clause-answered g c =
    rw (← library-whole (record { maps = maps_of c.loop-name-3.library; predicates = predicates_of c.loop-name-3.library; lifts = lifts_of c.loop-name-3.library }) c.loop-name-3.invariant.maps c.loop-name-3.invariant.predicates (c.loop-name-3.invariant.lifts ∙ entries-added lift_entry c.args.lifts.now program_lifts c.loop-name-3.name-index c.requires.lifts c.loop-name-3-test.false))
    c.top.ensures.answered
