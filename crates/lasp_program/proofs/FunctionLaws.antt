-- The program's tables: few entries, and each name is a name and stands once.
use Rattle.std.proofs.Common.{◌≡◌, refl, ◌≤◌, [], length, true, arith}
use Rattle.model_functions.specs.Library.{Library}
use Rattle.lasp_program.specs.Functions.{program_maps, program_predicates, program_lifts, program_library}
use Rattle.lasp_program.proofs.TableLaws.{are_free}

pub maps-free : are_free [] program_maps ≡ true
unfolding program_maps
maps-free = refl

pub predicates-free : are_free [] program_predicates ≡ true
unfolding program_predicates
predicates-free = refl

pub lifts-free : are_free [] program_lifts ≡ true
unfolding program_lifts
lifts-free = refl

pub few-maps : length program_maps ≤ 100
unfolding program_maps
few-maps = omega arith

pub few-predicates : length program_predicates ≤ 100
unfolding program_predicates
few-predicates = omega arith

pub few-lifts : length program_lifts ≤ 100
unfolding program_lifts
few-lifts = omega arith

pub library-whole : (lib : Library) → lib.maps ≡ program_maps → lib.predicates ≡ program_predicates → lib.lifts ≡ program_lifts → lib ≡ program_library
unfolding program_library
library-whole lib maps predicates lifts = λ i. record { maps = maps i; predicates = predicates i; lifts = lifts i }
