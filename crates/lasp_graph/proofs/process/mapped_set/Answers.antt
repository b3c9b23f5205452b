use Rattle.std.proofs.Common.{ap}
use Rattle.model_functions.specs.Map.{mapped}
use Rattle.model_sets.specs.Equations.{map_set}
use Rattle.lasp_fns.specs.Library.{maps_of}
use Rattle.lasp_graph.proofs.ProcessLaws.{place-within, ops-found, length-map_set, result-as}
use Rattle.lasp_graph.proofs.process.mapped_set.Goals as goal

pub map_at-requires : goal.map_at-requires
map_at-requires g c = place-within (maps_of c.args.lib.now) c.args.f.now.place c.args.f.now.ops c.requires.fits

pub returns-clause-ok : goal.returns-clause-ok
returns-clause-ok g c =
    result-as c.map_set.result _ _ (ap (λ ops. map_set (mapped ops) c.args.x.now) (ops-found (maps_of c.args.lib.now) c.args.f.now.place _ c.args.f.now.ops c.map_at.ensures c.requires.fits)) c.map_set.ensures

pub returns-clause-small : goal.returns-clause-small
returns-clause-small g c = length-map_set (mapped c.args.f.now.ops) c.args.x.now
