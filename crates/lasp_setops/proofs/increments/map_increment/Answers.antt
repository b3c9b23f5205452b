use Rattle.model_functions.specs.Map.{mapped}
use Rattle.lasp_fns.specs.Library.{map_ops_at}
use Rattle.lasp_fns.specs.Steps.{library_of}
use Rattle.lasp_setops.proofs.GrownLaws.{map-after}
use Rattle.lasp_setops.proofs.increments.map_increment.Goals as goal

pub returns-clause-ok : goal.returns-clause-ok
returns-clause-ok g c =
    λ x after h is. map-after (mapped (map_ops_at (library_of c.args.lib.now) c.args.f)) x c.args.change.now after c.args.old.now c.in_ok-all.all c.in_ok-more.more c.join_in.new.self c.in_ok-all.ensures c.in_ok-more.ensures.ok c.in_ok-join_in.ensures.ok h is
