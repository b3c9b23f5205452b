use Rattle.lasp_state.specs.State.{content_of}
use Rattle.lasp_graph.proofs.DeltaLaws.{changed-change}
use Rattle.lasp_graph.proofs.delta.changed_between.Goals as goal

pub returns-clause-change : goal.returns-clause-change
returns-clause-change c =
    λ more. changed-change (content_of c.args.before.now) (content_of c.args.after.now) c.set_of-old.result.now c.set_of-new.result.now c.in_ok-changed.field-0 c.set_of-old.ensures c.set_of-new.ensures c.in_ok-changed.ensures c.ascends.ensures c.ascends-2.ensures more
