use Rattle.std.proofs.Common.{◌∙◌, ap}
use Rattle.model_states.specs.Content.{of_set}
use Rattle.lasp_graph.proofs.DeltaLaws.{joined-rows}
use Rattle.lasp_graph.proofs.increment.fold_gain.Goals as goal

pub returns-clause-content : goal.returns-clause-content
returns-clause-content g c =
    ap of_set (joined-rows c.in_ok-covered.covered c.args.before.now c.args.change.now c.join_in.new.self c.in_ok-covered.ensures c.in_ok-join_in.ensures.ok ∙ c.requires.change.joined)
