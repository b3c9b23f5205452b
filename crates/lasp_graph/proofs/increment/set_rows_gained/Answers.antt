use Rattle.model_sets.specs.Rows.{of_rows}
use Rattle.model_states.specs.Content.{row_limit}
use Rattle.lasp_graph.specs.Kind.{kind_of}
use Rattle.lasp_graph.proofs.DeltaLaws.{width-change, ok-gained, long-gained}
use Rattle.lasp_graph.proofs.increment.set_rows_gained.Goals as goal

pub gained_list-requires-clause-width : goal.gained_list-requires-clause-width
gained_list-requires-clause-width g c = width-change c.requires.old.first c.args.x_change.now c.args.x.now c.requires.old.first_grown c.requires.width

pub returns-clause-whole : goal.returns-clause-whole
returns-clause-whole g c = ok-gained (λ rows. of_rows rows.items) c.gained_list.result (kind_of c.args.kind.now) c.args.x_change.now c.args.x.now c.args.y_change.now c.args.y.now c.args.old.now c.requires.old c.gained_list.ensures.ok

pub returns-clause-too_many : goal.returns-clause-too_many
returns-clause-too_many g c =
    λ e. long-gained row_limit (kind_of c.args.kind.now) c.args.x_change.now c.args.x.now c.args.y_change.now c.args.y.now c.args.old.now c.requires.old (c.gained_list.ensures.too_many e)
