use Rattle.std.proofs.Common.{[], sym, subst, ◌∙◌}
use Rattle.model_sets.specs.Rises.{AreApart}
use Rattle.lasp_logset.proofs.RowListLaws.{live-apart, dead-apart}
use Rattle.lasp_logset.proofs.row_list.RowList.of_log.Goals as goal
use Rattle.lasp_logset.proofs.row_list.RowList.of_log.Goals.{then-are_live-via-then-are_live, then-are_live-via-else-are_live+then-are_dead}

pub of-requires : goal.of-requires
of-requires c =
    subst AreApart (sym c.in_ok-shares.ensures) (elim c.then-are_live.branch [
      | then-are_live-via-then-are_live w ↦ live-apart [] c.args.rows.now c.requires (sym c.are_live.ensures ∙ w.if-are_live.true)
      | then-are_live-via-else-are_live+then-are_dead w ↦ dead-apart [] c.args.rows.now c.requires (sym w.are_dead.ensures ∙ w.if-are_dead.true)
    ])
