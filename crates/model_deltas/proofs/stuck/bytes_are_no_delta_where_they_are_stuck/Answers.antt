use Rattle.model_deltas.proofs.StuckLaws.{told_stuck, stuck_refused}
use Rattle.model_deltas.proofs.stuck.bytes_are_no_delta_where_they_are_stuck.Goals as goal

pub returns-clause-refused : goal.returns-clause-refused
returns-clause-refused c = stuck_refused

pub returns-clause-stuck : goal.returns-clause-stuck
returns-clause-stuck c = told_stuck
