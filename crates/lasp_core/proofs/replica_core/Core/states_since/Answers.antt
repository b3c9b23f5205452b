use Rattle.std.proofs.Common.{subst}
use Rattle.std.specs.Prelude.{IfOk}
use Rattle.model_core.specs.Core.{Core}
use Rattle.lasp_core.specs.Since.{AreStatesSince}
use Rattle.lasp_core.proofs.SinceLaws.{if-since}
use Rattle.lasp_core.proofs.replica_core.Core.states_since.Goals as goal

pub returns : goal.returns
returns c =
    subst (λ (s : Core). IfOk c.states_since.result (AreStatesSince s.frame s.entries c.args.n)) c.self.view_is
    (if-since c.self.inside.replica c.self.invariant.replica c.args.n c.states_since.result c.states_since.ensures)
