use Rattle.std.proofs.Common.{[], ap, sym, ◌∙◌, append-nil}
use Rattle.model_core.specs.Core.{Core}
use Rattle.tests_cores.proofs.cores.hand_in.Goals as goal

pub returns-in-Err-clause-entries : goal.returns-in-Err-clause-entries
returns-in-Err-clause-entries c = ([], ap (λ (k : Core). k.entries) c.in-Err.ensures.err ∙ sym (append-nil c.args.core.now.entries))
