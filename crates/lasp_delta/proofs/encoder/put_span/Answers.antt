use Rattle.std.proofs.Common.{rules, append_assoc}
use Rattle.lasp_delta.proofs.encoder.put_span.Goals as goal

pub returns : goal.returns
returns c = search (rules, append_assoc)
