use Rattle.std.proofs.Common.{◌∙◌, arith, rules}
use Rattle.lasp_workers.proofs.LeaveLaws.{same-pairs, unleft-more, unleft-all}
use Rattle.lasp_workers.proofs.round.leave_none.Goals as goal

pub loop-i-preserved : goal.loop-i-preserved
loop-i-preserved g c = record {
  same = same-pairs c.loop-i.replicas c.loop-i.i c.index-replicas-i.result ∙ c.loop-i.invariant.same;
  none = unleft-more c.loop-i.replicas c.loop-i.i c.index-replicas-i.result (omega arith) c.loop-i.invariant.none;
  within = search rules;
}

pub returns-clause-none : goal.returns-clause-none
returns-clause-none g c = unleft-all c.loop-i.replicas c.loop-i.i (omega arith) c.loop-i.invariant.none
