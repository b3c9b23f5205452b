use Rattle.std.proofs.Common.{rules, arith, ◌≡◌, ◌+◌, ◌<◌, ◌≤◌}
use Rattle.lasp_replica.specs.Entries.{entry_of}
use Rattle.model_core.proofs.TraceLaws.{pushed-next, pushed-all}
use Rattle.lasp_core.proofs.journal.push_journal.Goals as goal

pub loop-i-preserved : goal.loop-i-preserved
loop-i-preserved c = record {
  few = search rules;
  pushed = pushed-next _ _ c.args.p c.loop-i.i c.loop-i.updates _ c.args.core.now.entries (entry_of c.entry_at-entry.result.now) _ _ _ (search rules) c.entry_at-entry.ensures.entry c.updates_with-updates.ensures (search rules) c.in_ok-push_entry.ensures c.loop-i.invariant.pushed;
}

pub returns : goal.returns
returns c = pushed-all _ c.args.p c.loop-i.i c.loop-i.updates c.args.core.now.entries _ _ (search rules) c.loop-i.invariant.pushed
