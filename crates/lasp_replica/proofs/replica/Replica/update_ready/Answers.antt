use Rattle.std.proofs.Common.{length, refl, ◌∙◌}
use Rattle.lasp_replica.proofs.ExtendLaws.{written}
use Rattle.lasp_replica.proofs.UpdateLaws.{updated, pushed, counted, entries-many}
use Rattle.lasp_replica.proofs.replica.Replica.update_ready.Goals as goal

pub returns-clause-ok : goal.returns-clause-ok
returns-clause-ok c =
    let ready = c.in_ok-grows.ensures.ok in
    updated c.args.self.now c.join_gain.new.self _ c.args.by c.args.var c.len-entry.result c.args.op.now c.in_ok-delta.delta c.in_ok-grows.grows c.requires.replica c.requires.small c.recall_op.ensures c.in_ok-delta.ensures.ok ready
    refl refl refl (counted c.args.self.now c.join_gain.new.self c.from-me.result c.at-k.result c.set.new.self ready.me ready.counts c.from-me.ensures c.at-k.ensures c.set.ensures) refl
    (entries-many c.args.self.now.journal.items c.join_gain.new.self.journal.items c.len-entry.result ready.entries (c.len-entry.ensures ∙ c.join_gain.new.self.journal.ok.0)) c.record_growth.ensures refl
    (pushed c.push.result c.args.self.now.journal.items c.join_gain.new.self.journal.items c.push.new.self.items c.args.by c.args.var c.args.op.now c.in_ok-own.own ready.entries (c.push.ensures.succeeds ready.room) c.push.ensures.items c.in_ok-own.ensures.op)
    c.in_ok-own.own (written c.push.result c.push.new.self.items c.join_gain.new.self.journal.items c.args.self.now.journal.items _ (c.push.ensures.succeeds ready.room) c.push.ensures.items ready.entries)
    (c.in_ok-own.ensures.shape (length c.args.self.now.counts))
