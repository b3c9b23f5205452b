use Rattle.std.proofs.Common.{◌≡◌, ◌++◌, ◌∷◌, []}
use Rattle.lasp_logset.proofs.KeptLaws.{kept-put, put-raised, succeeded}
use Rattle.lasp_logset.proofs.ChainLaws.{stay-insert}
use Rattle.lasp_logset.proofs.table.put_in.Goals as goal

pub returns-clause-kept : goal.returns-clause-kept
returns-clause-kept c =
    kept-put c.args.rows.now.entries c.args.log.now.items c.insert.new.self.entries c.push.new.self.items c.coming.inside.name c.is_dead-dead.result c.coming.inside.entry c.args.coming c.coming.view_is c.coming.invariant
    c.is_dead-dead.ensures c.recall_ints.ensures c.requires.kept c.requires.raises c.in_ok-insert.ensures.entries
    (succeeded c.push.result (c.push.new.self.items ≡ c.args.log.now.items ++ c.coming.inside.entry ∷ []) (c.push.ensures.succeeds c.requires.room) c.push.ensures.ok)

pub returns-clause-stay : goal.returns-clause-stay
returns-clause-stay c =
    rw c.in_ok-insert.ensures.entries
    (stay-insert c.args.rows.now.entries c.coming.inside.name c.is_dead-dead.result
    (put-raised c.args.rows.now.entries c.coming.inside.name c.is_dead-dead.result c.coming.inside.entry c.args.coming c.coming.view_is c.coming.invariant c.is_dead-dead.ensures c.requires.raises))
