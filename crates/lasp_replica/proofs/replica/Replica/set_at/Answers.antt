use Rattle.std.proofs.Common.{arith}
use Rattle.std.specs.Arc.{arc_value}
use Rattle.lasp_replica.proofs.SettledLaws.{histories-len, histories-many}
use Rattle.lasp_replica.proofs.TakeLaws.{set-at}
use Rattle.lasp_replica.proofs.replica.Replica.set_at.Goals as goal

pub index-requires : goal.index-requires
index-requires c = histories-len c.args.self.now c.args.x (omega (arith, c.requires.set.0, histories-many c.args.self.now c.requires.replica))

pub returns : goal.returns
returns c =
    let r = c.args.self.now in
    set-at r c.requires.replica c.args.x c.args.n c.requires.set c.requires.early c.index.result.now (omega (arith, c.requires.set.0, histories-many r c.requires.replica)) c.index.ensures c.in_ok-rows.rows c.in_ok-rows.ensures (arc_value c.in_ok-new.field-0) c.in_ok-new.ensures.ok
