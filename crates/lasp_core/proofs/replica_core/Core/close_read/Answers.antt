use Rattle.lasp_core.proofs.CoresLaws.{closed-sound}
use Rattle.lasp_core.proofs.replica_core.Core.close_read.Goals as goal

pub invariant_of-self : goal.invariant_of-self
invariant_of-self c = closed-sound c.self.inside.replica c.args.read.now.number c.self.inside.parked.items c.remove_read.new.reads.items c.self.inside.opened c.self.invariant (c.remove_read.ensures.reads, c.remove_read.ensures.items)
