use Rattle.std.proofs.Common.{sym}
use Rattle.lasp_call.proofs.message.may_take.Goals as goal

pub returns-clause-taken : goal.returns-clause-taken
returns-clause-taken g c = c.fits.ensures (g.N.Node.view c.args.node.now).peer (sym c.in_ok-counts.ensures.counts)
