use Rattle.std.proofs.Common.{sym, subst}
use Rattle.model_graph.specs.Lawful.{IsDerived}
use Rattle.model_journal.specs.Journal.{graph}
use Rattle.model_core.specs.Core.{Core}
use Rattle.lasp_replica.specs.Unread.{IsUnread, rows_in}
use Rattle.lasp_node.specs.Settling.{IsIdle, AreCleanBelow}
use Rattle.lasp_node.proofs.SettleLaws.{bound-back, bound-owing}
use Rattle.lasp_node.proofs.settling.bring_up.Goals as goal

pub unread-requires : goal.unread-requires
unread-requires g c = c.requires.unclean.derived

pub take_in-requires-clause-derived : goal.take_in-requires-clause-derived
take_in-requires-clause-derived g c = subst (λ (d : Core). IsDerived (graph d.frame d.entries) c.args.var) (sym c.in_ok-unread.ensures.counted) c.requires.unclean.derived

pub take_in-requires-clause-unread : goal.take_in-requires-clause-unread
take_in-requires-clause-unread g c = subst (λ (d : Core). IsUnread d.frame d.entries c.args.var c.in_ok-unread.unread) (sym c.in_ok-unread.ensures.counted) c.in_ok-unread.ensures.unread

pub take_in-requires-clause-idle : goal.take_in-requires-clause-idle
take_in-requires-clause-idle g c = subst (λ (d : Core). IsIdle d.busy) (sym c.in_ok-unread.ensures.counted) c.requires.idle

pub take_in-requires-clause-below : goal.take_in-requires-clause-below
take_in-requires-clause-below g c = subst (λ (d : Core). AreCleanBelow c.args.var d) (sym c.in_ok-unread.ensures.counted) c.requires.below

pub returns-in_err-unread-clause-bound : goal.returns-in_err-unread-clause-bound
returns-in_err-unread-clause-bound g c = bound-back c.args.core.now c.unread.new.self c.args.var c.recall.ensures.core c.in_err-unread.ensures.err c.requires.idle

pub returns-clause-bound : goal.returns-clause-bound
returns-clause-bound g c = bound-owing c.args.core.now c.unread.new.self c.take_in.new.core c.args.var (rows_in c.in_ok-unread.unread) c.in_ok-unread.ensures.counted c.take_in.ensures.bound
