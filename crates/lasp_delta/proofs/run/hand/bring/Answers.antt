use Rattle.std.proofs.Common.{ℕ, List, length, ap, ◌∙◌}
use Rattle.lasp_drive.specs.Driver.{seen}
use Rattle.lasp_delta.proofs.MessageLaws.{may-asked, carried-brings}
use Rattle.lasp_delta.proofs.run.hand.bring.Goals as goal

pub check_gap-requires : goal.check_gap-requires
check_gap-requires g c = ap (λ (cs : List ℕ). length cs) c.in_ok-known.ensures.counts ∙ c.requires.stands.wide

pub hand-requires-clause-may : goal.hand-requires-clause-may
hand-requires-clause-may g c =
    let d = seen g.N.Node.view g.N.Node.read c.args.driver.now in
    record { ready = c.counts_at.ensures.asked.ready; lawful = may-asked c.args.c c.args.p c.args.i d (seen g.N.Node.view g.N.Node.read c.counts_at.new.driver) c.counts_at.ensures.asked c.requires.may.lawful }

pub hand-requires-clause-brings : goal.hand-requires-clause-brings
hand-requires-clause-brings g c =
    carried-brings c.args.c c.args.p c.args.i (seen g.N.Node.view g.N.Node.read c.args.driver.now) (seen g.N.Node.view g.N.Node.read c.counts_at.new.driver) c.args.delta.now c.in_ok-known.known c.carried.result.now c.counts_at.ensures.asked c.requires.stands
    c.in_ok-known.ensures.counts c.in-Ok.ensures c.carried.ensures

pub take-requires : goal.take-requires
take-requires g c =
    let d = seen g.N.Node.view g.N.Node.read c.args.driver.now in
    record { ready = c.counts_at.ensures.asked.ready; lawful = may-asked c.args.c c.args.p c.args.i d (seen g.N.Node.view g.N.Node.read c.counts_at.new.driver) c.counts_at.ensures.asked c.requires.may.lawful }
