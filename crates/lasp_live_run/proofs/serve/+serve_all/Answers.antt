use Rattle.lasp_live_run.proofs.ServeLaws.{zip-more}
use Rattle.lasp_live_run.proofs.serve.+serve_all.Goals as goal

pub returns-clause-served : goal.returns-clause-served
returns-clause-served g t c =
    zip-more g.D.Duty.view (g.D.Duty.served c.args.tools.now) c.args.duties.items c.pop.new.self.items c.in-Some.last c.push.new.self.items c.join-last.result.1.items c.join-last.result.0
    c.in-Some.ensures.items c.in-Ok.ensures.items c.join-last.ensures.second.0 c.join-last.ensures.first
