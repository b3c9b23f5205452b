use Rattle.std.proofs.lemmas.Result.{on_ok_weaker}
use Rattle.lasp_dots.proofs.WorldLaws.{sync-done}
use Rattle.lasp_dots.proofs.run.replicas.DotReplicas.sync.Goals as goal

pub returns : goal.returns
returns c =
    on_ok_weaker c.take_all.result (sync-done c.args.self.now c.post_all.new.self c.take_all.new.self c.messages-first.result c.messages-first.ensures c.in_ok-post_all.ensures.size c.in_ok-post_all.ensures.done) c.take_all.ensures
