use Rattle.lasp_workers.specs.Replicas.{pairs_of}
use Rattle.lasp_threads.proofs.SpotLaws.{spots-stay}
use Rattle.lasp_threads.proofs.worker.Worker.work_once.Goals as goal

pub returns : goal.returns
returns g c = spots-stay (pairs_of c.args.self.now.replicas) (pairs_of c.work.new.replicas) c.work.ensures.each
