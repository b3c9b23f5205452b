use Rattle.std.proofs.Common.{Some, sym, ap, ◌∙◌}
use Rattle.std.proofs.Math.Seq.{map-set_same}
use Rattle.std.proofs.lemmas.List.{map-set}
use Rattle.lasp_replica.specs.declared.process.Process.{Process}
use Rattle.lasp_replica.specs.Replica.{seen_process, jobs_of}
use Rattle.lasp_replica.proofs.replica.finish.rebase.Goals as goal

pub returns-in-Some-clause-bases : goal.returns-in-Some-clause-bases
returns-in-Some-clause-bases c =
    let process : Process = record { n = c.args.n; base = c.args.inputs; busy = c.in-Some.process.busy } in
    map-set seen_process c.args.processes.now.items c.args.var (Some process)

pub returns-in-Some-clause-busy : goal.returns-in-Some-clause-busy
returns-in-Some-clause-busy c =
    let process : Process = record { n = c.args.n; base = c.args.inputs; busy = c.in-Some.process.busy } in
    map-set_same jobs_of c.args.processes.now.items c.args.var (Some process) c.index_mut.result.now (ap jobs_of (sym c.in-Some.is ∙ c.index_mut.ensures.value))
