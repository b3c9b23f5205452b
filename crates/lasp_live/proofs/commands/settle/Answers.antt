use Rattle.std.proofs.Common.{◌≡◌, Some, Err, subst}
use Rattle.model_graph.specs.Evaluation.{eval, first_large}
use Rattle.model_journal.specs.Journal.{graph, sources}
use Rattle.lasp_live.specs.Turns.{Settles}
use Rattle.lasp_live.proofs.RefusalLaws.{never-large}
use Rattle.lasp_live.proofs.commands.settle.Goals as goal

pub unreachable-requires : goal.unreachable-requires
unreachable-requires g c =
    let X = g.F.Feeder.frame c.args.f.now in
    let Y = g.F.Feeder.frame c.settle_all.new.self in
    let new = g.F.Feeder.seen c.settle_all.new.self in
    let large : first_large 0 (eval (graph Y new) (sources Y new)) ≡ Some c.in-Err-TooLarge.field-0-0 = subst (λ why. Settles Y new (Err why)) c.in-Err-TooLarge.field-0-is c.in-Err-TooLarge.ensures.settles in
    never-large X Y (g.F.Feeder.seen c.args.f.now) new c.in-Err-TooLarge.field-0-0 c.settle_all.ensures.frame c.settle_all.ensures.learns c.recall.ensures.legal c.requires.small large
