use Rattle.std.proofs.Common.{Err, sym, subst}
use Rattle.std.specs.Arc.{arc_value}
use Rattle.model_journal.specs.Journal.{graph, vals}
use Rattle.model_live.specs.Letter.{IsLetter}
use Rattle.lasp_replica.specs.Replica.{IsDelivered}
use Rattle.lasp_live.specs.Own.{total_in}
use Rattle.lasp_live.proofs.RefusalLaws.{never-full, never-wrong}
use Rattle.lasp_live.proofs.takes.deliver.Goals as goal

pub unreachable-requires : goal.unreachable-requires
unreachable-requires g c =
    let X = g.F.Feeder.frame c.args.f.now in
    let new = g.F.Feeder.seen c.deliver.new.self in
    let plan = c.args.letter.now.1 in
    let m = arc_value c.message-2.result.now in
    let letter : IsLetter plan.0 plan.1 m = subst (IsLetter plan.0 plan.1) (sym c.message-2.ensures) c.recall.ensures in
    let answer = c.in-Err-WrongGraph.ensures.answer in
    let wrong = subst (λ why. IsDelivered {A = Unit {0}} X.nodes (graph X new) (vals X new) m (Err why)) c.in-Err-WrongGraph.field-0-is answer.1 in
    never-wrong plan.0 plan.1 c.args.me c.args.own.now.updates (total_in c.args.own.now) X (g.F.Feeder.frame c.deliver.new.self) (g.F.Feeder.seen c.args.f.now) new m
    c.requires.frame c.deliver.ensures.frame c.requires.knows answer.0 c.recall-in-Err-WrongGraph.ensures.legal c.recall-in-Err-WrongGraph.ensures.made letter wrong

pub unreachable-requires-in-Err-TooManyRows : goal.unreachable-requires-in-Err-TooManyRows
unreachable-requires-in-Err-TooManyRows g c =
    let X = g.F.Feeder.frame c.args.f.now in
    let new = g.F.Feeder.seen c.deliver.new.self in
    let plan = c.args.letter.now.1 in
    let m = arc_value c.message-2.result.now in
    let letter : IsLetter plan.0 plan.1 m = subst (IsLetter plan.0 plan.1) (sym c.message-2.ensures) c.recall.ensures in
    let answer = c.in-Err-TooManyRows.ensures.answer in
    let full = subst (λ why. IsDelivered {A = Unit {0}} X.nodes (graph X new) (vals X new) m (Err why)) c.in-Err-TooManyRows.field-0-is answer.1 in
    never-full plan.0 plan.1 c.args.me c.args.own.now.updates (total_in c.args.own.now) X (g.F.Feeder.frame c.deliver.new.self) (g.F.Feeder.seen c.args.f.now) new m
    c.requires.frame c.deliver.ensures.frame c.requires.knows answer.0 c.recall-in-Err-TooManyRows.ensures.legal c.recall-in-Err-TooManyRows.ensures.made letter c.requires.small c.in-Err-TooManyRows.field-0-0 full.1
