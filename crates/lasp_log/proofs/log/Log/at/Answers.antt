use Rattle.std.proofs.Common.{sym, ◌∙◌, arith}
use Rattle.lasp_log.proofs.LogLaws.{item-at, not-past}
use Rattle.lasp_log.proofs.log.Log.at.Goals as goal

pub unreachable-requires : goal.unreachable-requires
unreachable-requires g c =
    let past = not-past c.args.self.now.items c.args.place (sym c.since.ensures ∙ c.in-None.ensures.none) in
    omega (arith, past, c.requires)

pub returns : goal.returns
returns g c = item-at c.args.self.now.items c.next.new.self c.args.place c.in-Some.item.now (sym c.since.ensures ∙ c.in-Some.ensures.some)
