use Rattle.std.proofs.Common.{◌≤◌, length, map, arith, subst}
use Rattle.std.specs.Arc.{arc_value}
use Rattle.lasp_gossip.specs.Network.{Network}
use Rattle.lasp_gossip.proofs.SizeLaws.{few_sent, tally-within}
use Rattle.lasp_gossip.proofs.network.Network.len.Goals as goal

pub returns-clause-few : goal.returns-clause-few
returns-clause-few c =
    let sent = map arc_value c.self.inside.messages.items in
    let kept = c.self.inside.tally in
    subst (λ (n : Network). length n.sent ≤ n.limit) c.self.view_is (omega (arith, few_sent sent, tally-within sent c.self.inside.limit kept.counted kept.size kept.most c.self.invariant))
