use Rattle.std.proofs.Common.{◌≤◌, IfOk, map, subst}
use Rattle.std.specs.Arc.{arc_value}
use Rattle.lasp_gossip.specs.Network.{Network, size_of}
use Rattle.lasp_gossip.proofs.SizeLaws.{size-within, tally-wider, tally-within}
use Rattle.lasp_gossip.proofs.network.Network.size.Goals as goal

pub exact-requires : goal.exact-requires
exact-requires c =
    let kept = c.self.inside.tally in
    rw c.deref.ensures.value (tally-wider (map arc_value c.self.inside.messages.items) c.self.inside.limit kept.counted kept.size kept.most c.self.invariant)

pub returns-clause-within : goal.returns-clause-within
returns-clause-within c =
    let kept = c.self.inside.tally in
    let fits : size_of (map arc_value c.deref.result.now) ≤ c.self.inside.limit =
    rw c.deref.ensures.value (tally-within (map arc_value c.self.inside.messages.items) c.self.inside.limit kept.counted kept.size kept.most c.self.invariant) in
    subst (λ (n : Network). IfOk c.exact.result (λ size. size ≤ n.limit)) c.self.view_is (size-within c.exact.result (map arc_value c.deref.result.now) c.self.inside.limit c.exact.ensures fits)
