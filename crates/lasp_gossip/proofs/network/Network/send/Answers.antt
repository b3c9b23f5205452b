use Rattle.std.proofs.Common.{◌≡◌, ◌≤◌, ◌+◌, ◌++◌, [], ◌∷◌, List, length, map, ap, subst, ◌∙◌, arith}
use Rattle.std.specs.Arc.{arc_value}
use Rattle.model_graph.specs.Message.{Message}
use Rattle.model_graph.specs.Spelling.{spelled}
use Rattle.lasp_gossip.specs.Network.{Network, network, with_sent, size_of}
use Rattle.lasp_gossip.proofs.SizeLaws.{sent-more, size_more, tally-within}
use Rattle.lasp_gossip.proofs.network.Network.send.Goals as goal

pub returns-clause-ok : goal.returns-clause-ok
returns-clause-ok c =
    let sent : map arc_value c.push_reserved.new.self.items ≡ map arc_value c.self.inside.messages.items ++ c.args.m ∷ [] =
    sent-more arc_value c.self.inside.messages.items c.reserve.new.self.items c.push_reserved.new.self.items c.in_ok-message.message c.args.m c.reserve.ensures.items c.push_reserved.ensures.items c.in_ok-message.ensures.ok in
    ap (network c.self.inside.limit) sent ∙ ap (λ (n : Network). with_sent n c.args.m) c.self.view_is

pub returns-clause-room : goal.returns-clause-room
returns-clause-room c =
    let sent = map arc_value c.self.inside.messages.items in
    let taken = c.take.new.self in
    let before : map arc_value c.deref.result.now ≡ sent = ap (map arc_value) (c.deref.ensures.value ∙ c.reserve.ensures.items) in
    let all : map arc_value c.deref.result.now ++ c.deref-2.result.now ∷ [] ≡ sent ++ c.args.m ∷ [] =
    ap (λ (l : List Message). l ++ c.deref-2.result.now ∷ []) before ∙ ap (λ (m : Message). sent ++ m ∷ []) (c.deref-2.ensures ∙ c.in_ok-message.ensures.ok) in
    let fits = tally-within (map arc_value c.deref.result.now ++ c.deref-2.result.now ∷ []) c.self.inside.limit taken.counted taken.size taken.most c.in_ok-take.ensures.ok in
    subst (λ (n : Network). size_of n.sent + length (spelled c.args.m) ≤ n.limit) c.self.view_is (omega (arith, fits, ap size_of all, size_more sent c.args.m))
