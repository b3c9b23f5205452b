use Rattle.std.proofs.Common.{ℕ, Some, length, sym, ap, subst, ◌∙◌, arith}
use Rattle.std.specs.List.{AllByRecursion}
use Rattle.model_values.proofs.ListLaws.{each-at}
use Rattle.model_states.specs.Content.{join_contents}
use Rattle.model_graph.specs.Graph.{Decl}
use Rattle.model_wire.specs.Lawful.{IsSource, IsSent}
use Rattle.lasp_state.specs.declared.state.State.{State}
use Rattle.lasp_state.specs.State.{content_of, shape_of, AreJoinable}
use Rattle.lasp_wire.specs.Sent.{kind_of, sent}
use Rattle.lasp_delta.proofs.PlaceLaws.{alike-at, joined-first, joined-second}
use Rattle.lasp_delta.proofs.KindLaws.{joinable}
use Rattle.lasp_delta.proofs.JoinLaws.{joined-is}
use Rattle.lasp_delta.proofs.application.joined_source.Goals.{then-i-len-2+in_ok-join_in, else-i-len-2}
use Rattle.lasp_delta.proofs.application.joined_source.Goals as goal

pub returns-then-i-len : goal.returns-then-i-len
returns-then-i-len c =
    joined-second c.args.base.now.sources c.args.more.now.sources c.args.i (sent c.source_at.result.0.now c.source_at.result.1.now) c.source_at.ensures (omega (arith, c.if-i-len.true, c.len.ensures))
    ∙ ap (λ (s : State). Some (sent c.source_at.result.0.now s)) (sym c.in_ok-try_clone.ensures)

pub join_in-requires : goal.join_in-requires
join_in-requires c =
    let nodes = length c.args.base.now.counts in
    let mine = c.source_at-2.result.1.now in
    let other = c.source_at-then-i-len-2.result.1.now in
    let is : IsSource nodes (kind_of mine) (content_of mine) = (each-at (IsSent nodes) c.args.base.now.sources c.args.i (sent c.source_at-2.result.0.now mine) c.recall.ensures.sources c.source_at-2.ensures).1 in
    let brought : IsSource nodes (kind_of other) (content_of other) =
    (each-at (IsSent nodes) c.args.more.now.sources c.args.i (sent c.source_at-then-i-len-2.result.0.now other) (subst (λ (n : ℕ). AllByRecursion (IsSent n) c.args.more.now.sources) (sym c.requires.alike.nodes) c.recall-2.ensures.sources) c.source_at-then-i-len-2.ensures).1 in
    let same = alike-at c.args.base.now.sources c.args.more.now.sources c.args.i (sent c.source_at-2.result.0.now mine) (sent c.source_at-then-i-len-2.result.0.now other) c.requires.alike.sources c.source_at-2.ensures c.source_at-then-i-len-2.ensures in
    subst (λ (s : State). AreJoinable s other) (sym c.in_ok-all.ensures) (joinable nodes mine other is brought (ap (λ (d : Decl). d.kind) same))

pub returns : goal.returns
returns c = elim c.if-i-len-2.branch [
  | then-i-len-2+in_ok-join_in w ↦
      joined-is c.args.base.now.sources c.args.more.now.sources c.args.i c.source_at-2.result.0.now w.source_at-then-i-len-2.result.0.now c.source_at-2.result.1.now w.source_at-then-i-len-2.result.1.now c.if-i-len-2.all
      c.source_at-2.ensures w.source_at-then-i-len-2.ensures (ap shape_of w.all-is ∙ w.join_in.ensures.shape ∙ ap shape_of c.in_ok-all.ensures)
      (ap content_of w.all-is ∙ w.in_ok-join_in.ensures.ok ∙ ap (λ (s : State). join_contents (content_of s) (content_of w.source_at-then-i-len-2.result.1.now)) c.in_ok-all.ensures)
  | else-i-len-2 w ↦
      joined-first c.args.base.now.sources c.args.more.now.sources c.args.i (sent c.source_at-2.result.0.now c.source_at-2.result.1.now) c.source_at-2.ensures (omega (arith, w.if-i-len-2.false, c.len-2.ensures))
      ∙ ap (λ (s : State). Some (sent c.source_at-2.result.0.now s)) (sym (w.all-is ∙ c.in_ok-all.ensures))
]
