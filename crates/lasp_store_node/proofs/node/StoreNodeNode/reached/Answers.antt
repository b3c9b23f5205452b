use Rattle.std.proofs.Common.{◌≡◌, ◌∙◌, sym, ap, subst}
use Rattle.model_states.specs.Threshold.{meets}
use Rattle.model_journal.specs.Journal.{val, vals}
use Rattle.model_core.specs.Known.{HasLeast}
use Rattle.lasp_state.specs.State.{content_of}
use Rattle.lasp_state.specs.Threshold.{threshold_of}
use Rattle.lasp_graph.specs.States.{Held}
use Rattle.lasp_store.specs.Turn.{frame_of}
use Rattle.lasp_store.proofs.KnownLaws.{least-met}
use Rattle.lasp_store_node.proofs.LentLaws.{least-shown}
use Rattle.lasp_store_node.proofs.node.StoreNodeNode.reached.Goals as goal

pub is_met_by-requires-clause-known : goal.is_met_by-requires-clause-known
is_met_by-requires-clause-known g c is_known =
    let old = c.args.self.now.feed in
    let new = c.look.new.self.feed in
    let t = threshold_of c.args.threshold in
    let content : content_of c.deref.result.now ≡ val (frame_of new) new.seen c.args.x = ap content_of c.deref.ensures ∙ ap (λ (h : Held). h.content) c.in_ok-state.ensures.state in
    subst (HasLeast t) (sym content) (least-shown (vals (frame_of old) old.seen) (vals (frame_of new) new.seen) c.args.x t c.look.ensures.learns.learns.more (c.requires.known is_known))

pub read_to_threshold-requires-clause-known : goal.read_to_threshold-requires-clause-known
read_to_threshold-requires-clause-known g c =
    let new = c.look.new.self.feed in
    let t = threshold_of c.args.threshold in
    let content : content_of c.deref.result.now ≡ val (frame_of new) new.seen c.args.x = ap content_of c.deref.ensures ∙ ap (λ (h : Held). h.content) c.in_ok-state.ensures.state in
    least-met t (val (frame_of new) new.seen c.args.x) (sym (c.is_met_by.ensures ∙ ap (meets t) content) ∙ c.if-not-is_met_by.false)
