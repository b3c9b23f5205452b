use Rattle.std.proofs.Common.{◌≡◌, ◌∙◌, ◌<◌, ℕ, Some, length, slice_get, sym, ap, subst}
use Rattle.std.specs.Arc.{arc_value}
use Rattle.model_states.specs.Content.{Content}
use Rattle.model_journal.specs.Journal.{val}
use Rattle.model_core.specs.Core.{Read}
use Rattle.lasp_state.specs.State.{content_of}
use Rattle.lasp_graph.specs.States.{held_of}
use Rattle.lasp_replica.specs.Replica.{frame_of, entries_of}
use Rattle.lasp_core.specs.Reads.{read_of}
use Rattle.lasp_core.specs.Lacking.{LacksValue}
use Rattle.lasp_core.proofs.ParkedLaws.{state-there, state-content}
use Rattle.lasp_core.proofs.parked.seek_in.Goals as goal

pub at-requires : goal.at-requires
at-requires c =
    subst (λ (x : ℕ). x < length c.args.replica.now.states) (sym c.from.ensures) (state-there c.args.replica.now c.requires.replica (read_of c.args.read.now).var c.requires.read.declared)

pub returns-then-not-lacks_still-clause-waits : goal.returns-then-not-lacks_still-clause-waits
returns-then-not-lacks_still-clause-waits c lacking =
    let r = c.args.replica.now in
    let at : slice_get r.states (read_of c.args.read.now).var ≡ Some (held_of (arc_value c.at.result.now)) = ap (λ (x : ℕ). slice_get r.states x) (sym c.from.ensures) ∙ c.at.ensures in
    let content : content_of c.deref.result.now ≡ val (frame_of r) (entries_of r) (read_of c.seek.new.self).var =
    ap content_of c.deref.ensures ∙ state-content r c.requires.replica (read_of c.args.read.now).var (arc_value c.at.result.now) at ∙ ap (λ (q : Read). val (frame_of r) (entries_of r) q.var) (sym c.seek.ensures.same) in
    subst (λ (s : Content). LacksValue (read_of c.seek.new.self).threshold s c.seek.new.self.place) content (c.seek.ensures.found lacking)
