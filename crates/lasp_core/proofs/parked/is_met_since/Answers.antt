use Rattle.std.proofs.Common.{◌≡◌, ◌∙◌, not, sym, ap, subst, Some, slice_get, ◌<◌, length, ℕ}
use Rattle.std.specs.Arc.{arc_value}
use Rattle.lasp_graph.specs.States.{held_of}
use Rattle.lasp_core.specs.Reads.{read_of}
use Rattle.lasp_core.proofs.ParkedLaws.{state-there, state-suits, state-met}
use Rattle.lasp_replica.specs.Replica.{frame_of, entries_of}
use Rattle.lasp_core.proofs.LackLaws.{waiting-unmet}
use Rattle.lasp_core.proofs.parked.is_met_since.Goals as goal

pub at-state-requires : goal.at-state-requires
at-state-requires c =
    subst (λ (x : ℕ). x < length c.args.replica.now.states) (sym c.from.ensures) (state-there c.args.replica.now c.requires.replica (read_of c.args.read.now).var c.requires.read.declared)

pub meets-requires : goal.meets-requires
meets-requires c =
    let at : slice_get c.args.replica.now.states (read_of c.args.read.now).var ≡ Some (held_of (arc_value c.at-state.result.now)) = ap (λ (x : ℕ). slice_get c.args.replica.now.states x) (sym c.from.ensures) ∙ c.at-state.ensures in
    rw (c.deref-then-not-lacks.ensures, c.deref-then-not-lacks-2.ensures) (state-suits c.args.replica.now c.requires.replica (read_of c.args.read.now) c.requires.read.declared c.requires.read.suits_it (arc_value c.at-state.result.now) at)

pub returns-then-not-lacks : goal.returns-then-not-lacks
returns-then-not-lacks c =
    let at : slice_get c.args.replica.now.states (read_of c.args.read.now).var ≡ Some (held_of (arc_value c.at-state.result.now)) = ap (λ (x : ℕ). slice_get c.args.replica.now.states x) (sym c.from.ensures) ∙ c.at-state.ensures in
    c.meets.ensures ∙ rw (c.deref-then-not-lacks.ensures, c.deref-then-not-lacks-2.ensures) (state-met c.args.replica.now c.requires.replica (read_of c.args.read.now) (arc_value c.at-state.result.now) at)

pub returns-else-not-lacks : goal.returns-else-not-lacks
returns-else-not-lacks c =
    let at : slice_get c.args.replica.now.states (read_of c.args.read.now).var ≡ Some (held_of (arc_value c.at-state.result.now)) = ap (λ (x : ℕ). slice_get c.args.replica.now.states x) (sym c.from.ensures) ∙ c.at-state.ensures in
    ap not c.if-not-lacks.false
    ∙ sym (c.lacks.ensures c.if-not-lacks.false)
    ∙ rw (c.deref.ensures, c.deref-2.ensures) (state-met c.args.replica.now c.requires.replica (read_of c.args.read.now) (arc_value c.at-state.result.now) at)

pub returns-then-read : goal.returns-then-read
returns-then-read c = sym (waiting-unmet (frame_of c.args.replica.now) (entries_of c.args.replica.now) c.args.read.now c.requires.waits c.if-read.true)
