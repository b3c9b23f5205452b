use Rattle.std.proofs.Common.{ℕ, Some, length, sym, ap, subst, ◌∙◌, arith}
use Rattle.std.specs.List.{AllByRecursion}
use Rattle.model_values.proofs.ListLaws.{each-at}
use Rattle.model_graph.specs.Graph.{Decl}
use Rattle.model_runs.proofs.SourceLaws.{source-ordered}
use Rattle.model_wire.specs.Lawful.{IsSource, IsSent}
use Rattle.lasp_state.specs.declared.state.State.{State}
use Rattle.lasp_state.specs.State.{content_of}
use Rattle.lasp_wire.specs.Sent.{kind_of, sent}
use Rattle.lasp_delta.proofs.PlaceLaws.{alike-at}
use Rattle.lasp_delta.proofs.KindLaws.{source-no-fold, same-shape}
use Rattle.lasp_delta.proofs.JoinLaws.{changed-is, changed-all}
use Rattle.lasp_delta.proofs.difference.changed_source.Goals as goal

pub changed_state-requires-clause-shape : goal.changed_state-requires-clause-shape
changed_state-requires-clause-shape c =
    let nodes = length c.args.after.now.counts in
    let old = c.source_at-then-i-len.result.1.now in
    let new = c.source_at.result.1.now in
    let was : IsSource nodes (kind_of old) (content_of old) =
    (each-at (IsSent nodes) c.args.before.now.sources c.args.i (sent c.source_at-then-i-len.result.0.now old) (subst (λ (n : ℕ). AllByRecursion (IsSent n) c.args.before.now.sources) c.requires.alike.nodes c.recall.ensures.sources) c.source_at-then-i-len.ensures).1 in
    let is : IsSource nodes (kind_of new) (content_of new) = (each-at (IsSent nodes) c.args.after.now.sources c.args.i (sent c.source_at.result.0.now new) c.recall-2.ensures.sources c.source_at.ensures).1 in
    let same = alike-at c.args.before.now.sources c.args.after.now.sources c.args.i (sent c.source_at-then-i-len.result.0.now old) (sent c.source_at.result.0.now new) c.requires.alike.sources c.source_at-then-i-len.ensures c.source_at.ensures in
    same-shape nodes old new was is (ap (λ (d : Decl). d.kind) same)

pub changed_state-requires-clause-source : goal.changed_state-requires-clause-source
changed_state-requires-clause-source c =
    source-no-fold (length c.args.after.now.counts) c.source_at.result.1.now
    (each-at (IsSent (length c.args.after.now.counts)) c.args.after.now.sources c.args.i (sent c.source_at.result.0.now c.source_at.result.1.now) c.recall-2.ensures.sources c.source_at.ensures).1

pub returns-in_ok-changed_state : goal.returns-in_ok-changed_state
returns-in_ok-changed_state c =
    changed-is c.args.before.now.sources c.args.after.now.sources c.args.i c.source_at.result.0.now c.source_at-then-i-len.result.0.now c.source_at-then-i-len.result.1.now c.source_at.result.1.now c.in_ok-changed_state.field-0
    c.source_at.ensures c.source_at-then-i-len.ensures c.in_ok-changed_state.ensures.shape c.in_ok-changed_state.ensures.content

pub returns-in_ok-try_clone : goal.returns-in_ok-try_clone
returns-in_ok-try_clone c =
    let nodes = length c.args.after.now.counts in
    let state = c.source_at.result.1.now in
    let is : IsSource nodes (kind_of state) (content_of state) = (each-at (IsSent nodes) c.args.after.now.sources c.args.i (sent c.source_at.result.0.now state) c.recall-2.ensures.sources c.source_at.ensures).1 in
    changed-all c.args.before.now.sources c.args.after.now.sources c.args.i c.source_at.result.0.now state c.source_at.ensures (omega (arith, c.if-i-len.false, c.len.ensures)) (source-ordered nodes (kind_of state) (content_of state) is)
    ∙ ap (λ (s : State). Some (sent c.source_at.result.0.now s)) (sym c.in_ok-try_clone.ensures)
