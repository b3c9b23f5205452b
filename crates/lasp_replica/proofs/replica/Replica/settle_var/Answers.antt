use Rattle.std.proofs.Common.{IsSome, Option, None, List, slice_index_or, refl, sym, subst, ◌∙◌}
use Rattle.model_sets.specs.Rows.{of_rows}
use Rattle.lasp_graph.specs.States.{held_at, extended}
use Rattle.lasp_replica.specs.declared.process.Process.{Process}
use Rattle.lasp_replica.specs.declared.replica.Replica.{Replica}
use Rattle.lasp_replica.proofs.FinishLaws.{process-some}
use Rattle.lasp_replica.proofs.InPlaceLaws.{settled}
use Rattle.lasp_replica.proofs.replica.Replica.settle_var.Goals as goal

pub rebase-requires-clause-derived : goal.rebase-requires-clause-derived
rebase-requires-clause-derived g c =
    let r = c.args.self.now in
    subst (λ (ps : List (Option Process)). IsSome (slice_index_or ps c.args.var None)) (sym c.in_ok-grows.ensures.ok.processes) (process-some r c.requires.replica c.args.var c.requires.derived)

pub returns-clause-ok : goal.returns-clause-ok
returns-clause-ok g c =
    let r = c.args.self.now in
    let y = c.args.var in
    let taken = c.take_in.new.self in
    let new : Replica = record {
      graph = taken.graph;
      opening = taken.opening;
      me = taken.me;
      counts = taken.counts;
      states = taken.states;
      histories = c.record_growth.new.histories;
      processes = c.rebase.new.processes;
      journal = c.write_down.new.journal;
    } in
    settled r taken new c.requires.replica c.args.by y c.requires.derived (extended (held_at r.states y) (of_rows c.in_ok-given.given.rows.items) c.in_ok-given.given.number) c.in_ok-base.base c.in_ok-grows.grows c.len-n.result
    refl c.in_ok-grows.ensures.state c.in_ok-base.ensures c.in_ok-grows.ensures.ok (c.len-n.ensures ∙ taken.journal.ok.0) (record {
      graph = refl;
      opening = refl;
      me = refl;
      counts = refl;
      states = refl;
      histories = c.record_growth.ensures;
      bases = c.rebase.ensures.bases;
      busy = c.rebase.ensures.busy;
      journal = c.write_down.ensures;
    })
