use Rattle.std.proofs.Common.{◌≡◌, ◌≤◌, ◌+◌, length}
use Rattle.model_readings.specs.Lawful.{FitsAll}
use Rattle.lasp_fns.specs.Steps as counted
use Rattle.lasp_graph.specs.Library.{library_of}
use Rattle.lasp_store.specs.Turn.{IsSeated, frame_of, graph_seen}
use Rattle.lasp_store.specs.Settled.{HasSettled, AreEvaluatedBelow}
use Rattle.lasp_store.specs.Passed.{HasPassed}
use Rattle.lasp_store.proofs.store.Store.settle_all.Given as goal

abbrev pub invariant-loop-var : goal.invariant-loop-var
invariant-loop-var g l = record {
  pass : HasSettled l.fn.f l.f;
  seated : IsSeated l.self l.f;
  number : l.f.number ≡ 0;
  long : l.many ≡ length (graph_seen l.f);
  within : l.var ≤ l.many;
  once : HasPassed 0 l.var (l.var + 1) l.fn.f l.f;
  below : AreEvaluatedBelow (frame_of l.f) l.f.seen l.var;
  fits : FitsAll (library_of (counted.library_of l.steps)) (graph_seen l.f);
}
