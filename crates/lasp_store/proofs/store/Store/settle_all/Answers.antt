use Rattle.std.proofs.Common.{◌+◌, ◌≤◌, List, length, ◌≡◌, sym, ap, subst, ◌∙◌, arith}
use Rattle.model_graph.specs.Graph.{Decl}
use Rattle.model_graph.specs.Evaluation.{first_large}
use Rattle.model_readings.specs.Lawful.{FitsAll}
use Rattle.lasp_fns.specs.Steps as counted
use Rattle.lasp_graph.specs.Library.{library_of}
use Rattle.lasp_store.specs.Turn.{frame_of, graph_seen}
use Rattle.lasp_store.specs.Settled.{evaluation}
use Rattle.lasp_store.proofs.SettleLaws.{settled-both, settled-number, graph-settled, peer-settled, all-settled, none-large, told-settles}
use Rattle.lasp_store.proofs.PassedLaws.{passed-both, passed-turn, passed-wider}
use Rattle.lasp_store.proofs.store.Store.settle_all.Goals as goal

pub loop-var-init : goal.loop-var-init
loop-var-init g c =
    let old = c.args.f.now in
    let mid = c.settle_count-many.new.f in
    let pass = c.settle_count-many.ensures.pass in
    record {
      pass = pass;
      seated = c.settle_count-many.ensures.seated;
      number = settled-number old mid pass ∙ c.requires.first;
      long = c.settle_count-many.ensures.many;
      within = omega arith;
      once = passed-turn 0 0 old mid c.settle_count-many.ensures.turn;
      below = λ y low. absurd (omega (arith, low));
      fits = subst (λ (ds : List Decl). FitsAll (library_of (counted.library_of c.new-steps.result)) ds) (sym (graph-settled old mid pass c.settle_count-many.ensures.seated.legal))
          (subst (λ l. FitsAll (library_of l) (graph_seen old)) (sym c.new-steps.ensures.library) c.requires.fits);
    }

pub settle_var-requires-clause-var : goal.settle_var-requires-clause-var
settle_var-requires-clause-var g c = omega (arith, c.loop-var-test.true, c.loop-var.invariant.long)

pub loop-var-preserved : goal.loop-var-preserved
loop-var-preserved g c =
    let old = c.loop-var.f in
    let new = c.settle_var.new.f in
    let pass = c.settle_var.ensures.pass in
    let same = graph-settled old new pass c.settle_var.ensures.seated.legal in
    record {
      pass = settled-both c.args.f.now old new c.loop-var.invariant.pass pass;
      seated = c.settle_var.ensures.seated;
      number = settled-number old new pass ∙ c.loop-var.invariant.number;
      long = c.loop-var.invariant.long ∙ ap (λ (ds : List Decl). length ds) (sym same);
      within = omega (arith, c.loop-var-test.true);
      once = passed-both 0 c.loop-var.var (c.loop-var.var + 1) (c.loop-var.var + 1) 1 c.args.f.now old new (omega arith) (omega arith) pass c.loop-var.invariant.once c.in-Ok.ensures.once;
      below = c.in-Ok.ensures.ok;
      fits = subst (λ (ds : List Decl). FitsAll (library_of (counted.library_of c.settle_var.new.lib)) ds) (sym same)
          (subst (λ l. FitsAll (library_of l) (graph_seen old)) (sym c.settle_var.ensures.library) c.loop-var.invariant.fits);
    }

pub returns-in-Err-clause-pass : goal.returns-in-Err-clause-pass
returns-in-Err-clause-pass g c = settled-both c.args.f.now c.loop-var.f c.settle_var.new.f c.loop-var.invariant.pass c.settle_var.ensures.pass

pub returns-in-Err-clause-graph : goal.returns-in-Err-clause-graph
returns-in-Err-clause-graph g c =
    let new = c.settle_var.new.f in
    graph-settled c.args.f.now new (settled-both c.args.f.now c.loop-var.f new c.loop-var.invariant.pass c.settle_var.ensures.pass) c.settle_var.ensures.seated.legal

pub returns-in-Err-clause-peer : goal.returns-in-Err-clause-peer
returns-in-Err-clause-peer g c =
    let new = c.settle_var.new.f in
    peer-settled c.args.f.now new (settled-both c.args.f.now c.loop-var.f new c.loop-var.invariant.pass c.settle_var.ensures.pass) c.settle_var.ensures.seated.legal

pub returns-in-Err-clause-done : goal.returns-in-Err-clause-done
returns-in-Err-clause-done g c =
    let new = c.settle_var.new.f in
    told-settles (first_large 0 (evaluation (frame_of new) new.seen)) c.in-Err.why c.in-Err.ensures.large

pub returns-clause-pass : goal.returns-clause-pass
returns-clause-pass g c = settled-both c.args.f.now c.loop-var.f c.settle_length.new.f c.loop-var.invariant.pass c.settle_length.ensures.pass

pub returns-clause-graph : goal.returns-clause-graph
returns-clause-graph g c =
    let new = c.settle_length.new.f in
    graph-settled c.args.f.now new (settled-both c.args.f.now c.loop-var.f new c.loop-var.invariant.pass c.settle_length.ensures.pass) c.settle_length.ensures.seated.legal

pub returns-clause-peer : goal.returns-clause-peer
returns-clause-peer g c =
    let new = c.settle_length.new.f in
    peer-settled c.args.f.now new (settled-both c.args.f.now c.loop-var.f new c.loop-var.invariant.pass c.settle_length.ensures.pass) c.settle_length.ensures.seated.legal

pub returns-clause-settled : goal.returns-clause-settled
returns-clause-settled g c =
    let old = c.loop-var.f in
    let new = c.settle_length.new.f in
    let pass = c.settle_length.ensures.pass in
    let legal = c.settle_length.ensures.seated.legal in
    let high : length (graph_seen old) ≤ c.loop-var.var = omega (arith, c.loop-var-test.false, c.loop-var.invariant.long) in
    all-settled old new pass legal c.loop-var.var high (omega (arith, c.loop-var.invariant.within, c.loop-var.invariant.long)) c.loop-var.invariant.below

pub returns-clause-done : goal.returns-clause-done
returns-clause-done g c =
    let old = c.loop-var.f in
    let new = c.settle_length.new.f in
    let pass = c.settle_length.ensures.pass in
    let legal = c.settle_length.ensures.seated.legal in
    let high : length (graph_seen old) ≤ c.loop-var.var = omega (arith, c.loop-var-test.false, c.loop-var.invariant.long) in
    none-large old new pass legal c.loop-var.var high (omega (arith, c.loop-var.invariant.within, c.loop-var.invariant.long)) c.loop-var.invariant.below

pub returns-in-Err-clause-once : goal.returns-in-Err-clause-once
returns-in-Err-clause-once g c =
    let var = c.loop-var.var in
    let old = c.loop-var.f in
    let new = c.settle_var.new.f in
    let pass = c.settle_var.ensures.pass in
    let long : length (graph_seen new) ≡ length (graph_seen old) = ap (λ (ds : List Decl). length ds) (graph-settled old new pass c.settle_var.ensures.seated.legal) in
    passed-wider 0 (var + 1) (length (graph_seen new)) ((var + 1) + 3) (length (graph_seen new) + 3) c.args.f.now new (omega (arith, c.loop-var-test.true, c.loop-var.invariant.long, long)) (omega (arith, c.loop-var-test.true, c.loop-var.invariant.long, long))
    (passed-both 0 var (var + 1) (var + 1) 3 c.args.f.now old new (omega arith) (omega arith) pass c.loop-var.invariant.once c.in-Err.ensures.stopped)

pub returns-clause-once : goal.returns-clause-once
returns-clause-once g c =
    let var = c.loop-var.var in
    let old = c.loop-var.f in
    let new = c.settle_length.new.f in
    let pass = c.settle_length.ensures.pass in
    let long : length (graph_seen new) ≡ length (graph_seen old) = ap (λ (ds : List Decl). length ds) (graph-settled old new pass c.settle_length.ensures.seated.legal) in
    passed-wider 0 var (length (graph_seen new)) ((var + 1) + 1) (length (graph_seen new) + 3) c.args.f.now new (omega (arith, c.loop-var.invariant.within, c.loop-var.invariant.long, long)) (omega (arith, c.loop-var.invariant.within, c.loop-var.invariant.long, long))
    (passed-both 0 var var (var + 1) 1 c.args.f.now old new (omega arith) (omega arith) pass c.loop-var.invariant.once (passed-turn var var old new c.settle_length.ensures.turn))
