use Rattle.std.proofs.Common.{◌≡◌, ◌<◌, ◌+◌, ℕ, List, [], ◌∷◌, Err, Some, sym, ap, subst, ◌∙◌, arith}
use Rattle.std.specs.Arc.{arc_value}
use Rattle.model_states.specs.Content.{Content, size_of, row_limit}
use Rattle.model_graph.specs.Graph.{Decl, kind_at}
use Rattle.model_graph.specs.Lawful.{IsDerived}
use Rattle.model_journal.specs.Entry.{Bind, entry}
use Rattle.lasp_fns.specs.Steps as counted
use Rattle.lasp_state.specs.State.{content_of}
use Rattle.lasp_graph.specs.Library.{library_of}
use Rattle.lasp_graph.specs.Evaluated.{process, Becomes, second_of}
use Rattle.lasp_graph.specs.declared.inputs.EvalRefused.{EvalRefused}
use Rattle.lasp_replica.specs.declared.job.Job.{Job}
use Rattle.lasp_core.proofs.JobLaws.{job-derived}
use Rattle.lasp_store.specs.Turn.{HadTurn, frame_of, graph_seen}
use Rattle.lasp_store.specs.Settled.{HasBound}
use Rattle.lasp_store.proofs.EvaluatedLaws.{first-too-large}
use Rattle.lasp_store.proofs.SettleLaws.{evaluated-finished, large-settled, graph-settled, settled-both}
use Rattle.lasp_store.proofs.PassedLaws.{passed-both, passed-bound, passed-turn, passed-wider}
use Rattle.lasp_store.proofs.store.Store.settle_job.Goals as goal

pub evaluate-requires : goal.evaluate-requires
evaluate-requires g c = record {
  fits = c.evaluated_jobs_have_results.ensures.fits (frame_of c.args.f.now) c.args.f.now.seen c.args.job.var c.args.job c.requires.job (library_of (counted.library_of c.args.lib.now)) c.requires.fits;
}

pub returns-in-Ok-settle_finish-clause-ok : goal.returns-in-Ok-settle_finish-clause-ok
returns-in-Ok-settle_finish-clause-ok g c =
    let old = c.args.f.now in
    let new = c.settle_finish.new.f in
    let job = c.args.job in
    let now = c.requires.job in
    evaluated-finished old new c.settle_finish.ensures.pass c.settle_finish.ensures.seated.legal job.var job.n 0 now.now (job-derived (frame_of old) old.seen job.var job now) c.requires.below
    (subst (λ (z : ℕ × ℕ). HasBound (entry 0 (Bind z.0 z.1)) old.seen new.seen) (λ i. (c.in-Ok.ensures.var.0 i, c.in-Ok.ensures.var.1 i)) c.in-Ok-settle_finish.ensures.ok)

pub settle_back-requires-clause-derived : goal.settle_back-requires-clause-derived
settle_back-requires-clause-derived g c =
    let old = c.args.f.now in
    let new = c.settle_finish.new.f in
    let var : c.in-Err.job.var ≡ c.args.job.var = ap (λ (j : Job). j.var) c.in-Err.ensures.back ∙ c.in-Ok.ensures.var.0 in
    let same : graph_seen new ≡ graph_seen old = graph-settled old new c.settle_finish.ensures.pass c.settle_finish.ensures.seated.legal in
    subst (λ (z : List Decl × ℕ). IsDerived z.0 z.1) (λ i. (sym same i, sym var i)) (job-derived (frame_of old) old.seen c.args.job.var c.args.job c.requires.job)

pub returns-in-Err-clause-pass : goal.returns-in-Err-clause-pass
returns-in-Err-clause-pass g c = settled-both c.args.f.now c.settle_finish.new.f c.settle_back.new.f c.settle_finish.ensures.pass c.settle_back.ensures.pass

pub returns-in-Err-TooManyRows-clause-large : goal.returns-in-Err-TooManyRows-clause-large
returns-in-Err-TooManyRows-clause-large g c =
    let old = c.args.f.now in
    let new = c.settle_back-in-Err-TooManyRows.new.f in
    let job = c.args.job in
    let now = c.requires.job in
    let large : row_limit < size_of (process (kind_at (arc_value job.graph) job.var) (content_of (arc_value job.inputs.first)) (content_of (second_of job.inputs))) =
    subst (λ (e : EvalRefused). Becomes (Err e) (process (kind_at (arc_value job.graph) job.var) (content_of (arc_value job.inputs.first)) (content_of (second_of job.inputs))))
    c.in-Err-TooManyRows.field-0-is c.in-Err-TooManyRows.ensures.content in
    large-settled old new c.settle_back-in-Err-TooManyRows.ensures.pass c.settle_back-in-Err-TooManyRows.ensures.seated.legal job.var
    (first-too-large (frame_of old) old.seen c.requires.seated.legal job.var (job-derived (frame_of old) old.seen job.var job now) c.requires.below
    (subst (λ (s : Content). row_limit < size_of s) (c.evaluated_jobs_have_results.ensures.present (frame_of old) old.seen job.var job now) large))
    ∙ ap (λ (x : ℕ). Some x) (sym c.in-Err-TooManyRows.ensures.var.0)

pub returns-in-Ok-settle_finish-clause-once : goal.returns-in-Ok-settle_finish-clause-once
returns-in-Ok-settle_finish-clause-once g c =
    let old = c.args.f.now in
    let new = c.settle_finish.new.f in
    let job = c.args.job in
    let now = c.requires.job in
    passed-bound job.var job.n old new now.now c.requires.unclean
    (subst (λ (z : ℕ × ℕ). HadTurn (entry 0 (Bind z.0 z.1) ∷ []) old new) (λ i. (c.in-Ok.ensures.var.0 i, c.in-Ok.ensures.var.1 i)) c.in-Ok-settle_finish.ensures.taken)

pub returns-in-Err-clause-stopped : goal.returns-in-Err-clause-stopped
returns-in-Err-clause-stopped g c =
    let y = c.args.job.var in
    let old = c.args.f.now in
    let mid = c.settle_finish.new.f in
    let new = c.settle_back.new.f in
    passed-both y y (y + 1) 1 1 old mid new (omega arith) (omega arith) c.settle_back.ensures.pass (passed-turn y y old mid c.in-Err.ensures.refused) (passed-turn y (y + 1) mid new c.settle_back.ensures.turn)

pub returns-in-Err-TooManyRows-clause-stopped : goal.returns-in-Err-TooManyRows-clause-stopped
returns-in-Err-TooManyRows-clause-stopped g c =
    let y = c.args.job.var in
    let new = c.settle_back-in-Err-TooManyRows.new.f in
    passed-wider y (y + 1) (y + 1) 1 2 c.args.f.now new (omega arith) (omega arith) (passed-turn y (y + 1) c.args.f.now new c.settle_back-in-Err-TooManyRows.ensures.turn)

pub returns-in-Err-Memory-clause-stopped : goal.returns-in-Err-Memory-clause-stopped
returns-in-Err-Memory-clause-stopped g c =
    let y = c.args.job.var in
    let new = c.settle_back-in-Err-Memory.new.f in
    passed-wider y (y + 1) (y + 1) 1 2 c.args.f.now new (omega arith) (omega arith) (passed-turn y (y + 1) c.args.f.now new c.settle_back-in-Err-Memory.ensures.turn)
