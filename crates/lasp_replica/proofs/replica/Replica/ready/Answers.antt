use Rattle.std.proofs.Common.{◌≡◌, ℕ, ◌<◌, IsTrue, slice_set, refl, sym, ap, subst, ◌∙◌, arith}
use Rattle.std.proofs.Math.Seq.{map-set_same}
use Rattle.std.proofs.lemmas.List.{get_or-set_same}
use Rattle.lasp_replica.specs.Kept.{Kept}
use Rattle.lasp_replica.specs.Replica.{told, no_kept, kept_at}
use Rattle.lasp_replica.proofs.RowsLaws.{ready-rows}
use Rattle.lasp_replica.proofs.FinishLaws.{job-derived, history-there}
use Rattle.lasp_replica.proofs.replica.Replica.ready.Goals as goal

pub index_mut-requires : goal.index_mut-requires
index_mut-requires c =
    let r = c.args.self.now in
    subst (λ (n : ℕ). c.args.job.now.var < n) (sym r.histories.ok.0) (history-there r c.requires.replica c.args.job.now.var (job-derived r c.args.job.now c.requires.replica c.requires.job))

pub returns-in_err-reserve-clause-same : goal.returns-in_err-reserve-clause-same
returns-in_err-reserve-clause-same c = record {
  graph = refl;
  opening = refl;
  me = refl;
  counts = refl;
  states = refl;
  histories = map-set_same told c.args.self.now.histories.items c.args.job.now.var c.prepare.new.self c.index_mut.result.now (c.prepare.ensures.history ∙ ap told c.index_mut.ensures.value);
  processes = refl;
  journal = c.reserve.ensures.items;
}

pub returns-in_err-base-clause-same : goal.returns-in_err-base-clause-same
returns-in_err-base-clause-same c = record {
  graph = refl;
  opening = refl;
  me = refl;
  counts = refl;
  states = refl;
  histories = map-set_same told c.args.self.now.histories.items c.args.job.now.var c.prepare.new.self c.index_mut.result.now (c.prepare.ensures.history ∙ ap told c.index_mut.ensures.value);
  processes = refl;
  journal = c.reserve.ensures.items;
}

pub returns-in_err-state-clause-same : goal.returns-in_err-state-clause-same
returns-in_err-state-clause-same c = record {
  graph = refl;
  opening = refl;
  me = refl;
  counts = refl;
  states = refl;
  histories = map-set_same told c.args.self.now.histories.items c.args.job.now.var c.prepare.new.self c.index_mut.result.now (c.prepare.ensures.history ∙ ap told c.index_mut.ensures.value);
  processes = refl;
  journal = c.reserve.ensures.items;
}

pub returns-clause-same : goal.returns-clause-same
returns-clause-same c = record {
  graph = refl;
  opening = refl;
  me = refl;
  counts = refl;
  states = refl;
  histories = map-set_same told c.args.self.now.histories.items c.args.job.now.var c.prepare.new.self c.index_mut.result.now (c.prepare.ensures.history ∙ ap told c.index_mut.ensures.value);
  processes = refl;
  journal = c.reserve.ensures.items;
}

pub returns-clause-room : goal.returns-clause-room
returns-clause-room c =
    let y = c.args.job.now.var in
    let low = history-there c.args.self.now c.requires.replica y (job-derived c.args.self.now c.args.job.now c.requires.replica c.requires.job) in
    let here : kept_at (slice_set c.args.self.now.histories.items y c.prepare.new.self) y ≡ c.prepare.new.self = get_or-set_same c.args.self.now.histories.items y c.prepare.new.self no_kept low in
    record {
      entry = omega (arith, c.in_ok-reserve.ensures.ok);
      still = c.in_ok-grows.ensures.still;
      prepared = subst (λ (k : Kept). IsTrue k.prepared) (sym here) c.in_ok-prepare.ensures.prepared;
      pending = ready-rows _ (kept_at (slice_set c.args.self.now.histories.items y c.prepare.new.self) y) c.prepare.new.self here (c.in_ok-prepare.ensures.pending ∙ c.in_ok-grows.ensures.rows_are) c.in_ok-prepare.ensures.apart;
    }
