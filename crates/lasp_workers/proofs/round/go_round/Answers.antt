use Rattle.std.proofs.Common.{◌≡◌, ◌∙◌, ◌+◌, ◌<◌, ℕ, List, map, take, length, refl, sym, ap, subst, arith}
use Rattle.std.specs.Prelude.{All, slice_index_or}
use Rattle.std.proofs.lemmas.List.{length-set, take_all}
use Rattle.std.proofs.lemmas.List.Elements.{All-set}
use Rattle.model_functions.specs.Library.{Library}
use Rattle.lasp_fns.specs.Steps as counted
use Rattle.lasp_graph.specs.Library.{library_of}
use Rattle.lasp_workers.specs.declared.replicas.Replica.{Replica}
use Rattle.lasp_workers.specs.Replicas.{pair_of}
use Rattle.lasp_workers.specs.Asked.{finished_by}
use Rattle.lasp_workers.specs.Worked.{IsLeftDone, IsDoneAt}
use Rattle.lasp_workers.proofs.WorkLaws.{worked-itself, round-worked, round-done, counted-up}
use Rattle.lasp_workers.proofs.round.go_round.Goals as goal

pub loop-i-init : goal.loop-i-init
loop-i-init g c = record {
  worked = (0, refl, worked-itself g.J.Jobs.place g.J.Jobs.frame g.J.Jobs.caller g.J.Jobs.list g.J.Jobs.looks g.J.Jobs.rows_owed (counted.ticks_of c.args.lib.now) (map pair_of c.args.replicas.now));
  left = c.requires.left;
  done = λ _ k d low. absurd (omega (arith, low));
  library = refl;
  within = omega arith;
  end = refl;
}

pub ask-requires : goal.ask-requires
ask-requires g c = record {
  left = subst (λ (l : Library). IsLeftDone g.J.Jobs.frame g.J.Jobs.list l (slice_index_or c.loop-i.replicas c.loop-i.i c.index-replicas-i.result)) (sym (ap library_of c.loop-i.invariant.library))
      (c.loop-i.invariant.left c.loop-i.i c.index-replicas-i.result (omega (arith, c.loop-i-test.true, c.loop-i.auto.replicas)));
}

pub returns-in-Err-clause-worked : goal.returns-in-Err-clause-worked
returns-in-Err-clause-worked g c =
    let before = c.loop-i.invariant.worked in (
      before.0 + 0,
      round-worked g.J.Jobs.place g.J.Jobs.frame g.J.Jobs.caller g.J.Jobs.list g.J.Jobs.looks g.J.Jobs.rows_owed before.0 0 (counted.ticks_of c.args.lib.now) (counted.ticks_of c.loop-i.lib) (counted.ticks_of c.ask.new.lib) c.loop-i.i c.index-replicas-i.result c.ask.new.replica
          c.args.replicas.now c.loop-i.replicas (omega (arith, c.loop-i-test.true, c.loop-i.auto.replicas)) before.2 c.in-Err.ensures.asked,
    )

pub returns-in-Err-clause-left : goal.returns-in-Err-clause-left
returns-in-Err-clause-left g c =
    let lib = library_of (counted.library_of c.args.lib.now) in
    All-set (IsLeftDone g.J.Jobs.frame g.J.Jobs.list lib) c.loop-i.replicas c.loop-i.i c.ask.new.replica
    (subst (λ (l : Library). IsLeftDone g.J.Jobs.frame g.J.Jobs.list l c.ask.new.replica) (ap library_of c.loop-i.invariant.library) c.in-Err.ensures.left) c.loop-i.invariant.left

pub loop-i-preserved : goal.loop-i-preserved
loop-i-preserved g c =
    let lib = library_of (counted.library_of c.args.lib.now) in
    let before = c.loop-i.invariant.worked in
    let low : c.loop-i.i < length c.loop-i.replicas = omega (arith, c.loop-i-test.true, c.loop-i.auto.replicas) in
    let size = length-set c.loop-i.replicas c.loop-i.i c.ask.new.replica in
    let one : ℕ = finished_by c.in-Ok.asked in
    record {
      worked = (
        before.0 + one,
        c.with-round.ensures.finished ∙ counted-up before.0 one c.loop-i.round.finished before.1,
        round-worked g.J.Jobs.place g.J.Jobs.frame g.J.Jobs.caller g.J.Jobs.list g.J.Jobs.looks g.J.Jobs.rows_owed before.0 one (counted.ticks_of c.args.lib.now) (counted.ticks_of c.loop-i.lib) (counted.ticks_of c.ask.new.lib) c.loop-i.i c.index-replicas-i.result c.ask.new.replica c.args.replicas.now c.loop-i.replicas low before.2 c.in-Ok.ensures.asked,
      );
      left = All-set (IsLeftDone g.J.Jobs.frame g.J.Jobs.list lib) c.loop-i.replicas c.loop-i.i c.ask.new.replica
          (subst (λ (l : Library). IsLeftDone g.J.Jobs.frame g.J.Jobs.list l c.ask.new.replica) (ap library_of c.loop-i.invariant.library) c.in-Ok.ensures.left) c.loop-i.invariant.left;
      done = λ none.
          let both = c.with-round.ensures.done none in
          round-done (IsDoneAt g.J.Jobs.frame g.J.Jobs.list lib) c.loop-i.replicas c.loop-i.i c.ask.new.replica low (c.loop-i.invariant.done both.0)
          (subst (λ (l : Library). IsDoneAt g.J.Jobs.frame g.J.Jobs.list l (pair_of c.ask.new.replica)) (ap library_of c.loop-i.invariant.library) (c.in-Ok.ensures.done both.1));
      library = c.in-Ok.ensures.library ∙ c.loop-i.invariant.library;
      within = omega (arith, low, size);
      end = sym (size ∙ c.loop-i.auto.replicas);
    }

pub returns-clause-done : goal.returns-clause-done
returns-clause-done g c = λ none.
    let lib = library_of (counted.library_of c.args.lib.now) in
    subst (λ (l : List (Replica _)). All (IsDoneAt g.J.Jobs.frame g.J.Jobs.list lib) (map pair_of l)) (take_all c.loop-i.i c.loop-i.replicas (omega (arith, c.loop-i-test.false, c.loop-i.auto.replicas))) (c.loop-i.invariant.done none)
