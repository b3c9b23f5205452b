use Rattle.std.proofs.Common.{◌≡◌, ◌∙◌, ◌+◌, ◌<◌, ℕ, List, map, take, drop, length, refl, sym, ap, subst, arith, ◌++◌}
use Rattle.std.specs.Prelude.{All}
use Rattle.model_functions.specs.Library.{Library}
use Rattle.lasp_fns.specs.Steps as counted
use Rattle.lasp_graph.specs.Library.{library_of}
use Rattle.lasp_workers.specs.declared.replicas.Replica.{Replica}
use Rattle.lasp_workers.specs.Replicas.{pair_of, pairs_of}
use Rattle.lasp_workers.specs.Worked.{HaveWorked, IsLeftDone, IsDoneAt, all_entries}
use Rattle.lasp_workers.proofs.LeaveLaws.{unleft-asks}
use Rattle.lasp_workers.proofs.ListLaws.{written-back}
use Rattle.lasp_workers.proofs.WorkLaws.{worked-itself, round-chain, counted-on, counted-between}
use Rattle.lasp_workers.proofs.worker.work.Goals as goal

pub loop-init : goal.loop-init
loop-init g c =
    let new = c.leave_none.new.replicas in
    let rest = drop (length new) c.args.replicas.now.items.items in
    let lib = library_of (counted.library_of c.args.lib.now) in
    let there = written-back new rest c.args.replicas.now.items.len (c.leave_none.auto.replicas ∙ c.deref_mut.ensures.len) in
    record {
      worked = (
        0,
        refl,
        subst (λ (l : List (ℕ × _)). HaveWorked g.J.Jobs.place g.J.Jobs.frame g.J.Jobs.caller g.J.Jobs.list g.J.Jobs.looks g.J.Jobs.rows_owed 0 (counted.ticks_of c.args.lib.now) (counted.ticks_of c.args.lib.now) (pairs_of c.args.replicas.now) l)
            (sym (ap (map pair_of) there ∙ c.leave_none.ensures.same ∙ ap (map pair_of) c.deref_mut.ensures.value)) (worked-itself g.J.Jobs.place g.J.Jobs.frame g.J.Jobs.caller g.J.Jobs.list g.J.Jobs.looks g.J.Jobs.rows_owed (counted.ticks_of c.args.lib.now) (pairs_of c.args.replicas.now)),
      );
      left = subst (λ (l : List (Replica _)). All (IsLeftDone g.J.Jobs.frame g.J.Jobs.list lib) l) (sym there) (unleft-asks (λ r. IsDoneAt g.J.Jobs.frame g.J.Jobs.list lib (pair_of r)) new c.leave_none.ensures.none);
      library = refl;
      short = omega arith;
    }

pub go_round-requires : goal.go_round-requires
go_round-requires g c = record {
  left = subst (λ (l : List (Replica _)). All (IsLeftDone g.J.Jobs.frame g.J.Jobs.list (library_of (counted.library_of c.loop.lib))) l) (sym c.deref_mut-in-loop.ensures.value)
      (subst (λ (l : Library). All (IsLeftDone g.J.Jobs.frame g.J.Jobs.list l) c.loop.items.items) (sym (ap library_of c.loop.invariant.library)) c.loop.invariant.left);
}

pub returns-in_err-round-clause-each : goal.returns-in_err-round-clause-each
returns-in_err-round-clause-each g c =
    let before = c.loop.invariant.worked in
    (round-chain g.J.Jobs.place g.J.Jobs.frame g.J.Jobs.caller g.J.Jobs.list g.J.Jobs.looks g.J.Jobs.rows_owed before.0 c.in_err-round.ensures.worked.0 (counted.ticks_of c.args.lib.now) (counted.ticks_of c.loop.lib) (counted.ticks_of c.go_round.new.lib) (pairs_of c.args.replicas.now) c.loop.items.items
    c.deref_mut-in-loop.result.now c.go_round.new.replicas (drop (length c.go_round.new.replicas) c.loop.items.items) c.loop.items.len (c.go_round.auto.replicas ∙ c.deref_mut-in-loop.ensures.len) c.deref_mut-in-loop.ensures.value before.2 c.in_err-round.ensures.worked.1).later

pub returns-in_err-round-clause-ticks : goal.returns-in_err-round-clause-ticks
returns-in_err-round-clause-ticks g c = λ low.
    let before = c.loop.invariant.worked in
    ((round-chain g.J.Jobs.place g.J.Jobs.frame g.J.Jobs.caller g.J.Jobs.list g.J.Jobs.looks g.J.Jobs.rows_owed before.0 c.in_err-round.ensures.worked.0 (counted.ticks_of c.args.lib.now) (counted.ticks_of c.loop.lib) (counted.ticks_of c.go_round.new.lib) (pairs_of c.args.replicas.now) c.loop.items.items
    c.deref_mut-in-loop.result.now c.go_round.new.replicas (drop (length c.go_round.new.replicas) c.loop.items.items) c.loop.items.len (c.go_round.auto.replicas ∙ c.deref_mut-in-loop.ensures.len) c.deref_mut-in-loop.ensures.value before.2 c.in_err-round.ensures.worked.1).few low).1

pub returns-then-round-clause-each : goal.returns-then-round-clause-each
returns-then-round-clause-each g c =
    let before = c.loop.invariant.worked in
    (round-chain g.J.Jobs.place g.J.Jobs.frame g.J.Jobs.caller g.J.Jobs.list g.J.Jobs.looks g.J.Jobs.rows_owed before.0 c.in_ok-round.ensures.worked.0 (counted.ticks_of c.args.lib.now) (counted.ticks_of c.loop.lib) (counted.ticks_of c.go_round.new.lib) (pairs_of c.args.replicas.now) c.loop.items.items
    c.deref_mut-in-loop.result.now c.go_round.new.replicas (drop (length c.go_round.new.replicas) c.loop.items.items) c.loop.items.len (c.go_round.auto.replicas ∙ c.deref_mut-in-loop.ensures.len) c.deref_mut-in-loop.ensures.value before.2 c.in_ok-round.ensures.worked.1).later

pub returns-then-round-clause-done : goal.returns-then-round-clause-done
returns-then-round-clause-done g c =
    subst (λ (l : List (Replica _)). All (IsDoneAt g.J.Jobs.frame g.J.Jobs.list (library_of (counted.library_of c.args.lib.now))) (map pair_of l))
    (sym (written-back c.go_round.new.replicas (drop (length c.go_round.new.replicas) c.loop.items.items) c.loop.items.len (c.go_round.auto.replicas ∙ c.deref_mut-in-loop.ensures.len)))
    (subst (λ (l : Library). All (IsDoneAt g.J.Jobs.frame g.J.Jobs.list l) (map pair_of c.go_round.new.replicas)) (ap library_of c.loop.invariant.library) (c.in_ok-round.ensures.done c.if-round.true))

pub returns-then-round-clause-alone : goal.returns-then-round-clause-alone
returns-then-round-clause-alone g c = λ none.
    let before = c.loop.invariant.worked in
    let all = round-chain g.J.Jobs.place g.J.Jobs.frame g.J.Jobs.caller g.J.Jobs.list g.J.Jobs.looks g.J.Jobs.rows_owed before.0 c.in_ok-round.ensures.worked.0 (counted.ticks_of c.args.lib.now) (counted.ticks_of c.loop.lib) (counted.ticks_of c.go_round.new.lib) (pairs_of c.args.replicas.now) c.loop.items.items
    c.deref_mut-in-loop.result.now c.go_round.new.replicas (drop (length c.go_round.new.replicas) c.loop.items.items) c.loop.items.len (c.go_round.auto.replicas ∙ c.deref_mut-in-loop.ensures.len) c.deref_mut-in-loop.ensures.value before.2 c.in_ok-round.ensures.worked.1 in
    counted-between c.saturating_add-finished.result (before.0 + c.in_ok-round.ensures.worked.0) (all_entries g.J.Jobs.list (pairs_of c.args.replicas.now)) _ (c.saturating_add-finished.ensures ∙ counted-on before.0 c.in_ok-round.ensures.worked.0 c.loop.finished c.in_ok-round.round.finished before.1 c.in_ok-round.ensures.worked.2) (all.alone none).1

pub returns-then-round-clause-ticks : goal.returns-then-round-clause-ticks
returns-then-round-clause-ticks g c = λ low.
    let before = c.loop.invariant.worked in
    ((round-chain g.J.Jobs.place g.J.Jobs.frame g.J.Jobs.caller g.J.Jobs.list g.J.Jobs.looks g.J.Jobs.rows_owed before.0 c.in_ok-round.ensures.worked.0 (counted.ticks_of c.args.lib.now) (counted.ticks_of c.loop.lib) (counted.ticks_of c.go_round.new.lib) (pairs_of c.args.replicas.now) c.loop.items.items
    c.deref_mut-in-loop.result.now c.go_round.new.replicas (drop (length c.go_round.new.replicas) c.loop.items.items) c.loop.items.len (c.go_round.auto.replicas ∙ c.deref_mut-in-loop.ensures.len) c.deref_mut-in-loop.ensures.value before.2 c.in_ok-round.ensures.worked.1).few low).1

pub overflow_mul-pause : goal.overflow_mul-pause
overflow_mul-pause g c = omega (arith, c.loop.invariant.short)

pub loop-preserved : goal.loop-preserved
loop-preserved g c =
    let before = c.loop.invariant.worked in
    let lib = library_of (counted.library_of c.args.lib.now) in
    record {
      worked = (
        before.0 + c.in_ok-round.ensures.worked.0,
        c.saturating_add-finished.ensures ∙ counted-on before.0 c.in_ok-round.ensures.worked.0 c.loop.finished c.in_ok-round.round.finished before.1 c.in_ok-round.ensures.worked.2,
        round-chain g.J.Jobs.place g.J.Jobs.frame g.J.Jobs.caller g.J.Jobs.list g.J.Jobs.looks g.J.Jobs.rows_owed before.0 c.in_ok-round.ensures.worked.0 (counted.ticks_of c.args.lib.now) (counted.ticks_of c.loop.lib) (counted.ticks_of c.go_round.new.lib) (pairs_of c.args.replicas.now) c.loop.items.items
            c.deref_mut-in-loop.result.now c.go_round.new.replicas (drop (length c.go_round.new.replicas) c.loop.items.items) c.loop.items.len (c.go_round.auto.replicas ∙ c.deref_mut-in-loop.ensures.len) c.deref_mut-in-loop.ensures.value before.2 c.in_ok-round.ensures.worked.1,
      );
      left = subst (λ (l : List (Replica _)). All (IsLeftDone g.J.Jobs.frame g.J.Jobs.list lib) l) (sym (written-back c.go_round.new.replicas (drop (length c.go_round.new.replicas) c.loop.items.items) c.loop.items.len (c.go_round.auto.replicas ∙ c.deref_mut-in-loop.ensures.len)))
          (subst (λ (l : Library). All (IsLeftDone g.J.Jobs.frame g.J.Jobs.list l) c.go_round.new.replicas) (ap library_of c.loop.invariant.library) c.in_ok-round.ensures.left);
      library = c.in_ok-round.ensures.library ∙ c.loop.invariant.library;
      short = omega (arith, c.min-pause.ensures);
    }
