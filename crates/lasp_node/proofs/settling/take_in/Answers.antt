use Rattle.std.proofs.Common.{◌+◌, Result, Err, refl, sym, ap, subst}
use Rattle.std.specs.Prelude.{OnOk}
use Rattle.model_graph.specs.Evaluation.{eval, first_large}
use Rattle.model_journal.specs.Journal.{graph, sources}
use Rattle.model_journal.specs.Legal.{IsLegal}
use Rattle.model_core.specs.Core.{Core}
use Rattle.model_core.proofs.CleanLaws.{large-first}
use Rattle.lasp_drive.specs.declared.node.NodeStop.{NodeStop}
use Rattle.lasp_node.specs.Settling.{AreCleanBelow, TellsFirst}
use Rattle.lasp_node.proofs.SettleLaws.{bound-back, bound-done, clean-done}
use Rattle.lasp_node.proofs.settling.take_in.Goals.{in-Ok, in-Err-TooManyRows, in-Err-Memory}
use Rattle.lasp_node.proofs.settling.take_in.Goals as goal

pub returns-clause-bound : goal.returns-clause-bound
returns-clause-bound g c =
    let old = c.args.core.now in
    let new = c.settle_var.new.self in
    elim c.match-settle_var.branch [
      | in-Ok w ↦ bound-done old new 0 c.args.var _ refl w.in-Ok.ensures.ok refl c.recall.ensures.core.legal c.requires.derived c.requires.idle
      | in-Err-TooManyRows w ↦ bound-back old new c.args.var c.recall.ensures.core w.in-Err-TooManyRows.ensures.err c.requires.idle
      | in-Err-Memory w ↦ bound-back old new c.args.var c.recall.ensures.core w.in-Err-Memory.ensures.err c.requires.idle
    ]

pub returns-clause-clean : goal.returns-clause-clean
returns-clause-clean g c =
    let old = c.args.core.now in
    let new = c.settle_var.new.self in
    let clean = λ (r : Result (Unit {0}) NodeStop). OnOk r (AreCleanBelow (c.args.var + 1) new) in
    elim c.match-settle_var.branch [
      | in-Ok w ↦ subst clean (sym w.result-is) (clean-done old new 0 c.args.var _ refl w.in-Ok.ensures.ok (subst (λ (d : Core). IsLegal d.frame d.entries) w.in-Ok.ensures.ok w.recall-in-Ok.ensures.core.legal) refl c.requires.below)
      | in-Err-TooManyRows w ↦ subst clean (sym w.result-is) tt
      | in-Err-Memory w ↦ subst clean (sym w.result-is) tt
    ]

pub returns-clause-large : goal.returns-clause-large
returns-clause-large g c =
    let old = c.args.core.now in
    let first = first_large 0 (eval (graph old.frame old.entries) (sources old.frame old.entries)) in
    let tells = λ (r : Result (Unit {0}) NodeStop). TellsFirst first r in
    elim c.match-settle_var.branch [
      | in-Ok w ↦ subst tells (sym w.result-is) tt
      | in-Err-TooManyRows w ↦ subst tells (sym w.result-is)
          (large-first old.frame old.entries c.recall.ensures.core.legal c.args.var c.requires.below c.requires.derived (w.in-Err-TooManyRows.ensures.large (ap Err w.in-Err-TooManyRows.field-0-is)))
      | in-Err-Memory w ↦ subst tells (sym w.result-is) tt
    ]
