use Rattle.std.proofs.Common.{rules, ◌≡◌, ◌+◌, true, false, List, length, refl, sym, ap, subst, ◌∙◌, arith}
use Rattle.model_graph.specs.Graph.{Decl}
use Rattle.model_readings.specs.Lawful.{FitsAll}
use Rattle.model_journal.specs.Journal.{graph}
use Rattle.model_core.specs.Core.{Core, IsCore}
use Rattle.lasp_fns.specs.Steps as counted
use Rattle.lasp_graph.specs.Library.{library_of}
use Rattle.lasp_core.specs.Core.{IsSettled}
use Rattle.lasp_node.proofs.SettleLaws.{IsBoundBelow, HasCost, below-start, below-all, below-bound, turn-taken, turn-passed, turn-bound, turn-below, none-lacks, cost-none, cost-more, cost-refused, small-settled, shown-settled}
use Rattle.lasp_node.proofs.settling.settle.Goals.{then-is_unclean+in_ok-done, else-is_unclean}
use Rattle.lasp_node.proofs.settling.settle.Goals as goal

pub loop-x-init : goal.loop-x-init
loop-x-init g c = record {
  within = omega arith;
  core = c.recall.ensures.core;
  below = below-start c.args.core.now c.recall.ensures.core c.requires.idle;
  cost = cost-none c.args.core.now (counted.ticks_of c.args.lib.now) (omega (arith, c.owed.ensures));
  left = λ settled. refl;
  unticked = λ settled. refl;
  library = refl;
}

pub is_unclean-requires : goal.is_unclean-requires
is_unclean-requires g c =
    let many : c.len-x-end.result ≡ length (graph c.args.core.now.frame c.args.core.now.entries) = search rules in
    omega (arith, c.loop-x-test.true, many, ap (λ (ds : List Decl). length ds) c.loop-x.invariant.below.bound.graph_is)

pub bring_up-done-requires-clause-unclean : goal.bring_up-done-requires-clause-unclean
bring_up-done-requires-clause-unclean g c = c.is_unclean.ensures.0 c.if-is_unclean.true

pub bring_up-done-requires-clause-idle : goal.bring_up-done-requires-clause-idle
bring_up-done-requires-clause-idle g c = c.loop-x.invariant.below.bound.idle

pub bring_up-done-requires-clause-below : goal.bring_up-done-requires-clause-below
bring_up-done-requires-clause-below g c =
    let below = c.loop-x.invariant.below in
    (turn-taken c.loop-x.core below.reached c.loop-x.x below.late below.clean (c.is_unclean.ensures.0 c.if-is_unclean.true)).below

pub bring_up-done-requires-clause-fits : goal.bring_up-done-requires-clause-fits
bring_up-done-requires-clause-fits g c =
    subst (λ (ds : List Decl). FitsAll (library_of (counted.library_of c.loop-x.lib)) ds) (sym c.loop-x.invariant.below.bound.graph_is)
    (subst (λ l. FitsAll (library_of l) (graph c.args.core.now.frame c.args.core.now.entries)) (sym c.loop-x.invariant.library) c.requires.fits)

pub returns-in_err-done-clause-bound : goal.returns-in_err-done-clause-bound
returns-in_err-done-clause-bound g c =
    turn-bound c.args.core.now c.loop-x.core c.bring_up-done.new.core c.loop-x.x c.recall-then-is_unclean.ensures.core.legal (c.is_unclean.ensures.0 c.if-is_unclean.true) c.loop-x.invariant.below c.bring_up-done.ensures.bound

pub returns-in_err-done-clause-within : goal.returns-in_err-done-clause-within
returns-in_err-done-clause-within g c =
    cost-refused c.args.core.now c.loop-x.core c.bring_up-done.new.core (counted.ticks_of c.args.lib.now) (counted.ticks_of c.loop-x.lib) (counted.ticks_of c.bring_up-done.new.lib) c.loop-x.invariant.cost c.bring_up-done.ensures.rises c.bring_up-done.ensures.within

pub loop-x-preserved : goal.loop-x-preserved
loop-x-preserved g c =
    let old = c.args.core.now in
    let core = c.loop-x.core in
    let ticks = counted.ticks_of c.args.lib.now in
    let many : c.len-x-end.result ≡ length (graph old.frame old.entries) = search rules in
    elim c.if-is_unclean.branch [
      | then-is_unclean+in_ok-done w ↦
          let new = w.bring_up-done.new.core in
          let lacks = c.is_unclean.ensures.0 w.if-is_unclean.true in
          let bound = c.loop-x.invariant.below.bound in
          let below = turn-below old core new c.loop-x.x w.recall-then-is_unclean.ensures.core.legal lacks c.loop-x.invariant.below w.bring_up-done.ensures.bound w.in_ok-done.ensures.clean in
          let cost : HasCost old new ticks (counted.ticks_of w.bring_up-done.new.lib) = cost-more old core new c.loop-x.invariant.below.reached c.loop-x.x ticks (counted.ticks_of c.loop-x.lib) (counted.ticks_of w.bring_up-done.new.lib)
          c.loop-x.invariant.cost bound w.in_ok-done.ensures.owed w.in_ok-done.ensures.ticks w.in_ok-done.ensures.entry in
          let none : IsSettled old → ⊥ = λ settled. none-lacks old core c.loop-x.x lacks settled (c.loop-x.invariant.left settled) in
          record {
            within = omega (arith, below.late, below.within);
            core = subst IsCore (sym w.core-is) w.recall-then-is_unclean.ensures.core;
            below = subst (IsBoundBelow (c.loop-x.x + 1) old) (sym w.core-is) below;
            cost = subst (λ (d : Core). HasCost old d ticks (counted.ticks_of c.if-is_unclean.lib)) (sym w.core-is) (subst (λ l. HasCost old new ticks (counted.ticks_of l)) (sym w.lib-is) cost);
            left = λ settled. absurd (none settled);
            unticked = λ settled. absurd (none settled);
            library = ap (λ l. counted.library_of l) w.lib-is ∙ w.bring_up-done.ensures.library ∙ c.loop-x.invariant.library;
          }
      | else-is_unclean w ↦
          let below = turn-passed c.loop-x.x old core (omega (arith, c.loop-x-test.true, many)) (λ lacks. let so : c.is_unclean.result ≡ true = c.is_unclean.ensures.1 lacks in let both : true ≡ false = sym so ∙ w.if-is_unclean.false in cc) c.loop-x.invariant.below in
          record {
            within = omega (arith, below.late, below.within);
            core = subst IsCore (sym w.core-is) c.loop-x.invariant.core;
            below = subst (IsBoundBelow (c.loop-x.x + 1) old) (sym w.core-is) below;
            cost = subst (λ (d : Core). HasCost old d ticks (counted.ticks_of c.if-is_unclean.lib)) (sym w.core-is) (subst (λ l. HasCost old core ticks (counted.ticks_of l)) (sym w.lib-is) c.loop-x.invariant.cost);
            left = λ settled. w.core-is ∙ c.loop-x.invariant.left settled;
            unticked = λ settled. ap (λ l. counted.ticks_of l) w.lib-is ∙ c.loop-x.invariant.unticked settled;
            library = ap (λ l. counted.library_of l) w.lib-is ∙ c.loop-x.invariant.library;
          }
    ]

pub returns-clause-bound : goal.returns-clause-bound
returns-clause-bound g c = below-bound c.loop-x.x c.args.core.now c.loop-x.core c.loop-x.invariant.below

pub returns-clause-settled : goal.returns-clause-settled
returns-clause-settled g c =
    let many : c.len-x-end.result ≡ length (graph c.args.core.now.frame c.args.core.now.entries) = search rules in
    below-all c.args.core.now c.loop-x.core c.loop-x.x (omega (arith, c.loop-x-test.false, many)) c.loop-x.invariant.below

pub returns-clause-shown : goal.returns-clause-shown
returns-clause-shown g c =
    let many : c.len-x-end.result ≡ length (graph c.args.core.now.frame c.args.core.now.entries) = search rules in
    let below = c.loop-x.invariant.below in
    shown-settled below.reached c.args.core.now c.loop-x.core below.bound c.loop-x.invariant.core.legal (below-all c.args.core.now c.loop-x.core c.loop-x.x (omega (arith, c.loop-x-test.false, many)) below)

pub returns-clause-done : goal.returns-clause-done
returns-clause-done g c =
    let many : c.len-x-end.result ≡ length (graph c.args.core.now.frame c.args.core.now.entries) = search rules in
    let below = c.loop-x.invariant.below in
    small-settled below.reached c.args.core.now c.loop-x.core below.bound c.loop-x.invariant.core.legal (below-all c.args.core.now c.loop-x.core c.loop-x.x (omega (arith, c.loop-x-test.false, many)) below)
