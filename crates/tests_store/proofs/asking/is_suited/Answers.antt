use Rattle.std.proofs.Common.{[], IsTrue, ap, subst, ◌∙◌, arith}
use Rattle.model_states.specs.Threshold.{Shape, suits}
use Rattle.lasp_state.specs.Threshold.{threshold_of}
use Rattle.lasp_state.specs.State.{shape_of}
use Rattle.lasp_graph.specs.States.{Held}
use Rattle.tests_store.proofs.Passes.{hand_turn}
use Rattle.tests_store.proofs.asking.is_suited.Goals as goal

pub returns-in-Ok-clause-open : goal.returns-in-Ok-clause-open
returns-in-Ok-clause-open g c is =
    let new = c.look.new.h in
    let hand = hand_turn c.args.store.now c.args.many _ c.args.h.now new c.requires.hand c.look.ensures.turn in
    record {
      declared = let low = c.requires.var in let many = hand.many_are in omega (arith, low, many);
      suits_it = subst (λ (s : Shape). IsTrue (suits (threshold_of c.args.threshold.now) s)) (ap shape_of c.deref.ensures ∙ ap (λ (k : Held). k.shape) c.in-Ok.ensures.state) (subst IsTrue c.suits.ensures is);
    }

pub returns-in-Ok-clause-hand : goal.returns-in-Ok-clause-hand
returns-in-Ok-clause-hand g c = hand_turn c.args.store.now c.args.many [] c.args.h.now c.look.new.h c.requires.hand c.look.ensures.turn

pub returns-in-Err-clause-hand : goal.returns-in-Err-clause-hand
returns-in-Err-clause-hand g c = hand_turn c.args.store.now c.args.many [] c.args.h.now c.look.new.h c.requires.hand c.look.ensures.turn
