use Rattle.std.proofs.Common.{◌≡◌, ◌+◌, List, IsTrue, sym, ap, subst, ◌∙◌}
use Rattle.std.specs.Arc.{arc_value}
use Rattle.std.specs.Prelude.{Option, Some, None, slice_get}
use Rattle.model_graph.specs.Graph.{kind_at}
use Rattle.model_graph.specs.Lawful.{shape_of}
use Rattle.model_live.specs.Steps.{Does, Prints, Waits}
use Rattle.model_states.specs.Threshold.{Threshold, suits}
use Rattle.model_world.specs.Command.{Script}
use Rattle.lasp_script.specs.Command.{command_of, until_of}
use Rattle.lasp_live.specs.Did.{HasWaited, IsStepAt}
use Rattle.lasp_live.specs.Ends.{Out}
use Rattle.lasp_live.specs.Fed.{Setting}
use Rattle.lasp_live.specs.Steady.{setting}
use Rattle.lasp_live.specs.Step.{IsStepOf}
use Rattle.lasp_live.specs.declared.step.Step.{Step}
use Rattle.lasp_live.specs.declared.step.Step.TheVariants.{Print, Await}
use Rattle.lasp_live.proofs.AtLaws.{at-skipped}
use Rattle.lasp_live.proofs.CommandLaws.{IsAsked, command-may}
use Rattle.lasp_live.proofs.LearnLaws.{has-passed}
use Rattle.lasp_live.proofs.commands.do_command.Goals as goal

pub print-requires-clause-var : goal.print-requires-clause-var
print-requires-clause-var g c =
    let script : Script = arc_value c.args.script.now in
    let at : slice_get script.commands c.args.i ≡ Some (command_of c.at.result.now) = subst (λ (t : Script). slice_get t.commands c.args.i ≡ Some (command_of c.at.result.now)) c.deref.ensures c.at.ensures in
    let is : IsStepOf c.args.me c.at.result.now (Some (Print c.in-Some-Print.x)) = subst (λ (o : Option Step). IsStepOf c.args.me c.at.result.now o) (c.in-Some-Print.is ∙ ap Some c.in-Some-Print.field-0-is) c.in_ok-x.ensures in
    command-may (arc_value c.args.graph.now) script c.args.me (c.args.i + 1) c.args.i (command_of c.at.result.now) (Does (Prints c.in-Some-Print.x)) c.requires.may.lawful c.requires.may.live at (is (c.args.i + 1))

pub print-requires-clause-step : goal.print-requires-clause-step
print-requires-clause-step g c =
    let script : Script = arc_value c.args.script.now in
    let at : slice_get script.commands c.args.i ≡ Some (command_of c.at.result.now) = subst (λ (t : Script). slice_get t.commands c.args.i ≡ Some (command_of c.at.result.now)) c.deref.ensures c.at.ensures in
    let is : IsStepOf c.args.me c.at.result.now (Some (Print c.in-Some-Print.x)) = subst (λ (o : Option Step). IsStepOf c.args.me c.at.result.now o) (c.in-Some-Print.is ∙ ap Some c.in-Some-Print.field-0-is) c.in_ok-x.ensures in
    record { command = command_of c.at.result.now; at = at; step = is (c.args.i + 1) }

pub threshold-requires : goal.threshold-requires
threshold-requires g c =
    let script : Script = arc_value c.args.script.now in
    let until = until_of c.in-Some-Await.until.now in
    let at : slice_get script.commands c.args.i ≡ Some (command_of c.at.result.now) = subst (λ (t : Script). slice_get t.commands c.args.i ≡ Some (command_of c.at.result.now)) c.deref.ensures c.at.ensures in
    let is : IsStepOf c.args.me c.at.result.now (Some (Await c.in-Some-Await.x c.in-Some-Await.until)) =
    subst (λ (o : Option Step). IsStepOf c.args.me c.at.result.now o) (c.in-Some-Await.is ∙ ap Some c.in-Some-Await.field-0-is) c.in_ok-x.ensures in
    let asked : IsAsked (arc_value c.args.graph.now) script.nodes c.in-Some-Await.x until =
    command-may (arc_value c.args.graph.now) script c.args.me (c.args.i + 1) c.args.i (command_of c.at.result.now) (Waits (c.args.i + 1) c.in-Some-Await.x until) c.requires.may.lawful c.requires.may.live at (is (c.args.i + 1)) in
    asked.live

pub wait-requires-clause-var : goal.wait-requires-clause-var
wait-requires-clause-var g c =
    let script : Script = arc_value c.args.script.now in
    let until = until_of c.in-Some-Await.until.now in
    let at : slice_get script.commands c.args.i ≡ Some (command_of c.at.result.now) = subst (λ (t : Script). slice_get t.commands c.args.i ≡ Some (command_of c.at.result.now)) c.deref.ensures c.at.ensures in
    let is : IsStepOf c.args.me c.at.result.now (Some (Await c.in-Some-Await.x c.in-Some-Await.until)) =
    subst (λ (o : Option Step). IsStepOf c.args.me c.at.result.now o) (c.in-Some-Await.is ∙ ap Some c.in-Some-Await.field-0-is) c.in_ok-x.ensures in
    let asked : IsAsked (arc_value c.args.graph.now) script.nodes c.in-Some-Await.x until =
    command-may (arc_value c.args.graph.now) script c.args.me (c.args.i + 1) c.args.i (command_of c.at.result.now) (Waits (c.args.i + 1) c.in-Some-Await.x until) c.requires.may.lawful c.requires.may.live at (is (c.args.i + 1)) in
    asked.var

pub wait-requires-clause-suits : goal.wait-requires-clause-suits
wait-requires-clause-suits g c =
    let script : Script = arc_value c.args.script.now in
    let until = until_of c.in-Some-Await.until.now in
    let at : slice_get script.commands c.args.i ≡ Some (command_of c.at.result.now) = subst (λ (t : Script). slice_get t.commands c.args.i ≡ Some (command_of c.at.result.now)) c.deref.ensures c.at.ensures in
    let is : IsStepOf c.args.me c.at.result.now (Some (Await c.in-Some-Await.x c.in-Some-Await.until)) =
    subst (λ (o : Option Step). IsStepOf c.args.me c.at.result.now o) (c.in-Some-Await.is ∙ ap Some c.in-Some-Await.field-0-is) c.in_ok-x.ensures in
    let asked : IsAsked (arc_value c.args.graph.now) script.nodes c.in-Some-Await.x until =
    command-may (arc_value c.args.graph.now) script c.args.me (c.args.i + 1) c.args.i (command_of c.at.result.now) (Waits (c.args.i + 1) c.in-Some-Await.x until) c.requires.may.lawful c.requires.may.live at (is (c.args.i + 1)) in
    subst (λ (t : Threshold). IsTrue (suits t (shape_of script.nodes (kind_at (arc_value c.args.graph.now) c.in-Some-Await.x)))) (sym c.in_ok-threshold-in-Some-Await.ensures) asked.suits_it

pub wait-requires-clause-step : goal.wait-requires-clause-step
wait-requires-clause-step g c =
    let script : Script = arc_value c.args.script.now in
    let at : slice_get script.commands c.args.i ≡ Some (command_of c.at.result.now) = subst (λ (t : Script). slice_get t.commands c.args.i ≡ Some (command_of c.at.result.now)) c.deref.ensures c.at.ensures in
    let is : IsStepOf c.args.me c.at.result.now (Some (Await c.in-Some-Await.x c.in-Some-Await.until)) =
    subst (λ (o : Option Step). IsStepOf c.args.me c.at.result.now o) (c.in-Some-Await.is ∙ ap Some c.in-Some-Await.field-0-is) c.in_ok-x.ensures in
    record { command = command_of c.at.result.now; at = at; step = is (c.args.i + 1) }

pub returns-in_ok-threshold-in-Some-Await-clause-passed : goal.returns-in_ok-threshold-in-Some-Await-clause-passed
returns-in_ok-threshold-in-Some-Await-clause-passed g c =
    let script : Script = arc_value c.args.script.now in
    let s : Setting = setting (arc_value c.args.graph.now) script c.args.me in
    let until = until_of c.in-Some-Await.until.now in
    let at : slice_get script.commands c.args.i ≡ Some (command_of c.at.result.now) = subst (λ (t : Script). slice_get t.commands c.args.i ≡ Some (command_of c.at.result.now)) c.deref.ensures c.at.ensures in
    let is : IsStepOf c.args.me c.at.result.now (Some (Await c.in-Some-Await.x c.in-Some-Await.until)) =
    subst (λ (o : Option Step). IsStepOf c.args.me c.at.result.now o) (c.in-Some-Await.is ∙ ap Some c.in-Some-Await.field-0-is) c.in_ok-x.ensures in
    let step : IsStepAt script c.args.me c.args.i (Waits (c.args.i + 1) c.in-Some-Await.x until) = record { command = command_of c.at.result.now; at = at; step = is (c.args.i + 1) } in
    has-passed c.wait.result s c.args.i c.in-Some-Await.x until (g.F.Feeder.seen c.wait.new.f) c.wait.new.log c.args.outs.now.items c.wait.new.ins.items step
    (subst (λ (outs : List Out). HasWaited s c.args.i c.in-Some-Await.x until c.wait.result (g.F.Feeder.seen c.wait.new.f) c.wait.new.log outs c.wait.new.ins.items) c.deref-in-Some-Await.ensures.value c.wait.ensures.waited)

pub returns-in-None-clause-passed : goal.returns-in-None-clause-passed
returns-in-None-clause-passed g c =
    let script : Script = arc_value c.args.script.now in
    let s : Setting = setting (arc_value c.args.graph.now) script c.args.me in
    let at : slice_get script.commands c.args.i ≡ Some (command_of c.at.result.now) = subst (λ (t : Script). slice_get t.commands c.args.i ≡ Some (command_of c.at.result.now)) c.deref.ensures c.at.ensures in
    let is : IsStepOf c.args.me c.at.result.now None = subst (λ (o : Option Step). IsStepOf c.args.me c.at.result.now o) c.in-None.is c.in_ok-x.ensures in
    at-skipped s c.args.i (command_of c.at.result.now) (g.F.Feeder.seen c.args.f.now) c.args.log.now c.args.outs.now.items c.args.ins.now.items c.requires.at at (is (c.args.i + 1))
