use Rattle.std.proofs.Common.{ℕ, refl, sym, subst, ◌∙◌, arith}
use Rattle.model_world.specs.Lawful.{opening_stage, MayBeDone}
use Rattle.model_site.specs.Site.{updates_done}
use Rattle.lasp_script.specs.Command.{command_of}
use Rattle.lasp_call.specs.Message.{peer_by}
use Rattle.lasp_site.proofs.UpdateLaws.{may-each, commands-next, commands-stop, commands-end}
use Rattle.lasp_site.proofs.update.do_commands.Goals as goal

pub loop-i-init : goal.loop-i-init
loop-i-init g c = record { number = omega arith; within = omega arith; node = c.requires.node; among = refl; rest = refl }

pub do_command-requires-clause-own : goal.do_command-requires-clause-own
do_command-requires-clause-own g c =
    (may-each (g.N.Node.view c.args.first).among c.args.me c.args.graph.now c.args.script.now.commands c.loop-i.i (command_of c.at.result.now) c.at.ensures c.requires.own c.requires.lawful).0

pub do_command-requires-clause-may : goal.do_command-requires-clause-may
do_command-requires-clause-may g c =
    subst (λ (n : ℕ). MayBeDone n (opening_stage c.args.graph.now) (command_of c.at.result.now)) (sym c.loop-i.invariant.among)
    (may-each (g.N.Node.view c.args.first).among c.args.me c.args.graph.now c.args.script.now.commands c.loop-i.i (command_of c.at.result.now) c.at.ensures c.requires.own c.requires.lawful).1

pub returns-in-Err-clause-exact : goal.returns-in-Err-clause-exact
returns-in-Err-clause-exact g c =
    commands-stop (peer_by g.N.Node.view) c.args.me c.args.graph.now c.loop-i.number (g.N.Node.view c.loop-i.node).peer c.args.script.now.commands c.loop-i.i (command_of c.at.result.now)
    (updates_done c.args.me c.args.graph.now 1 (g.N.Node.view c.args.first).peer c.args.script.now.commands) c.in-Err.failure c.at.ensures c.loop-i.invariant.rest c.in-Err.ensures.exact

pub loop-i-preserved : goal.loop-i-preserved
loop-i-preserved g c = record {
  number = omega (arith, c.loop-i.invariant.number);
  within = omega (arith, c.loop-i-test.true, c.len-i-end.ensures);
  node = c.in-Ok.ensures.node;
  among = c.in-Ok.ensures.among ∙ c.loop-i.invariant.among;
  rest = sym (commands-next c.args.me c.args.graph.now c.loop-i.number (g.N.Node.view c.loop-i.node).peer (g.N.Node.view c.in-Ok.next).peer c.args.script.now.commands c.loop-i.i (command_of c.at.result.now) c.at.ensures c.in-Ok.ensures.exact) ∙ c.loop-i.invariant.rest;
}

pub returns-clause-exact : goal.returns-clause-exact
returns-clause-exact g c =
    sym c.loop-i.invariant.rest ∙ commands-end c.args.me c.args.graph.now c.loop-i.number (g.N.Node.view c.loop-i.node).peer c.args.script.now.commands c.loop-i.i (omega (arith, c.loop-i-test.false, c.len-i-end.ensures))
