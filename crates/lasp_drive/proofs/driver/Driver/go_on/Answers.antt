use Rattle.std.proofs.Common.{ℕ, ◌≡◌, refl, map, arith, ◌∙◌, sym, subst}
use Rattle.lasp_graph.specs.Library.{library_of}
use Rattle.lasp_script.specs.Command.{command_of}
use Rattle.lasp_drive.specs.Driver.{seen}
use Rattle.lasp_drive.specs.Stretch.{HasAdvanced}
use Rattle.lasp_drive.proofs.StretchLaws.{at-begin, at-command, at-next, at-stops, at-point, between-next, at-end, at-fits}
use Rattle.lasp_drive.proofs.driver.Driver.go_on.Goals as goal

pub loop-i-init : goal.loop-i-init
loop-i-init g c = record {
  past = omega arith;
  there = at-begin (library_of c.args.lib.now) (seen g.N.Node.view g.N.Node.read c.args.self.now) c.args.from c.args.script.now.commands c.requires.within c.requires.may;
  between = λ j past low. absurd (omega (arith, past, low));
  in_place = refl;
}

pub step-requires-clause-may : goal.step-requires-clause-may
step-requires-clause-may g c =
    let next = at-command (library_of c.args.lib.now) c.args.from c.loop-i.i c.args.script.now.commands (seen g.N.Node.view g.N.Node.read c.args.self.now) (seen g.N.Node.view g.N.Node.read c.loop-i.self) (command_of c.at-command.result.now) c.loop-i.invariant.there c.at-command.ensures in
    record { ready = next.ready; few = next.few; lawful = next.lawful }

pub step-requires-clause-graph : goal.step-requires-clause-graph
step-requires-clause-graph g c =
    (at-command (library_of c.args.lib.now) c.args.from c.loop-i.i c.args.script.now.commands (seen g.N.Node.view g.N.Node.read c.args.self.now) (seen g.N.Node.view g.N.Node.read c.loop-i.self) (command_of c.at-command.result.now) c.loop-i.invariant.there c.at-command.ensures).graph

pub step-requires-clause-fits : goal.step-requires-clause-fits
step-requires-clause-fits g c = at-fits (library_of c.args.lib.now) c.args.from c.loop-i.i c.args.script.now.commands (seen g.N.Node.view g.N.Node.read c.args.self.now) (seen g.N.Node.view g.N.Node.read c.loop-i.self) c.loop-i.invariant.there

pub returns-then-is_point : goal.returns-then-is_point
returns-then-is_point g c = record {
  advances = record {
    past = c.loop-i.invariant.past;
    there = c.loop-i.invariant.there;
    between = c.loop-i.invariant.between;
    point = at-point c.args.script.now.commands c.loop-i.i (command_of c.at-command.result.now) c.at-command.ensures (sym c.is_point.ensures ∙ c.if-is_point.true);
  };
  in_place = c.loop-i.invariant.in_place;
}

pub loop-i-preserved : goal.loop-i-preserved
loop-i-preserved g c = record {
  past = omega (arith, c.loop-i.invariant.past);
  there = at-next (library_of c.args.lib.now) c.args.from c.loop-i.i c.args.script.now.commands (seen g.N.Node.view g.N.Node.read c.args.self.now) (seen g.N.Node.view g.N.Node.read c.loop-i.self) (seen g.N.Node.view g.N.Node.read c.step.new.self) (command_of c.at-command.result.now)
      c.loop-i.invariant.there c.at-command.ensures c.in-Ok.ensures.acts;
  between = between-next c.args.script.now.commands c.args.from c.loop-i.i (command_of c.at-command.result.now) c.at-command.ensures (sym c.is_point.ensures ∙ c.if-is_point.false) c.loop-i.invariant.between;
  in_place = c.in-Ok.ensures.in_place ∙ c.loop-i.invariant.in_place;
}

pub returns-in-Err : goal.returns-in-Err
returns-in-Err g c = record {
  advances = at-stops (library_of c.args.lib.now) c.args.from c.loop-i.i c.args.script.now.commands (seen g.N.Node.view g.N.Node.read c.args.self.now) (seen g.N.Node.view g.N.Node.read c.loop-i.self) (command_of c.at-command.result.now) c.in-Err.halt
      (map g.N.Node.view c.step.new.self.nodes.items) c.loop-i.invariant.there c.at-command.ensures c.in-Err.ensures.acts;
  in_place = c.in-Err.ensures.in_place ∙ c.loop-i.invariant.in_place;
}

pub returns : goal.returns
returns g c =
    let ks = c.args.script.now.commands in
    let all : c.loop-i.i ≡ c.len.result = omega (arith, c.loop-i-test.false, c.len-i-end.ensures, c.len.ensures, c.loop-i.invariant.there.within) in
    record {
      advances = subst (λ (k : ℕ). HasAdvanced (library_of c.args.lib.now) c.args.from k ks (seen g.N.Node.view g.N.Node.read c.args.self.now) (seen g.N.Node.view g.N.Node.read c.loop-i.self)) all
          (record { past = c.loop-i.invariant.past; there = c.loop-i.invariant.there; between = c.loop-i.invariant.between; point = at-end ks c.loop-i.i (omega (arith, c.loop-i-test.false, c.len-i-end.ensures)) });
      in_place = c.loop-i.invariant.in_place;
    }
