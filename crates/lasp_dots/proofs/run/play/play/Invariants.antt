use Rattle.std.proofs.Common.{◌≡◌, ◌≤◌, ◌++◌, length, drop}
use Rattle.std.specs.String.{string_bytes}
use Rattle.model_world.specs.Lawful.{AreLawful}
use Rattle.model_dots.specs.DotReport.{dot_text}
use Rattle.model_dots.specs.DotWorld.{AreDotCommands, dot_play}
use Rattle.model_dots.specs.Sizes.{CountAtMost}
use Rattle.lasp_dots.specs.Commands.{stage_at}
use Rattle.lasp_dots.proofs.run.play.play.Given as goal

abbrev pub invariant-loop-i : goal.invariant-loop-i
invariant-loop-i l = record {
  within : l.i ≤ length l.script.commands;
  size : length l.replicas.nodes ≡ length l.fn.replicas.nodes;
  lawful : AreLawful (length l.replicas.nodes) (stage_at l.replicas) (drop l.i l.script.commands);
  known : AreDotCommands (drop l.i l.script.commands);
  counts : CountAtMost l.i l.replicas;
  done : dot_play l.replicas (drop l.i l.script.commands) ≡ dot_play l.fn.replicas l.script.commands;
  text : string_bytes l.text ++ dot_text l.replicas (drop l.i l.script.commands) ≡ string_bytes l.fn.text ++ dot_text l.fn.replicas l.script.commands;
}
