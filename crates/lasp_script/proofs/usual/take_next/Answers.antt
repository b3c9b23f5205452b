use Rattle.lasp_script.specs.Usual.{placed_view}
use Rattle.lasp_script.proofs.usual.take_next.Goals as goal

pub returns-in-Ok : goal.returns-in-Ok
returns-in-Ok g c = record {
  tree = placed_view c.in-Some.placed;
  spelled = c.in-Some.ensures;
  read = c.in-Ok.ensures (placed_view c.in-Some.placed) c.in_ok-word.ensures;
}
