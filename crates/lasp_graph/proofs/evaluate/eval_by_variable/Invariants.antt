use Rattle.std.proofs.Common.{◌≡◌, length, drop}
use Rattle.model_graph.specs.Evaluation.{eval, eval_from}
use Rattle.lasp_graph.specs.States.{contents_of}
use Rattle.lasp_graph.specs.Evaluated.{AreSmall, KeepShapes, KeepNumbers}
use Rattle.lasp_graph.proofs.evaluate.eval_by_variable.Given as goal

abbrev pub invariant-loop-var : goal.invariant-loop-var
invariant-loop-var g l = record {
  whole : eval_from (drop l.var l.g) (contents_of l.states) (contents_of l.sources) ≡ eval l.g (contents_of l.sources);
  long : length l.states ≡ l.var;
  small : AreSmall (contents_of l.states);
  shapes : KeepShapes l.var l.g l.sources l.states;
  numbers : KeepNumbers l.var l.g l.states;
}
