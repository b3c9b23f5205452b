use Rattle.std.proofs.Common.{◌≡◌, take}
use Rattle.model_deltas.specs.Gossip.{delta_size}
use Rattle.lasp_delta.proofs.run.report.size_of.Given as goal

abbrev pub invariant-loop-letter : goal.invariant-loop-letter
invariant-loop-letter l = l.size ≡ delta_size (take l.letter-index l.letters)
