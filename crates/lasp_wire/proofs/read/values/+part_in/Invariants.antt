use Rattle.lasp_wire.proofs.read.values.+part_in.Given as goal

abbrev pub decreases-part_in : goal.decreases-part_in
decreases-part_in l = l.pairs
