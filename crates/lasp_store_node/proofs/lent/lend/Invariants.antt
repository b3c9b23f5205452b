use Rattle.std.specs.Prelude.{Some}
use Rattle.lasp_store_node.proofs.lent.lend.Given as goal

abbrev pub ghosts-read_lent : goal.ghosts-read_lent
ghosts-read_lent g a = record { start = Some a.feed }
