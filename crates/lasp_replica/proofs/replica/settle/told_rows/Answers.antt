use Rattle.std.proofs.Common.{◌≡◌, true}
use Rattle.std.specs.Prelude.{pos}
use Rattle.lasp_graph.specs.States.{held_of}
use Rattle.lasp_replica.proofs.InPlaceLaws.{told-of-set, told-of-fold}
use Rattle.lasp_replica.proofs.replica.settle.told_rows.Goals as goal

pub returns-then-is_set : goal.returns-then-is_set
returns-then-is_set c = told-of-set (held_of c.args.state.now) c.args.rows.now (pos 0) c.requires.new (c.is_set.ensures.0 c.if-is_set.true)

pub returns : goal.returns
returns c = told-of-fold (held_of c.args.state.now) c.args.rows.now (pos 0) c.args.none.now c.requires.none (λ p. let set : c.is_set.result ≡ true = c.is_set.ensures.1 p in cc (set, c.if-is_set.false))
