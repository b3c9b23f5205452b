use Rattle.std.proofs.Common.{arith}
use Rattle.lasp_log.specs.Log.{joined}
use Rattle.lasp_dots.specs.Pieces.{many}
use Rattle.lasp_dots.proofs.PartLaws.{many-small}
use Rattle.lasp_dots.proofs.PieceLaws.{taken-count}
use Rattle.lasp_dots.proofs.pieces.list.Pieces.take_between.Goals as goal

pub overflow_sub-self : goal.overflow_sub-self
overflow_sub-self g c =
    let small = many-small (g.F.Edge.in_front c.args.to.now) (joined c.self.inside.pieces.items) in
    omega (arith, small, c.self.invariant.counted, c.in_ok-taken.ensures.count)

pub invariant_of-self-2 : goal.invariant_of-self-2
invariant_of-self-2 g c =
    let small = many-small (g.F.Edge.in_front c.args.to.now) (joined c.self.inside.pieces.items) in
    let left =
    taken-count (joined c.self.inside.pieces.items) (joined c.take_out.new.pieces.items) (many (g.E.Edge.in_front c.args.from.now) (joined c.self.inside.pieces.items)) (many (g.F.Edge.in_front c.args.to.now) (joined c.self.inside.pieces.items))
    c.in_ok-taken.taken c.in_ok-taken.ensures.ok small c.in_ok-taken.ensures.count in
    record {
      counted = omega (arith, left, c.self.invariant.counted);
      small = omega (arith, c.self.invariant.small);
      filled = c.take_out.ensures.full;
    }
