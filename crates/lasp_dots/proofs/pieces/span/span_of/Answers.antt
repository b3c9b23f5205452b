use Rattle.std.proofs.Common.{arith}
use Rattle.lasp_log.specs.Log.{joined}
use Rattle.lasp_dots.specs.Pieces.{many}
use Rattle.lasp_dots.proofs.PartLaws.{many-small}
use Rattle.lasp_dots.proofs.PieceLaws.{places-rise, between, span-small}
use Rattle.lasp_dots.proofs.pieces.span.span_of.Goals as goal

pub slice_bounds-count_items-count : goal.slice_bounds-count_items-count
slice_bounds-count_items-count g c =
    let begin = c.place_of-begin.ensures in
    let end = c.place_of-end.ensures in
    let order = places-rise c.args.pieces.now c.place_of-begin.result.piece c.place_of-end.result.piece c.place_of-begin.result.at c.place_of-end.result.at (many (g.E.Edge.in_front c.args.from.now) (joined c.args.pieces.now))
    (many (g.F.Edge.in_front c.args.to.now) (joined c.args.pieces.now)) begin end c.requires.order in
    order

pub slice_bounds-count_items-start : goal.slice_bounds-count_items-start
slice_bounds-count_items-start g c =
    let begin = c.place_of-begin.ensures in
    let end = c.place_of-end.ensures in
    let order = places-rise c.args.pieces.now c.place_of-begin.result.piece c.place_of-end.result.piece c.place_of-begin.result.at c.place_of-end.result.at (many (g.E.Edge.in_front c.args.from.now) (joined c.args.pieces.now))
    (many (g.F.Edge.in_front c.args.to.now) (joined c.args.pieces.now)) begin end c.requires.order in
    order

pub count_items-between-requires : goal.count_items-between-requires
count_items-between-requires g c =
    let begin = c.place_of-begin.ensures in
    let end = c.place_of-end.ensures in
    let order = places-rise c.args.pieces.now c.place_of-begin.result.piece c.place_of-end.result.piece c.place_of-begin.result.at c.place_of-end.result.at (many (g.E.Edge.in_front c.args.from.now) (joined c.args.pieces.now))
    (many (g.F.Edge.in_front c.args.to.now) (joined c.args.pieces.now)) begin end c.requires.order in
    let small = span-small c.args.pieces.now c.place_of-begin.result.piece c.place_of-end.result.piece order in
    omega (arith, small, c.requires.small)

pub overflow_add-result : goal.overflow_add-result
overflow_add-result g c =
    let begin = c.place_of-begin.ensures in
    let end = c.place_of-end.ensures in
    let order = places-rise c.args.pieces.now c.place_of-begin.result.piece c.place_of-end.result.piece c.place_of-begin.result.at c.place_of-end.result.at (many (g.E.Edge.in_front c.args.from.now) (joined c.args.pieces.now))
    (many (g.F.Edge.in_front c.args.to.now) (joined c.args.pieces.now)) begin end c.requires.order in
    let held = between c.args.pieces.now c.place_of-begin.result.piece c.place_of-end.result.piece order in
    omega (arith, held, end.sum, c.count_items-between.ensures, many-small (g.F.Edge.in_front c.args.to.now) (joined c.args.pieces.now), c.requires.small)

pub overflow_sub-result : goal.overflow_sub-result
overflow_sub-result g c =
    let begin = c.place_of-begin.ensures in
    let end = c.place_of-end.ensures in
    let order = places-rise c.args.pieces.now c.place_of-begin.result.piece c.place_of-end.result.piece c.place_of-begin.result.at c.place_of-end.result.at (many (g.E.Edge.in_front c.args.from.now) (joined c.args.pieces.now))
    (many (g.F.Edge.in_front c.args.to.now) (joined c.args.pieces.now)) begin end c.requires.order in
    let held = between c.args.pieces.now c.place_of-begin.result.piece c.place_of-end.result.piece order in
    omega (arith, held, begin.sum, end.sum, c.count_items-between.ensures, c.requires.order)

pub returns-clause-order : goal.returns-clause-order
returns-clause-order g c =
    let begin = c.place_of-begin.ensures in
    let end = c.place_of-end.ensures in
    let order = places-rise c.args.pieces.now c.place_of-begin.result.piece c.place_of-end.result.piece c.place_of-begin.result.at c.place_of-end.result.at (many (g.E.Edge.in_front c.args.from.now) (joined c.args.pieces.now))
    (many (g.F.Edge.in_front c.args.to.now) (joined c.args.pieces.now)) begin end c.requires.order in
    order

pub returns-clause-count : goal.returns-clause-count
returns-clause-count g c =
    let begin = c.place_of-begin.ensures in
    let end = c.place_of-end.ensures in
    let order = places-rise c.args.pieces.now c.place_of-begin.result.piece c.place_of-end.result.piece c.place_of-begin.result.at c.place_of-end.result.at (many (g.E.Edge.in_front c.args.from.now) (joined c.args.pieces.now))
    (many (g.F.Edge.in_front c.args.to.now) (joined c.args.pieces.now)) begin end c.requires.order in
    let held = between c.args.pieces.now c.place_of-begin.result.piece c.place_of-end.result.piece order in
    omega (arith, held, begin.sum, end.sum, c.count_items-between.ensures, c.requires.order)
