use Rattle.std.proofs.Common.{arith}
use Rattle.lasp_histlock.proofs.Looking.{adds}
use Rattle.lasp_histlock.proofs.steps.add.Goals as goal

pub fetch_add-requires : goal.fetch_add-requires
fetch_add-requires g c =
    let r = c.requires.carries in (
      c.requires.board.1,
      omega (arith, c.requires.board.0),
      adds _ _ g.T.Kept.names g.T.Kept.may _ _ _ c.args.seat.now.me g.J.Batch.entries c.args.count r.0 r.1 r.2 c.requires.entries.0 c.requires.entries.1 c.requires.small,
    )
