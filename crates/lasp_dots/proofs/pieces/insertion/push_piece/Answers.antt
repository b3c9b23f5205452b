use Rattle.lasp_dots.proofs.PieceLaws.{pushed-own, filled-own}
use Rattle.lasp_dots.proofs.pieces.insertion.push_piece.Goals as goal

pub returns-clause-ok : goal.returns-clause-ok
returns-clause-ok g c =
    pushed-own c.args.pieces.now.items c.push-2.new.self.items c.in_ok-of.field-0 c.push.new.self.items c.in_ok-items.items.items c.args.item c.in_ok-push-2.ensures.items c.in_ok-of.ensures c.in_ok-push.ensures.items
    c.in_ok-items.ensures.items

pub returns-clause-full : goal.returns-clause-full
returns-clause-full g c =
    filled-own c.args.pieces.now.items c.push-2.new.self.items c.in_ok-of.field-0 c.push.new.self.items c.in_ok-items.items.items c.args.item c.requires c.in_ok-push-2.ensures.items c.in_ok-of.ensures c.in_ok-push.ensures.items
