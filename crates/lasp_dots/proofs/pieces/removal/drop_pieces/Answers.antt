use Rattle.std.proofs.Common.{rules, ◌≡◌, ◌++◌, ◌∙◌, take, drop}
use Rattle.lasp_dots.proofs.pieces.removal.drop_pieces.Goals as goal

pub returns : goal.returns
returns g c =
    let left : c.drop-drain.new.self.0.items ≡ take c.args.first c.args.pieces.now.items ++ drop c.args.behind c.args.pieces.now.items = c.drop-drain.ensures.items ∙ c.drain.ensures.kept in
    search (rules, left)
