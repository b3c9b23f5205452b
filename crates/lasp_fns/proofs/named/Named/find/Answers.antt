use Rattle.std.proofs.Common.{◌∙◌}
use Rattle.lasp_fns.proofs.Names.{position-named}
use Rattle.lasp_fns.proofs.named.Named.find.Goals as goal

pub returns-in-Some : goal.returns-in-Some
returns-in-Some g c = c.in-Some.ensures.index ∙ position-named c.args.name.now c.args.self.now.entries.entries

pub returns-in-None : goal.returns-in-None
returns-in-None g c = c.in-None.ensures.index ∙ position-named c.args.name.now c.args.self.now.entries.entries
