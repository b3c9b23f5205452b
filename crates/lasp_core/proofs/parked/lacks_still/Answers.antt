use Rattle.std.proofs.Common.{subst}
use Rattle.std.specs.Prelude.{Option, IfSome}
use Rattle.lasp_core.specs.Lacking.{AreNews}
use Rattle.lasp_core.specs.declared.news.News.{News}
use Rattle.lasp_core.proofs.LackLaws.{waiting-spared, waiting-kept, still-found}
use Rattle.lasp_core.proofs.parked.lacks_still.Goals as goal

pub returns-then-spares : goal.returns-then-spares
returns-then-spares c sure lacking =
    waiting-spared c.args.replica.now c.requires.replica c.args.n c.requires.within c.in-Some.news (subst (λ (o : Option News). IfSome o (AreNews c.args.replica.now c.args.n)) c.in-Some.is c.requires.news)
    c.args.read.now c.requires.read (c.spares.ensures c.if-spares.true) lacking

pub returns : goal.returns
returns c still lacking =
    waiting-kept c.args.replica.now c.requires.replica c.args.n c.requires.within c.args.read.now c.requires.read
    (still-found c.args.replica.now c.requires.replica c.args.n c.args.read.now.var c.requires.read.declared c.index.result.now c.index.ensures (c.is_still_since.ensures.0 still)) lacking
