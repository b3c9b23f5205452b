use Rattle.std.proofs.Common.{◌≤◌, length, subst, arith}
use mathlib.Core.List.{IsPrefix}
use Rattle.lasp_snap.specs.Log.{shown_in}
use Rattle.lasp_snap.specs.Views.{ShelfView, SpyView}
use Rattle.lasp_snap.proofs.Logs.{shown_in-prefix}
use Rattle.lasp_snap.proofs.spy.Spy.learn.Goals as goal

-- the longer of the two is kept, and the other begins it
pub returns-then-len-clause-before : goal.returns-then-len-clause-before
returns-then-len-clause-before c =
    let old = c.self.inside.heard.log in
    let new = c.told.inside.front.log in
    let le : length old ≤ length new = omega (arith, c.len.ensures, c.len-2.ensures, c.if-len.true) in
    subst (λ (s : SpyView). IsPrefix s.heard (shown_in new)) c.self.view_is (shown_in-prefix old new (c.compare.ensures.first le))

pub returns-else-len-clause-heard : goal.returns-else-len-clause-heard
returns-else-len-clause-heard c =
    let old = c.self.inside.heard.log in
    let new = c.told.inside.front.log in
    let le : length new ≤ length old = omega (arith, c.len.ensures, c.len-2.ensures, c.if-len.false) in
    subst (λ (s : SpyView). IsPrefix c.args.told.published s.heard) c.self.view_is
    (subst (λ (t : ShelfView). IsPrefix t.published (shown_in old)) c.told.view_is (shown_in-prefix new old (c.compare.ensures.second le)))
