use Rattle.std.proofs.Common.{◌+◌, inl, subst}
use Rattle.left_right.specs.Sides as sides
use Rattle.lasp_snap.specs.Views.{SpyView, Looked, spy_view}
use Rattle.lasp_snap.proofs.Watching.{found_looks, found_same, spy_after, looked_none, looked_one, more_of}
use Rattle.lasp_snap.proofs.spy.Spy.look.Goals as goal

-- no reading was given
pub returns-in-None-clause-looked : goal.returns-in-None-clause-looked
returns-in-None-clause-looked c =
    let s = c.self.inside in
    let f = c.replace_with-found.ensures in
    let w = sides.view c.replace_with-found.new.dest.place in
    subst (λ (old : SpyView). Looked old (spy_view w s.heard s.place s.looks)) c.self.view_is
    (looked_none s.kept s.place s.heard _ w c.self.invariant f.same f.before s.looks (inl (found_same _ w c.replace_with-found.result f c.in-None.is)))

-- a reading was taken
pub invariant_of-self-in-Some-Ok : goal.invariant_of-self-in-Some-Ok
invariant_of-self-in-Some-Ok c =
    let s = c.self.inside in
    spy_after s.kept s.place s.heard _ _ c.self.invariant c.in-Some-Ok.shown (found_looks _ _ c.replace_with-found.result c.in-Some-Ok.field-0 c.in-Some-Ok.shown c.replace_with-found.ensures c.in-Some-Ok.is c.in-Some-Ok.field-0-is)

pub returns-else-not-is_as_new-clause-looked : goal.returns-else-not-is_as_new-clause-looked
returns-else-not-is_as_new-clause-looked c =
    let s = c.self.inside in
    let w = sides.view c.replace_with-found.new.dest.place in
    let y = c.in-Some-Ok.shown in
    subst (λ (old : SpyView). Looked old (spy_view w s.heard y.published (s.looks + 1))) c.self.view_is
    (looked_one s.kept s.place s.heard _ w c.self.invariant y (found_looks _ _ c.replace_with-found.result c.in-Some-Ok.field-0 y c.replace_with-found.ensures c.in-Some-Ok.is c.in-Some-Ok.field-0-is) s.looks (c.is_as_new.ensures c.if-not-is_as_new.false))

pub returns-else-not-is_as_new-clause-more : goal.returns-else-not-is_as_new-clause-more
returns-else-not-is_as_new-clause-more c =
    let s = c.self.inside in
    more_of c.args.self.now (spy_view (sides.view c.replace_with-found.new.dest.place) s.heard c.in-Some-Ok.shown.published (s.looks + 1)) (returns-else-not-is_as_new-clause-looked c)
