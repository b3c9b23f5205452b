use Rattle.std.proofs.Common.{ap, ◌∙◌}
use Rattle.lasp_snap.specs.Views.{ShelfView}
use Rattle.lasp_store.proofs.ShelfLaws.{version-follows, shelf-published}
use Rattle.lasp_store.proofs.TurnLaws.{turn-frame, turn-seen}
use Rattle.lasp_store.proofs.store.Store.publish.Goals as goal

-- the feed has seen no less than when the last version was published
pub push-requires-clause-later : goal.push-requires-clause-later
push-requires-clause-later g c =
    let old = c.args.f.now in
    let new = c.version.new.f in
    version-follows old new c.args.s.now c.requires.shelf (turn-frame _ old new c.version.ensures.turn) (turn-seen _ old new c.version.ensures.turn) c.in-Ok.version c.in-Ok.ensures.version

pub returns-in-Ok-push-clause-shelf : goal.returns-in-Ok-push-clause-shelf
returns-in-Ok-push-clause-shelf g c =
    shelf-published c.version.new.f c.tell.new.self c.args.s.now.published c.in-Ok.version (ap (λ (s : ShelfView). s.published) c.tell.ensures.same ∙ c.in-Ok-push.ensures.ok) c.in-Ok.ensures.version
