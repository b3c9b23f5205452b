use Rattle.model_live.specs.Story.{deeds_from, ends}
use Rattle.model_live.proofs.StoryLaws.{learns-goes, hears-goes, updates-goes, notes-goes, goes-passes, placed-later, placed-next, letters-later}
use Rattle.std.proofs.Common.{refl}
use Rattle.std.specs.Prelude.{None}
use Rattle.model_live.proofs.stories.stories_go_on.Goals as goal

pub returns-clause-opens : goal.returns-clause-opens
unfolding deeds_from
returns-clause-opens c = λ X. ends

pub returns-clause-learns : goal.returns-clause-learns
returns-clause-learns c = learns-goes

pub returns-clause-hears : goal.returns-clause-hears
returns-clause-hears c = hears-goes

pub returns-clause-updates : goal.returns-clause-updates
returns-clause-updates c = updates-goes

pub returns-clause-notes : goal.returns-clause-notes
returns-clause-notes c = λ X entries notes done what placed goes. notes-goes X entries notes done what goes

pub returns-clause-passes : goal.returns-clause-passes
returns-clause-passes c = λ X entries notes done number x until met goes. goes-passes X entries number x until met done (deeds_from 0 notes entries) None refl goes

pub returns-clause-placed : goal.returns-clause-placed
returns-clause-placed c = placed-later

pub returns-clause-placed_next : goal.returns-clause-placed_next
returns-clause-placed_next c = placed-next

pub returns-clause-letters : goal.returns-clause-letters
returns-clause-letters c = letters-later
