use Rattle.std.proofs.Common.{refl}
use Rattle.std.specs.Prelude.{None}
use Rattle.model_live.specs.Story.{deeds_from}
use Rattle.model_live.proofs.StoryLaws.{goes-fails}
use Rattle.model_live.proofs.EndLaws.{story-later}
use Rattle.model_live.proofs.stories.stories_end.Goals as goal

pub returns-clause-fails : goal.returns-clause-fails
returns-clause-fails c = λ X entries notes done left number x until unmet goes. goes-fails X entries number x until left unmet done (deeds_from 0 notes entries) None refl goes

pub returns-clause-later : goal.returns-clause-later
returns-clause-later c = story-later
