use Rattle.model_runs.proofs.SoundLaws.{sound-update, sound-keep, sound-post, sound-take, sound-point, sound-open, sound-extend, sound-later}
use Rattle.model_runs.proofs.sound.runs_stay_sound.Goals as goal

pub returns-clause-update : goal.returns-clause-update
returns-clause-update c = sound-update

pub returns-clause-keep : goal.returns-clause-keep
returns-clause-keep c = sound-keep

pub returns-clause-post : goal.returns-clause-post
returns-clause-post c = sound-post

pub returns-clause-take : goal.returns-clause-take
returns-clause-take c = sound-take

pub returns-clause-point : goal.returns-clause-point
returns-clause-point c = sound-point

pub returns-clause-open : goal.returns-clause-open
returns-clause-open c = sound-open

pub returns-clause-extend : goal.returns-clause-extend
returns-clause-extend c = sound-extend

pub returns-clause-later : goal.returns-clause-later
returns-clause-later c = sound-later
