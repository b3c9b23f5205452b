-- Two nodes beside each other, by computation.
use Rattle.std.proofs.Common.{◌≡◌, [], ◌∷◌, codes, Some, None, refl}
use Rattle.std.specs.Fmt.{digits}
use Rattle.model_states.specs.Update.{Inc}
use Rattle.model_runs.specs.Calls.{frame_of}
use Rattle.model_live.specs.Lived.{heard_of, numbered, lines_from, live_text, first_failed}
use Rattle.model_live.specs.Steps.{Updates, Sends, Prints, steps}
use Rattle.model_live.specs.Story.{Goes, ends, does, passes, fails, deeds_from, deeds, letters_in, letters}
use Rattle.model_examples.specs.Case.{lines}
use Rattle.model_examples.specs.Graphs.{counter_graph}
use Rattle.model_examples.specs.Lives.{heard_script, counting_story, hearing_story, lonely_story}

pub text-told : live_text counter_graph 2 (counting_story ∷ hearing_story ∷ []) ≡ lines (codes "0 0 0 update c 1" ∷ codes "0 send 1" ∷ codes "1 0 0 deliver 0" ∷ codes "1 print 1 c 3" ∷ codes "known 0 1 0" ∷ codes "known 1 1 0" ∷ [])
unfolding lines_from digits
text-told = refl

pub counting-deeds : deeds counting_story ≡ (0, Updates 0 (Inc 3)) ∷ (1, Sends) ∷ []
unfolding deeds_from
counting-deeds = refl

pub hearing-deeds : deeds hearing_story ≡ (1, Prints 0) ∷ []
unfolding deeds_from
hearing-deeds = refl

pub heard-sent : heard_of 0 hearing_story.entries ≡ numbered 0 (letters (frame_of counter_graph 2 0) counting_story)
unfolding heard_of numbered letters_in
heard-sent = refl

pub hearing-goes : Goes (frame_of counter_graph 2 1) hearing_story.entries (steps 1 1 heard_script.commands) (deeds hearing_story) None
unfolding steps deeds_from
hearing-goes = passes refl (does ends)

pub lonely-fails : Goes (frame_of counter_graph 2 1) lonely_story.entries (steps 1 1 heard_script.commands) (deeds lonely_story) (Some 3)
unfolding steps deeds_from
lonely-fails = fails refl

pub first-is : first_failed (counting_story ∷ lonely_story ∷ []) ≡ Some 3
first-is = refl

pub ruleset lives = (text-told, counting-deeds, hearing-deeds, heard-sent, hearing-goes, lonely-fails, first-is)
