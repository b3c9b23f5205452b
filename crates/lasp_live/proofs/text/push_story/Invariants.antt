use Rattle.std.specs.Prelude.{string_bytes}
use Rattle.lasp_live.specs.Diary.{story_of}
use Rattle.lasp_live.proofs.TextLaws.{IsTelling}
use Rattle.lasp_live.proofs.text.push_story.Given as goal

abbrev pub invariant-loop-i : goal.invariant-loop-i
invariant-loop-i l = IsTelling l.graph l.core.frame l.p (story_of l.core.entries l.diary) l.i l.updates l.next (string_bytes l.fn.text) (string_bytes l.text)
