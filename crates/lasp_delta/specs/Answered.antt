-- What applying a delta answered, beside what comes of it.
use Rattle.std.specs.Prelude.{◌≡◌, Option, Some, None, Result, Ok, Err}
use Rattle.model_graph.specs.Message.{Message}
use Rattle.model_deltas.specs.Delta.{Delta, delta_of}
use Rattle.model_deltas.specs.Applied.{first_gap, joined, limited, unless}
use Rattle.model_deltas.specs.Applied as plain
use Rattle.model_deltas.specs.Before.{IsBefore}
use Rattle.model_deltas.specs.World.{AreOfOneWorld}
use Rattle.lasp_delta.specs.declared.refused.DeltaRefused.{DeltaRefused}
use Rattle.lasp_delta.specs.declared.refused.DeltaRefused.TheVariants as refused

-- the refusal has this cause; want of memory may always be
abbrev pub HasCause : DeltaRefused → Result Message plain.Cause → Type 0
HasCause (refused.Gap replica have from) r = r ≡ Err (plain.Gap replica have from)
HasCause (refused.TooManyRows i) r = r ≡ Err (plain.TooManyRows i)
HasCause refused.Memory r = Unit {0}

-- what was answered is what comes of it
abbrev pub Answers : Result Message DeltaRefused → Result Message plain.Cause → Type 0
Answers (Ok m) r = r ≡ Ok m
Answers (Err e) r = HasCause e r

-- a gap that was found
abbrev pub IsGap : DeltaRefused → Option plain.Cause → Type 0
IsGap (refused.Gap replica have from) gap = gap ≡ Some (plain.Gap replica have from)
IsGap (refused.TooManyRows i) gap = ⊥
IsGap refused.Memory gap = ⊥

-- what a search for a gap found
abbrev pub Finds : Result (Unit {0}) DeltaRefused → Option plain.Cause → Type 0
Finds (Ok u) gap = gap ≡ None
Finds (Err e) gap = IsGap e gap

-- at a message of a world, where the delta leads from one message of the world to a later one: what was answered is what comes of the message and the later one together, with the gap where the message counts fewer updates than the earlier one
unfoldable pub AnswersInWorlds : Message → Delta → Result Message DeltaRefused → Type 0
AnswersInWorlds m d result = (before after : Message) → AreOfOneWorld before after m → IsBefore before after → d ≡ delta_of before after
    → Answers result (unless (first_gap 0 m.counts before.counts) (limited (joined m after)))
