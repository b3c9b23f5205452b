-- What a call of `live` comes to.
use Rattle.std.specs.Prelude.{◌≡◌, ℕ, ◌+◌, List, length, None, Result, Ok, Err, string_bytes}
use Rattle.model_graph.specs.Graph.{Decl, name_at}
use Rattle.model_program.specs.Follows.{Allows}
use Rattle.model_program.specs.Live.{Output, live_answer}
use Rattle.model_program.specs.declared.failure.Failure.{Failure}
use Rattle.model_program.specs.declared.failure.Failure.TheVariants.{Refused, ReadFault, Memory}
use Rattle.model_program.specs.declared.refusal.Refusal.TheVariants.{TooLarge}
use Rattle.model_world.specs.Command.{Script}
use Rattle.lasp_live_run.specs.declared.run.Lived.{Lived}

-- what the code answers, with the bytes of its text
abbrev pub lived_of : Result Lived Failure → Result Output Failure
lived_of (Ok l) = Ok (record { text = string_bytes l.text; failed = l.failed })
lived_of (Err failure) = Err failure

-- a run of the nodes of this script, or why there is none
abbrev pub LiveAllows : List Decl → Script → Result Output Failure → Type 0
LiveAllows g script (Ok o) = Allows (live_answer o.failed g script) (Ok o.text)
LiveAllows g script (Err failure) = Allows (live_answer None g script) (Err failure)

-- the refusal of this variable behind the script's last command, or want of memory
abbrev pub IsTooLarge : List Decl → Script → ℕ → Failure → Type 0
IsTooLarge g script x (Refused refusal) = refusal ≡ TooLarge (length script.commands + 1) 0 (name_at g x)
IsTooLarge g script x (ReadFault f) = ⊥
IsTooLarge g script x Memory = Unit {0}
