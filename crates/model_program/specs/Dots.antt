-- `dots`: a script over one set, done by replicas that keep no tombstones.
use Rattle.std.specs.Prelude.{ℕ, List, Option, Some, None, Result, Ok, Err}
use Rattle.model_world.specs.Command.{Script}
use Rattle.model_dots.specs.DotReport.{dot_output}
use Rattle.model_dots.specs.Words.{first_other}
use Rattle.model_program.specs.declared.refusal.Refusal.{Refusal}
use Rattle.model_program.specs.declared.refusal.Refusal.TheVariants as refusal

-- a script is refused at its first command of another word; what is done of any other is written
abbrev pub dots_or : Script → Option ℕ → Result (List ℕ) Refusal
dots_or script (Some number) = Err (refusal.NotDots number)
dots_or script None = Ok (dot_output script.nodes script.commands)

abbrev pub dots_answer : Script → Result (List ℕ) Refusal
dots_answer script = dots_or script (first_other 1 script.commands)

-- how a call of `dots` may end: done, its script refused, its file not read or too long, its text not written, or without memory
pub data IsDotStatus : ℕ → Type 0 where
  done : IsDotStatus 0
  script : IsDotStatus 3
  file : IsDotStatus 4
  text : IsDotStatus 5
  memory : IsDotStatus 7
