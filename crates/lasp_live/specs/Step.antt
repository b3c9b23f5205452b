-- What a command is at a node.
use Rattle.std.specs.Prelude.{◌≡◌, ℕ, [], ◌∷◌, Option, Some, None}
use Rattle.model_live.specs.Steps as plain
use Rattle.model_live.specs.Steps.{step_at}
use Rattle.lasp_script.specs.Command.{command_of, until_of}
use Rattle.lasp_script.specs.declared.command.Command.{Command}
use Rattle.lasp_state.specs.State.{op_of}
use Rattle.lasp_live.specs.declared.step.Step.{Step}
use Rattle.lasp_live.specs.declared.step.Step.TheVariants.{Update, Send, Print, Await}

-- a step as plain data, where its command has this number
abbrev pub plain_step : ℕ → Step → plain.Step
plain_step c (Update x op) = plain.Does (plain.Updates x (op_of op))
plain_step c Send = plain.Does plain.Sends
plain_step c (Print x) = plain.Does (plain.Prints x)
plain_step c (Await x until) = plain.Waits c x (until_of until.now)

-- what the command is at node p, whatever number it has
abbrev pub IsStepOf : ℕ → Command → Option Step → Type 0
IsStepOf p command None = (c : ℕ) → step_at p c (command_of command) ≡ []
IsStepOf p command (Some s) = (c : ℕ) → step_at p c (command_of command) ≡ plain_step c s ∷ []
