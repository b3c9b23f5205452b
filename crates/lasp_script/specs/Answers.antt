-- That what a function returned is what reading says, unless memory ran out.
use Rattle.std.specs.Prelude.{◌≡◌, ℕ, Result, Ok, Err}
use Rattle.model_scripts.specs.declared.script_why.ScriptWhy.{ScriptWhy}
use Rattle.lasp_script.specs.declared.refused.CommandRefused.{CommandRefused}
use Rattle.lasp_script.specs.declared.refused.CommandRefused.TheVariants as command
use Rattle.lasp_script.specs.declared.refused.ScriptRefused.{ScriptRefused}
use Rattle.lasp_script.specs.declared.refused.ScriptRefused.TheVariants as script

-- the refusal of one command
abbrev pub Causes : {Y : Type 0} → CommandRefused → Result Y ScriptWhy → Type 0
Causes (command.Because why) read = read ≡ Err why
Causes command.Memory read = Unit {0}

-- what was returned for one command, seen by view, is what is read
abbrev pub Answers : {X Y : Type 0} → (X → Y) → Result X CommandRefused → Result Y ScriptWhy → Type 0
Answers view (Ok x) read = read ≡ Ok (view x)
Answers view (Err e) read = Causes e read

-- the refusal of the script whose command with this number is refused
abbrev pub refused_at : ℕ → CommandRefused → ScriptRefused
refused_at number (command.Because why) = script.At number why
refused_at number command.Memory = script.Memory

-- the refusal of a script
abbrev pub Fails : {Y : Type 0} → ScriptRefused → Result Y (ℕ × ScriptWhy) → Type 0
Fails (script.At number why) read = read ≡ Err (number, why)
Fails script.Memory read = Unit {0}

-- what was returned for a script, seen by view, is what is read
abbrev pub Gives : {X Y : Type 0} → (X → Y) → Result X ScriptRefused → Result Y (ℕ × ScriptWhy) → Type 0
Gives view (Ok x) read = read ≡ Ok (view x)
Gives view (Err e) read = Fails e read
