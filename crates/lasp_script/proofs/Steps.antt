-- What a part that was read means for those that follow.
use Rattle.std.proofs.Common.{◌≡◌, refl, ℕ, Ok, List, [], ◌∷◌, ◌++◌}
use Rattle.serde_json.specs.Data.{Data}
use Rattle.model_values.specs.Value.{Val}
use Rattle.model_functions.specs.Library.{Library}
use Rattle.model_scripts.specs.Progress.{Progress, next_number}
use Rattle.model_scripts.specs.Script.{next_read, commands_read}
use Rattle.lasp_script.specs.declared.refused.CommandRefused.{CommandRefused}
use Rattle.lasp_script.specs.declared.refused.CommandRefused.TheVariants.{Because, Memory}
use Rattle.lasp_script.specs.Made.{value_read, values_from}
use Rattle.lasp_script.specs.Answers.{Causes, Fails, refused_at}

pub values_from-next : (before : List Val) (d : Data) (ds : List Data) (v : Val) → value_read d ≡ Ok v → values_from before (d ∷ ds) ≡ values_from (before ++ v ∷ []) ds
unfolding values_from
values_from-next before d ds v e = rw e refl

pub values_from-stop : (before : List Val) (d : Data) (ds : List Data) (e : CommandRefused) → Causes e (value_read d) → Causes e (values_from before (d ∷ ds))
unfolding values_from
values_from-stop before d ds (Because why) is = rw is refl
values_from-stop before d ds Memory is = tt

pub values_from-end : (before : List Val) → values_from before [] ≡ Ok before
unfolding values_from
values_from-end before = refl

pub commands_read-next : (lib : Library) (nodes : ℕ) (p next : Progress) (d : Data) (ds : List Data) → next_read lib nodes p d ≡ Ok next → commands_read lib nodes p (d ∷ ds) ≡ commands_read lib nodes next ds
unfolding commands_read
commands_read-next lib nodes p next d ds e = rw e refl

pub commands_read-stop : (lib : Library) (nodes : ℕ) (p : Progress) (d : Data) (ds : List Data) (number : ℕ) (e : CommandRefused)
    → number ≡ next_number p → Causes e (next_read lib nodes p d) → Fails (refused_at number e) (commands_read lib nodes p (d ∷ ds))
unfolding commands_read
commands_read-stop lib nodes p d ds number (Because why) n is = rw (n, is) refl
commands_read-stop lib nodes p d ds number Memory n is = tt

pub commands_read-end : (lib : Library) (nodes : ℕ) (p : Progress) → commands_read lib nodes p [] ≡ Ok p
unfolding commands_read
commands_read-end lib nodes p = refl
