-- Reading commands one after the other, each behind those before it, up to the first that is refused.
use Rattle.std.specs.Prelude.{◌≡◌, ℕ, List, [], ◌∷◌, ◌++◌, Ok, Err}
use Rattle.serde_json.specs.Data.{Data}
use Rattle.model_functions.specs.Library.{Library}
use Rattle.model_scripts.specs.declared.script_why.ScriptWhy.{ScriptWhy}
use Rattle.model_scripts.specs.Progress.{Progress, next_number}
use Rattle.model_scripts.specs.Script.{next_read}

-- these trees, each accepted behind those before it, lead from the one progress to the other
pub data AreRead (lib : Library) (nodes : ℕ) : Progress → List Data → Progress → Type 0 where
  none : {p : Progress} → AreRead lib nodes p [] p
  more : {p next last : Progress} {d : Data} {ds : List Data} → next_read lib nodes p d ≡ Ok next → AreRead lib nodes next ds last → AreRead lib nodes p (d ∷ ds) last

-- trees are refused at one of them: those before it are accepted, it has this number, and it is refused behind them for this cause
pub record IsRefused (lib : Library) (nodes : ℕ) (p : Progress) (ds : List Data) (number : ℕ) (cause : ScriptWhy) : Type 0 where
  pub good : List Data
  pub bad : Data
  pub rest : List Data
  pub last : Progress
  pub items : good ++ bad ∷ rest ≡ ds
  pub read : AreRead lib nodes p good last
  pub number_is : next_number last ≡ number
  pub refused : next_read lib nodes last bad ≡ Err cause
