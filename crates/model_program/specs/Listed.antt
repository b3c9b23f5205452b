-- The listed forms, by their words.
use Rattle.std.specs.Prelude.{ℕ, ◌<◌, ◌≤◌, List, [], ◌∷◌, length, codes}
use Rattle.std.specs.Fmt.{decimal}
use Rattle.model_program.specs.declared.form.Form.{Form}
use Rattle.model_program.specs.declared.form.Form.TheVariants.{Plain, Delta, Check, Dots, Export, Merge, Threaded}
use Rattle.model_program.specs.declared.threaded.Threaded.TheVariants.{Run, Trace, Live, Load}

-- so many workers a call may ask for
abbrev pub AreWorkers : ℕ → Type 0
AreWorkers workers = (1 ≤ workers) × (workers ≤ 16)

-- the words are of this listed form: `plain GRAPH SCRIPT`, `delta GRAPH SCRIPT`, `check GRAPH`, `dots SCRIPT`, `export GRAPH SCRIPT NODE`, `merge GRAPH FILE ..`, and for several threads `run GRAPH SCRIPT WORKERS`, `trace GRAPH SCRIPT WORKERS`, `live GRAPH SCRIPT WORKERS`, `load SEED COUNT WORKERS`
pub data IsListed : List (List ℕ) → Form → Type 0 where
  plain : {graph script : List ℕ} → IsListed (codes "plain" ∷ graph ∷ script ∷ []) Plain
  delta : {graph script : List ℕ} → IsListed (codes "delta" ∷ graph ∷ script ∷ []) Delta
  check : {graph : List ℕ} → IsListed (codes "check" ∷ graph ∷ []) Check
  dots : {script : List ℕ} → IsListed (codes "dots" ∷ script ∷ []) Dots
  export : {graph script : List ℕ} {node : ℕ} → node < 8 → IsListed (codes "export" ∷ graph ∷ script ∷ decimal node ∷ []) (Export node)
  merge : {graph : List ℕ} {files : List (List ℕ)} → 1 ≤ length files → length files ≤ 8 → IsListed (codes "merge" ∷ graph ∷ files) Merge
  run : {graph script : List ℕ} {workers : ℕ} → AreWorkers workers → IsListed (codes "run" ∷ graph ∷ script ∷ decimal workers ∷ []) (Threaded (Run workers))
  trace : {graph script : List ℕ} {workers : ℕ} → AreWorkers workers → IsListed (codes "trace" ∷ graph ∷ script ∷ decimal workers ∷ []) (Threaded (Trace workers))
  live : {graph script : List ℕ} {workers : ℕ} → AreWorkers workers → IsListed (codes "live" ∷ graph ∷ script ∷ decimal workers ∷ []) (Threaded (Live workers))
  load : {seed count workers : ℕ} → seed ≤ 2147483647 → 1 ≤ count → count ≤ 20000 → AreWorkers workers → IsListed (codes "load" ∷ decimal seed ∷ decimal count ∷ decimal workers ∷ []) (Threaded (Load seed count workers))
