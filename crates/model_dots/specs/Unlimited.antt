-- A run in which nothing stops: each act leads to what it leads to where it can be done, however many rows a set comes to have and however many bytes all messages.
use Rattle.std.specs.Prelude.{◌≡◌, ℕ, List, [], ◌∷◌}
use Rattle.model_graph.specs.Graph.{Decl}
use Rattle.model_world.specs.Command.{Command}
use Rattle.model_world.specs.Lawful.{opening_stage, AreLawful}
use Rattle.model_world.specs.World.{Run, Act, start, effect, acts}
use Rattle.model_world.specs.Follow.{Followed, afters, begin}

-- the run after acts
abbrev pub after_acts : Run → List Act → Run
after_acts run [] = run
after_acts run (a ∷ rest) = after_acts (effect run a) rest

-- the run after commands
unfoldable pub unlimited : Run → List Command → Run
unlimited run [] = run
unlimited run (k ∷ rest) = unlimited (after_acts run (acts run k)) rest

-- the run after these commands, which are lawful
pub record IsUnlimited (g : List Decl) (nodes : ℕ) (commands : List Command) (run : Run) : Type 0 where
  pub lawful : AreLawful nodes (opening_stage g) commands
  pub reached : run ≡ unlimited (start g nodes) commands

-- ---- such a run with what its updates brought, which changes nothing of it

-- its place after commands
unfoldable pub unlimited_place : Followed → List Command → Followed
unlimited_place f [] = f
unlimited_place f (k ∷ rest) = unlimited_place (afters f (acts f.run k)) rest

-- the place of such a run after these commands, which are lawful
pub record IsUnlimitedPlaceOf (g : List Decl) (nodes : ℕ) (commands : List Command) (f : Followed) : Type 0 where
  pub lawful : AreLawful nodes (opening_stage g) commands
  pub reached : f ≡ unlimited_place (begin g nodes) commands
