-- What one node does by its commands, in their order.
use Rattle.std.specs.Prelude.{ℕ, ◌+◌, ◌==◌, if◌then◌else◌, List, [], ◌∷◌, ◌++◌}
use Rattle.model_states.specs.Update.{Op}
use Rattle.model_states.specs.Update as op
use Rattle.model_world.specs.Command as command
use Rattle.model_world.specs.Command.{Until, Command}

-- what a node does by itself: it updates a source, sends its message to all others, or prints a variable
pub data Deed : Type 0 where
  Updates : ℕ → Op → Deed
  Sends : Deed
  Prints : ℕ → Deed

-- a deed, or the number of a command at which the node waits until a variable comes to a threshold
pub data Step : Type 0 where
  Does : Deed → Step
  Waits : ℕ → ℕ → Until → Step

-- the step, where it is a step of node p
abbrev pub step_of : ℕ → ℕ → Step → List Step
step_of p q s = if q == p then s ∷ [] else []

-- what command number c is at node p
abbrev pub step_at : ℕ → ℕ → Command → List Step
step_at p c (command.Add q x v) = step_of p q (Does (Updates x (op.Add v)))
step_at p c (command.Remove q x v) = step_of p q (Does (Updates x (op.Remove v)))
step_at p c (command.Insert q x v) = step_of p q (Does (Updates x (op.Insert v)))
step_at p c (command.Inc q x k) = step_of p q (Does (Updates x (op.Inc k)))
step_at p c (command.Max q x n) = step_of p q (Does (Updates x (op.Max n)))
step_at p c (command.Send q) = step_of p q (Does Sends)
step_at p c (command.Print q x) = step_of p q (Does (Prints x))
step_at p c (command.Await q x until) = step_of p q (Waits c x until)
step_at p c _ = []

-- what these commands are at node p, the first of them being number c
unfoldable pub steps : ℕ → ℕ → List Command → List Step
steps p c [] = []
steps p c (k ∷ rest) = step_at p c k ++ steps p (c + 1) rest
