-- What a command of a script is to replicas.
use Rattle.std.specs.Prelude.{ℕ, ◌<◌, [], length}
use Rattle.model_dots.specs.Dots.{count_limit}
use Rattle.model_world.specs.Command.{Command}
use Rattle.model_world.specs.Lawful.{Stage, MayBeDone}
use Rattle.model_dots.specs.DotWorld.{one_set, DotWorld, IsDotCommand}
use Rattle.model_dots.specs.Sizes.{CountAtMost}

-- what stands before the next command of a script, the replicas having come there
abbrev pub stage_at : DotWorld → Stage
stage_at w = record { graph = one_set; marked = []; sent = length w.sent }

-- the command may be done, it is one that such replicas know, and there is a count left for its update
pub record CanDo (w : DotWorld) (k : Command) : Type 0 where
  pub lawful : MayBeDone (length w.nodes) (stage_at w) k
  pub known : IsDotCommand k
  pub many : ℕ
  pub few : many < count_limit
  pub counts : CountAtMost many w
