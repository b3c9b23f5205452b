-- Jobs that were handed out and then evaluated.
use Rattle.std.specs.Prelude.{◌≡◌}
use Rattle.std.specs.Arc.{arc_value}
use Rattle.model_states.specs.Content.{Content}
use Rattle.model_graph.specs.Graph.{kind_at}
use Rattle.lasp_state.specs.declared.state.State.{State}
use Rattle.lasp_state.specs.State.{content_of}
use Rattle.lasp_graph.specs.Evaluated.{process, second_of}
use Rattle.lasp_graph.specs.Delta.{IsStateOf}
use Rattle.lasp_replica.specs.declared.job.Job.{Job}

-- what the process of a job's variable gives on the job's inputs
abbrev pub evaluated : Job → Content
evaluated job = process (kind_at (arc_value job.graph) job.var) (content_of (arc_value job.inputs.first)) (content_of (second_of job.inputs))

-- the state that the process of a job's variable has on the job's inputs
abbrev pub IsEvaluated : Job → State → Type 0
IsEvaluated job s = IsStateOf (kind_at (arc_value job.graph) job.var) (content_of (arc_value job.inputs.first)) (content_of (second_of job.inputs)) s

-- the same job, evaluated or not: only the rows that it gained may differ
pub record IsSameJob (job done : Job) : Type 0 where
  pub var : done.var ≡ job.var
  pub n : done.n ≡ job.n
  pub inputs : done.inputs ≡ job.inputs
  pub graph : done.graph ≡ job.graph
  pub base : done.base ≡ job.base
  pub before : done.before ≡ job.before
