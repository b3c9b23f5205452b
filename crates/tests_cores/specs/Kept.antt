-- Jobs and reads of a core that are kept while other calls are made.
use Rattle.std.specs.Prelude.{List}
use Rattle.std.specs.List.{AllByRecursion}
use Rattle.model_journal.specs.Entry.{Entry, Frame}
use Rattle.model_core.specs.Core.{Core, Read}
use Rattle.lasp_state.specs.declared.state.State.{State}
use Rattle.lasp_replica.specs.declared.job.Job.{Job}
use Rattle.lasp_core.specs.Core.{IsOpen}
use Rattle.lasp_replica.specs.Jobs.{IsJobOf, IsResultOf}

-- a job of these entries, with its result
pub record IsWork (X : Frame) (entries : List Entry) (job : Job) (s : State) : Type 0 where
  pub job_is : IsJobOf X entries job
  pub result_is : IsResultOf X entries job s

-- each job is one of the core, with its result, and each read may be asked
pub record AreKept {W R : Type 0} (job : W → Job) (state : W → State) (read : R → Read) (c : Core) (works : List W) (reads : List R) : Type 0 where
  pub works_are : AllByRecursion (λ w. IsWork c.frame c.entries (job w) (state w)) works
  pub reads_are : AllByRecursion (λ r. IsOpen c.frame c.entries (read r)) reads
