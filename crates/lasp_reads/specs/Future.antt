-- A read that waits: what it reads, where, and what its polls tell.
use Rattle.std.specs.Prelude.{◌≡◌, ℕ, ◌<◌, Result, IfOk, IsTrue, IsFalse}
use Rattle.std.specs.Arc.{arc_value}
use Rattle.std.specs.declared.alloc.AllocError.{AllocError}
use Rattle.std.specs.declared.alloc.Global.{Global}
use Rattle.std.specs.declared.sync.Arc.{Arc}
use Rattle.model_states.specs.Threshold.{meets}
use Rattle.model_core.specs.Core.{Read}
use Rattle.lasp_state.specs.declared.state.State.{State}
use Rattle.lasp_graph.specs.States.{Held, held_of}
use Rattle.lasp_core.specs.Reads.{read_of}
use Rattle.lasp_reads.specs.declared.future.ReadFuture.{ReadFuture}

-- what it watches
abbrev pub watched_by : {W : Type 0} → ReadFuture W → W
watched_by f = f.watched

-- the read
abbrev pub read_in : {W : Type 0} → ReadFuture W → Read
read_in f = read_of f.read

-- the name of what it waits at
abbrev pub source_of : {W : Type 0} → ReadFuture W → ℕ
source_of f = f.source.now.id

abbrev pub IsSource : {W : Type 0} → ReadFuture W → ℕ → Type 0
IsSource f s = s ≡ source_of f

-- a state that is answered is at the read's threshold
abbrev pub IsAtThreshold : {A E : Type 0} → Read → Result (Arc State A) E → Type 0
IsAtThreshold r answer = IfOk answer (λ s. IsTrue (meets r.threshold (held_of (arc_value s)).content))

-- the one read may answer nothing that the other may not
abbrev pub GivesOnly : Read → Read → Type 0
GivesOnly r s = (answer : Result (Arc State Global) AllocError) → IsAtThreshold r answer → IsAtThreshold s answer

-- it looked at its replica, and knows all that there was
pub record HasLooked {W : Type 0} (looks : W → ℕ) (IsFresh : W → Type 0) (old new : W) : Type 0 where
  pub rose : looks old < looks new
  pub fresh : IsFresh new

-- the read's variable, among the states that are known, hasn't come to its threshold
abbrev pub IsBelow : (ℕ → Held) → Read → Type 0
IsBelow now r = IsFalse (meets r.threshold (now r.var).content)
