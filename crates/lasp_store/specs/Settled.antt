-- What settling a store makes of the feed that asks for it, whatever others do meanwhile.
use Rattle.std.specs.Prelude.{◌≡◌, ℕ, ◌≤◌, ◌<◌, List, [], ◌∷◌, ◌++◌, All, Option, Some, None, Result, Ok, Err}
use Rattle.model_states.specs.Content.{Content}
use Rattle.model_graph.specs.Evaluation.{content_at, eval}
use Rattle.model_journal.specs.Entry.{Act, Update, Deliver, Bind, Extend, Entry, Frame}
use Rattle.model_journal.specs.Journal.{graph, val, sources}
use Rattle.model_journal.specs.Callers.{MayMake, made_by}
use Rattle.model_journal.specs.Clean.{IsClean}
use Rattle.model_graph.specs.Lawful.{IsDerived}
use Rattle.lasp_core.specs.declared.watched.Settle.{Settle}
use Rattle.lasp_core.specs.declared.watched.Settle.TheVariants as settle
use Rattle.lasp_store.specs.Turn.{Knows}

-- the act takes in the result of a job
abbrev pub IsBind : Act → Type 0
IsBind (Update x op) = ⊥
IsBind (Deliver i m) = ⊥
IsBind (Bind y n) = Unit {0}
IsBind (Extend d) = ⊥

-- each entry does
abbrev pub AreBinds : List Entry → Type 0
AreBinds [] = Unit {0}
AreBinds (e ∷ entries) = IsBind e.act × AreBinds entries

-- what plain evaluation gives of the present sources
abbrev pub evaluation : Frame → List Entry → List Content
evaluation X entries = eval (graph X entries) (sources X entries)

-- each variable before this one is as plain evaluation gives it
abbrev pub AreEvaluatedBelow : Frame → List Entry → ℕ → Type 0
AreEvaluatedBelow X entries many = (y : ℕ) → y < many → val X entries y ≡ content_at (evaluation X entries) y

-- where the variable is derived, it has taken in its inputs as they are
abbrev pub IsDone : Frame → List Entry → ℕ → Type 0
IsDone X entries y = IsDerived (graph X entries) y → IsClean X entries y

-- the list goes on by results of jobs alone
abbrev pub GoesOnByBinds : List Entry → List Entry → Type 0
GoesOnByBinds old new = (more : List Entry) × (new ≡ old ++ more) × AreBinds more

-- results of jobs were added, the last of them this one
pub record HasBound (e : Entry) (old new : List Entry) : Type 0 where
  pub between : List Entry
  pub new_is : new ≡ (old ++ between) ++ e ∷ []
  pub binds : AreBinds between

-- what the pass knows of its own entries, and that each entry is one that its caller may make
pub record KnowsOwn (p : Knows) : Type 0 where
  pub own : p.own ≡ made_by p.number p.seen
  pub allowed : All (λ e. (e.by ≡ e.by) × MayMake e.by e.act) p.seen

-- the pass after some turns in which its caller took in results alone: so did all others
pub record HasSettled (old new : Knows) : Type 0 where
  pub pass : new ≡ record old { seen = new.seen; own = new.own; misses = new.misses; looks = new.looks; told = new.told }
  pub seen : GoesOnByBinds old.seen new.seen
  pub own : GoesOnByBinds old.own new.own
  pub misses : old.misses ≤ new.misses
  pub looks : old.looks ≤ new.looks
  pub told : old.told ≤ new.told

-- all was settled, and no variable is too large; or this one is the first that is; or memory was wanting
abbrev pub Settles : {A : Type 0} → Option ℕ → Result A Settle → Type 0
Settles large (Ok done) = large ≡ None
Settles large (Err (settle.TooLarge x)) = large ≡ Some x
Settles large (Err settle.Memory) = Unit {0}

-- a variable that is told to be too large is the first that is
abbrev pub TellsFirst : {A : Type 0} → Option ℕ → Result A Settle → Type 0
TellsFirst large (Ok done) = Unit {0}
TellsFirst large (Err (settle.TooLarge x)) = large ≡ Some x
TellsFirst large (Err settle.Memory) = Unit {0}
