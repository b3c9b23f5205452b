-- What a worker makes of its replicas. Each is seen by the ghost members of its type.
use Rattle.std.specs.Prelude.{◌≡◌, ℕ, ◌+◌, ◌<◌, ◌≤◌, Bool, true, false, if◌then◌else◌, List, ◌++◌, All, length, Option, None, Result, Ok, Err}
use Rattle.std.specs.List.{AllByRecursion, AllZip, sum_by}
use Rattle.model_functions.specs.Library.{Library}
use Rattle.model_journal.specs.Callers.{made_by}
use Rattle.model_journal.specs.Entry.{Act, Update, Deliver, Bind, Extend, Entry, Frame}
use Rattle.lasp_core.specs.Listed.{GoesOn}
use Rattle.lasp_replica.specs.Jobs.{greatest_count, counted_up}
use Rattle.lasp_workers.specs.declared.replicas.Replica.{Replica}
use Rattle.lasp_workers.specs.Done.{IsDone}
use Rattle.lasp_workers.specs.Replicas.{pair_of}

-- the act takes in the result of a job
abbrev pub IsBind : Act → Type 0
IsBind (Update x op) = ⊥
IsBind (Deliver i m) = ⊥
IsBind (Bind y n) = Unit {0}
IsBind (Extend d) = ⊥

-- the list goes on by results of jobs alone
abbrev pub GoesOnByResults : List Entry → List Entry → Type 0
GoesOnByResults old new = (more : List Entry) × (new ≡ old ++ more) × AllByRecursion (λ e. IsBind e.act) more

-- ---- one replica

module _ {J : Type 0} (caller : J → ℕ) (list : J → List Entry) where
  -- the entries that its caller made
  abbrev pub own : J → List Entry
  own j = made_by (caller j) (list j)

module _ {J P : Type 0} (place : J → P) (frame : J → Frame) (caller : J → ℕ) (list : J → List Entry) where
  -- it stands where it stood, its list goes on, and its caller added results of jobs alone
  pub record HasGrown (old new : J) : Type 0 where
    pub place_is : place new ≡ place old
    pub frame_is : frame new ≡ frame old
    pub caller_is : caller new ≡ caller old
    pub list_on : GoesOn (list old) (list new)
    pub results : GoesOnByResults (own caller list old) (own caller list new)

  -- the same of a node's replica
  pub record IsLater (old new : ℕ × J) : Type 0 where
    pub node : new.0 ≡ old.0
    pub jobs : HasGrown old.1 new.1

module _ {J : Type 0} (frame : J → Frame) (list : J → List Entry) (lib : Library) where
  -- nothing is left to do at it
  abbrev pub IsDoneAt : ℕ × J → Type 0
  IsDoneAt p = IsDone lib (frame p.1) (list p.1)

  -- where the worker left it, nothing is
  abbrev pub IsLeftDone : Replica J → Type 0
  IsLeftDone r = r.is_left ≡ true → IsDoneAt (pair_of r)

-- ---- all replicas together

-- how many entries their callers made
abbrev pub own_entries : {J : Type 0} → (J → ℕ) → (J → List Entry) → List (ℕ × J) → ℕ
own_entries caller list pairs = sum_by (λ p. length (own caller list p.1)) pairs

-- how many entries their lists have
abbrev pub all_entries : {J : Type 0} → (J → List Entry) → List (ℕ × J) → ℕ
all_entries list pairs = sum_by (λ p. length (list p.1)) pairs

-- how many changed rows their jobs had
abbrev pub all_owed : {J : Type 0} → (J → ℕ) → List (ℕ × J) → ℕ
all_owed rows_owed pairs = sum_by (λ p. rows_owed p.1) pairs

-- ---- what the parts of a worker do

module _ {J P : Type 0} (place : J → P) (frame : J → Frame) (caller : J → ℕ) (list : J → List Entry) (looks : J → Option ℕ) (rows_owed : J → ℕ) where
  -- so many results of its caller were added; to a list that nobody else adds to, no more than these
  pub record HasAdded (n : ℕ) (old new : J) : Type 0 where
    pub grown : HasGrown place frame caller list old new
    pub own_more : length (own caller list new) ≡ length (own caller list old) + n
    pub alone : looks old ≡ None → (looks new ≡ None) × (length (list new) ≡ length (list old) + n)

  -- a job ended, which was counted when it was taken
  pub record HasEnded (n : ℕ) (old new : J) : Type 0 where
    pub added : HasAdded n old new
    pub owed : rows_owed new ≡ rows_owed old

  -- it was asked for a job, while so many calls of stored functions were counted as lie between t and u
  pub record HasAsked (n t u : ℕ) (old new : ℕ × J) : Type 0 where
    pub node : new.0 ≡ old.0
    pub added : HasAdded n old.1 new.1
    pub few : rows_owed new.1 < greatest_count → (rows_owed old.1 ≤ rows_owed new.1) × (u + rows_owed old.1 ≤ t + rows_owed new.1)

  -- the same of all replicas together
  pub record HaveWorked (n t u : ℕ) (old new : List (ℕ × J)) : Type 0 where
    pub later : AllZip (IsLater place frame caller list) old new
    pub own_more : own_entries caller list new ≡ own_entries caller list old + n
    pub alone : All (λ p. looks p.1 ≡ None) old → All (λ p. looks p.1 ≡ None) new × (all_entries list new ≡ all_entries list old + n)
    pub few : All (λ p. rows_owed p.1 < greatest_count) new → All (λ p. rows_owed p.1 < greatest_count) old × (u + all_owed rows_owed old ≤ t + all_owed rows_owed new)

-- what was done is of one job where the answer is true, and of none where it is false or memory was wanting
abbrev pub Counts : {E : Type 0} → Result Bool E → (ℕ → Type 0) → Type 0
Counts (Ok finished) P = P (if finished then 1 else 0)
Counts (Err e) P = P 0
