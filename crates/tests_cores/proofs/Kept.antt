-- Jobs and reads that are kept while a core's journal goes on.
use Rattle.std.proofs.Common.{◌≡◌, ◌++◌, ◌∷◌, [], ℕ, suc, zero, ◌<◌, Bool, true, false, if◌then◌else◌, List, length, take, sym, subst, arith}
use Rattle.std.specs.List.{AllByRecursion, remove, slice_index_or}
use Rattle.model_values.proofs.ListLaws.{each-weaker, each-push}
use Rattle.model_graph.specs.Lawful.{IsDerived}
use Rattle.model_journal.specs.Entry.{Entry, Frame}
use Rattle.model_journal.specs.Journal.{graph}
use Rattle.model_core.specs.Core.{Core, Read}
use Rattle.lasp_state.specs.declared.state.State.{State}
use Rattle.lasp_replica.specs.declared.job.Job.{Job}
use Rattle.lasp_core.specs.Core.{IsOpen}
use Rattle.lasp_core.specs.Listed.{GoesOn}
use Rattle.lasp_replica.specs.Jobs.{IsJobOf, IsResultOf}
use Rattle.tests_cores.specs.Kept.{IsWork, AreKept}

-- what jobs are of later entries, as the law of the cores says it
abbrev pub JobsStay : Type 0
JobsStay = (X : Frame) (entries more : List Entry) (job : Job) → IsJobOf X entries job → IsJobOf X (entries ++ more) job

-- the same of results
abbrev pub ResultsStay : Type 0
ResultsStay = (X : Frame) (entries more : List Entry) (job : Job) (s : State) → IsDerived (graph X (take job.n entries)) job.var → IsResultOf X entries job s → IsResultOf X (entries ++ more) job s

-- the same of reads
abbrev pub ReadsStay : Type 0
ReadsStay = (X : Frame) (entries more : List Entry) (r : Read) → IsOpen X entries r → IsOpen X (entries ++ more) r

-- ---- lists of which something holds

-- a list to which an element was added, where there was room
all-pushed : {A : Type 0} (P : A → Type 0) (xs new : List A) (x : A) (b : Bool) → new ≡ (if b then xs ++ x ∷ [] else xs) → AllByRecursion P xs → P x → AllByRecursion P new
all-pushed P xs new x true e all is = subst (AllByRecursion P) (sym e) (each-push P xs x all is)
all-pushed P xs new x false e all is = subst (AllByRecursion P) (sym e) all

all-remove : {A : Type 0} (P : A → Type 0) (xs : List A) (i : ℕ) → AllByRecursion P xs → AllByRecursion P (remove xs i)
all-remove P [] zero all = tt
all-remove P [] (suc i) all = tt
all-remove P (x ∷ xs) zero all = all.1
all-remove P (x ∷ xs) (suc i) all = (all.0, all-remove P xs i all.1)

all-at : {A : Type 0} (P : A → Type 0) (xs : List A) (i : ℕ) (d : A) → i < length xs → AllByRecursion P xs → P (slice_index_or xs i d)
all-at P [] i d low all = absurd (omega (arith, low))
all-at P (x ∷ xs) zero d low all = all.0
all-at P (x ∷ xs) (suc i) d low all = all-at P xs i d (omega (arith, low)) all.1

-- ---- what is kept of a core

module _ {W R : Type 0} (job : W → Job) (state : W → State) (read : R → Read) where
  abbrev IsWorkAt : Core → W → Type 0
  IsWorkAt c w = IsWork c.frame c.entries (job w) (state w)

  abbrev IsOpenAt : Core → R → Type 0
  IsOpenAt c r = IsOpen c.frame c.entries (read r)

  -- a core whose journal went on
  pub kept-next : JobsStay → ResultsStay → ReadsStay → (a b : Core) (ws : List W) (rs : List R) → b.frame ≡ a.frame → GoesOn a.entries b.entries → AreKept job state read a ws rs → AreKept job state read b ws rs
  kept-next jobs results reads a b ws rs frame on kept = record {
    works_are = each-weaker (IsWorkAt a) (IsWorkAt b) (λ w is. record {
      job_is = subst (λ (X : Frame). IsJobOf X b.entries (job w)) (sym frame)
          (subst (λ (h : List Entry). IsJobOf a.frame h (job w)) (sym on.1) (jobs a.frame a.entries on.0 (job w) is.job_is));
      result_is = subst (λ (X : Frame). IsResultOf X b.entries (job w) (state w)) (sym frame)
          (subst (λ (h : List Entry). IsResultOf a.frame h (job w) (state w)) (sym on.1) (results a.frame a.entries on.0 (job w) (state w) is.job_is.derived is.result_is));
    }) ws kept.works_are;
    reads_are = each-weaker (IsOpenAt a) (IsOpenAt b) (λ r is. subst (λ (X : Frame). IsOpen X b.entries (read r)) (sym frame)
        (subst (λ (h : List Entry). IsOpen a.frame h (read r)) (sym on.1) (reads a.frame a.entries on.0 (read r) is))) rs kept.reads_are;
  }

  -- a core with the same entries
  pub kept-same : (a b : Core) (ws : List W) (rs : List R) → b.frame ≡ a.frame → b.entries ≡ a.entries → AreKept job state read a ws rs → AreKept job state read b ws rs
  kept-same a b ws rs frame entries kept = record {
    works_are = each-weaker (IsWorkAt a) (IsWorkAt b) (λ w is. subst (λ (X : Frame). IsWork X b.entries (job w) (state w)) (sym frame) (subst (λ (h : List Entry). IsWork a.frame h (job w) (state w)) (sym entries) is)) ws kept.works_are;
    reads_are = each-weaker (IsOpenAt a) (IsOpenAt b) (λ r is. subst (λ (X : Frame). IsOpen X b.entries (read r)) (sym frame) (subst (λ (h : List Entry). IsOpen a.frame h (read r)) (sym entries) is)) rs kept.reads_are;
  }

  pub kept-push : (c : Core) (ws new : List W) (rs : List R) (w : W) (b : Bool) → new ≡ (if b then ws ++ w ∷ [] else ws) → AreKept job state read c ws rs → IsWork c.frame c.entries (job w) (state w) → AreKept job state read c new rs
  kept-push c ws new rs w b e kept is = record { works_are = all-pushed (IsWorkAt c) ws new w b e kept.works_are is; reads_are = kept.reads_are }

  pub kept-open : (c : Core) (ws : List W) (rs new : List R) (r : R) (b : Bool) → new ≡ (if b then rs ++ r ∷ [] else rs) → AreKept job state read c ws rs → IsOpen c.frame c.entries (read r) → AreKept job state read c ws new
  kept-open c ws rs new r b e kept is = record { works_are = kept.works_are; reads_are = all-pushed (IsOpenAt c) rs new r b e kept.reads_are is }

  -- what is left where one was taken out, and what that one is
  pub kept-remove : (c : Core) (ws new : List W) (rs : List R) (i : ℕ) → new ≡ remove ws i → AreKept job state read c ws rs → AreKept job state read c new rs
  kept-remove c ws new rs i e kept = record { works_are = subst (AllByRecursion (IsWorkAt c)) (sym e) (all-remove (IsWorkAt c) ws i kept.works_are); reads_are = kept.reads_are }

  pub work-at : (c : Core) (ws : List W) (rs : List R) (i : ℕ) (w : W) → i < length ws → w ≡ slice_index_or ws i w → AreKept job state read c ws rs → IsWork c.frame c.entries (job w) (state w)
  work-at c ws rs i w low e kept = subst (IsWorkAt c) (sym e) (all-at (IsWorkAt c) ws i w low kept.works_are)
