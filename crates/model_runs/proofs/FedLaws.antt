-- The calls are caller 0's, and none is a bind.
use Rattle.std.proofs.Common.{◌≡◌, ℕ, ◌+◌, Bool, true, false, cond, if◌then◌else◌, ◌==◌, List, [], ◌∷◌, ◌++◌, not, filter, Result, Ok, Err, refl, ap, ◌∙◌}
use Rattle.std.proofs.lemmas.List.Elements.{filter-append}
use Rattle.model_world.specs.Command.{Command}
use Rattle.model_world.specs.World as world
use Rattle.model_world.specs.World.{Run, acts, act, step}
use Rattle.model_world.specs.declared.stop.Stop.{Stop}
use Rattle.model_journal.specs.Entry.{Entry}
use Rattle.model_journal.specs.Callers.{made_by}
use Rattle.model_runs.specs.Calls.{is_bind, unbound, call_of, when_done, calls_of_acts, calls}

-- a test that is true of every entry that is fed keeps all calls
module _ (test : Entry → Bool) (one : (run : Run) (p : ℕ) (a : world.Act) → filter test (call_of run p a) ≡ call_of run p a) where
  keeps-acts : (c : ℕ) (run : Run) (p : ℕ) (many : List world.Act) → filter test (calls_of_acts c run p many) ≡ calls_of_acts c run p many
  keeps-acts c run p [] = refl
  keeps-acts c run p (a ∷ rest) =
      filter-append test (call_of run p a) (when_done (act c run a) (λ next. calls_of_acts c next p rest))
      ∙ (λ i. one run p a i ++ later (λ next. keeps-acts c next p rest) (act c run a) i) where
        later : ((next : Run) → filter test (calls_of_acts c next p rest) ≡ calls_of_acts c next p rest) → (r : Result Run Stop) → filter test (when_done r (λ next. calls_of_acts c next p rest)) ≡ when_done r (λ next. calls_of_acts c next p rest)
        later same (Ok next) = same next
        later same (Err stop) = refl

  keeps-calls : (c : ℕ) (run : Run) (p : ℕ) (commands : List Command) → filter test (calls c run p commands) ≡ calls c run p commands
  unfolding calls
  keeps-calls c run p [] = refl
  keeps-calls c run p (k ∷ rest) =
      filter-append test (calls_of_acts c run p (acts run k)) (when_done (step c run k) (λ next. calls (c + 1) next p rest))
      ∙ (λ i. keeps-acts c run p (acts run k) i ++ later (λ next. keeps-calls (c + 1) next p rest) (step c run k) i) where
        later : ((next : Run) → filter test (calls (c + 1) next p rest) ≡ calls (c + 1) next p rest) → (r : Result Run Stop) → filter test (when_done r (λ next. calls (c + 1) next p rest)) ≡ when_done r (λ next. calls (c + 1) next p rest)
        later same (Ok next) = same next
        later same (Err stop) = refl

one-where : (test : Entry → Bool) (e : Entry) → test e ≡ true → (b : Bool) → filter test (if b then e ∷ [] else []) ≡ (if b then e ∷ [] else [])
one-where test e is true = ap (λ (c : Bool). cond c (e ∷ []) []) is
one-where test e is false = refl

fed-one : (run : Run) (p : ℕ) (a : world.Act) → made_by 0 (call_of run p a) ≡ call_of run p a
fed-one run p (world.Update q x op) = one-where (λ e. e.by == 0) _ refl (q == p)
fed-one run p (world.Take q i) = one-where (λ e. e.by == 0) _ refl (q == p)
fed-one run p (world.Extend d) = refl
fed-one run p (world.Keep q x) = refl
fed-one run p (world.Post q) = refl
fed-one run p world.Point = refl
fed-one run p (world.Show q x) = refl
fed-one run p (world.Open q x until) = refl
fed-one run p (world.Reach q x until) = refl

unbound-one : (run : Run) (p : ℕ) (a : world.Act) → unbound (call_of run p a) ≡ call_of run p a
unbound-one run p (world.Update q x op) = one-where (λ e. not (is_bind e.act)) _ refl (q == p)
unbound-one run p (world.Take q i) = one-where (λ e. not (is_bind e.act)) _ refl (q == p)
unbound-one run p (world.Extend d) = refl
unbound-one run p (world.Keep q x) = refl
unbound-one run p (world.Post q) = refl
unbound-one run p world.Point = refl
unbound-one run p (world.Show q x) = refl
unbound-one run p (world.Open q x until) = refl
unbound-one run p (world.Reach q x until) = refl

pub calls-fed : (c : ℕ) (run : Run) (p : ℕ) (commands : List Command) → made_by 0 (calls c run p commands) ≡ calls c run p commands
calls-fed c run p commands = keeps-calls (λ e. e.by == 0) fed-one c run p commands

pub calls-unbound : (c : ℕ) (run : Run) (p : ℕ) (commands : List Command) → unbound (calls c run p commands) ≡ calls c run p commands
calls-unbound c run p commands = keeps-calls (λ e. not (is_bind e.act)) unbound-one c run p commands

pub ruleset feeds = (calls-fed, calls-unbound)

-- what is no result in one list and in another behind it
pub unbound-append : (h k : List Entry) → unbound (h ++ k) ≡ unbound h ++ unbound k
unbound-append h k = filter-append (λ (e : Entry). not (is_bind e.act)) h k
