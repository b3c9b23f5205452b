-- A call that opened a file did that part of its plan.
use Rattle.std.proofs.Common.{sym, ap, subst}
use Rattle.std.specs.Prelude.{◌≡◌, ℕ, List, Result, Ok, Err}
use mathlib.Core.Logic.{inr}
use Rattle.model_graph.specs.Chain.{◌>>=◌, refusing}
use Rattle.model_program.specs.Plan.{Plan, Says, checked, within, reading}
use Rattle.model_program.specs.Follows.{View, Follows, Performs}
use Rattle.model_program.specs.declared.refusal.Refusal.{Refusal}
use Rattle.model_program.specs.declared.failure.Failure.{Failure}
use Rattle.model_program.specs.declared.failure.Failure.TheVariants.{Refused, ReadFault, Memory}
use Rattle.model_program.proofs.PlanLaws.{stops-fault, seen-in, checked-ok, checked-err, says-err}
use Rattle.lasp_call.specs.Opens.{Opens}
use Rattle.lasp_run.proofs.PartLaws.{stops-memory}

-- ---- what the plan goes on with

reads-on : {B E : Type 0} (read : Result (List ℕ) Refusal) (refuse : E → Refusal) (reader : List ℕ → Result B E) (b : B) (next : B → Plan) → (read >>= (λ bytes. refusing refuse (reader bytes))) ≡ Ok b
    → checked (λ e. e) read (λ bytes. checked refuse (reader bytes) next) ≡ next b
reads-on (Ok bytes) refuse reader b next e = checked-ok refuse (reader bytes) b next e
reads-on (Err x) refuse reader b next e = absurd cc

refuses : {B E : Type 0} (read : Result (List ℕ) Refusal) (refuse : E → Refusal) (reader : List ℕ → Result B E) (e : Refusal) (next : B → Plan) → (read >>= (λ bytes. refusing refuse (reader bytes))) ≡ Err e
    → checked (λ x. x) read (λ bytes. checked refuse (reader bytes) next) ≡ Says (Err e)
refuses (Ok bytes) refuse reader e next h = checked-err refuse (reader bytes) e next h
refuses (Err x) refuse reader e next h = let same : x ≡ e = cc in ap (λ (r : Refusal). Says (Err r)) same

-- (bytes that are taken as they are have a reader that refuses none)
pub performs-opens : {A B E : Type 0} (shown : A → B) (words : List (List ℕ)) (v : View) (f : ℕ) (refuse : E → Refusal) (reader : List ℕ → Result B E) (result : Result A Failure)
    → Opens shown words v f (λ bytes. refusing refuse (reader bytes)) result → Performs shown words v (λ (next : B → Plan). reading f (λ bytes. checked refuse (reader bytes) next)) result
unfolding Follows
performs-opens shown words v f refuse reader (Ok a) (bytes, sees, is) = λ w part next r h.
    inr (bytes, seen-in v w words f bytes part sees, subst (λ (p : Plan). Follows words w p r) (sym (reads-on (within f bytes) refuse reader (shown a) next is)) h)
performs-opens shown words v f refuse reader (Err (Refused e)) (bytes, sees, is) = λ w part next.
    inr (bytes, seen-in v w words f bytes part sees, subst (λ (p : Plan). Follows words w p (Err (Refused e))) (sym (refuses (within f bytes) refuse reader e next is)) (says-err words w e))
performs-opens shown words v f refuse reader (Err (ReadFault e)) (same, named, rose) = λ w part next.
    subst (λ (n : ℕ). Follows words w (reading f (λ bytes. checked refuse (reader bytes) next)) (Err (ReadFault n))) (sym same) (stops-fault words v f named rose w part (λ bytes. checked refuse (reader bytes) next))
performs-opens shown words v f refuse reader (Err Memory) h = stops-memory words v (λ next. reading f (λ bytes. checked refuse (reader bytes) next))
