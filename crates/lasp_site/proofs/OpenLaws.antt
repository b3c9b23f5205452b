-- A call that opened a file did that part of a site's plan.
use Rattle.std.proofs.Common.{refl, sym, ap, subst, ◌∙◌}
use Rattle.std.specs.Prelude.{◌≡◌, ℕ, List, length, Result, Ok, Err, if◌then◌else◌, nat_lt, Bool, true, false}
use mathlib.Core.Logic.{inr}
use Rattle.model_graph.specs.Chain.{◌>>=◌, refusing}
use Rattle.model_program.specs.Follows.{View}
use Rattle.model_program.specs.Plan as program
use Rattle.model_program.specs.Plan.{file_limit}
use Rattle.model_program.specs.declared.refusal.Refusal.{Refusal}
use Rattle.model_program.specs.declared.refusal.Refusal.TheVariants.{TooLong}
use Rattle.model_program.specs.declared.failure.Failure.{Failure}
use Rattle.model_program.specs.declared.failure.Failure.TheVariants.{Refused, ReadFault, Memory}
use Rattle.model_program.proofs.PlanLaws.{seen-in}
use Rattle.model_site.specs.Follows.{Follows, Passes, Stops}
use Rattle.model_site.specs.Plan.{Plan, Says, checked, given, within, reading}
use Rattle.model_site.specs.declared.site_refusal.SiteRefusal.{SiteRefusal}
use Rattle.model_site.specs.declared.site_refusal.SiteRefusal.TheVariants.{Shared}
use Rattle.model_site.specs.declared.site_failure.SiteFailure.TheVariants as site
use Rattle.model_site.proofs.PlanLaws.{stops-fault, stops-memory, follows-says}
use Rattle.lasp_call.specs.Opens.{Opens}
use Rattle.lasp_site.specs.Failure.{as_site}

-- ---- what the plan goes on with

long-said : (f : ℕ) (bytes : List ℕ) (long : Bool) → (if long then Err (Shared (TooLong f)) else Ok bytes) ≡ refusing (λ e. Shared e) (if long then Err (TooLong f) else Ok bytes)
long-said f bytes true = refl
long-said f bytes false = refl

within-said : (f : ℕ) (bytes : List ℕ) → within f bytes ≡ refusing (λ e. Shared e) (program.within f bytes)
within-said f bytes = long-said f bytes (nat_lt file_limit (length bytes))

checked-ok : {B E : Type 0} (refuse : E → Refusal) (read : Result B E) (b : B) (next : B → Plan) → refusing refuse read ≡ Ok b → checked (λ e. Shared (refuse e)) read next ≡ next b
checked-ok refuse (Ok x) b next e = let same : x ≡ b = cc in ap next same
checked-ok refuse (Err x) b next e = absurd cc

checked-err : {B E : Type 0} (refuse : E → Refusal) (read : Result B E) (e : Refusal) (next : B → Plan) → refusing refuse read ≡ Err e → checked (λ x. Shared (refuse x)) read next ≡ Says (Err (Shared e))
checked-err refuse (Ok x) e next h = absurd cc
checked-err refuse (Err x) e next h = let same : refuse x ≡ e = cc in ap (λ (r : Refusal). Says (Err (Shared r))) same

reads-on : {B E : Type 0} (read : Result (List ℕ) Refusal) (refuse : E → Refusal) (reader : List ℕ → Result B E) (b : B) (next : B → Plan) → (read >>= (λ bytes. refusing refuse (reader bytes))) ≡ Ok b
    → given (refusing (λ e. Shared e) read) (λ bytes. checked (λ e. Shared (refuse e)) (reader bytes) next) ≡ next b
reads-on (Ok bytes) refuse reader b next e = checked-ok refuse (reader bytes) b next e
reads-on (Err x) refuse reader b next e = absurd cc

refuses : {B E : Type 0} (read : Result (List ℕ) Refusal) (refuse : E → Refusal) (reader : List ℕ → Result B E) (e : Refusal) (next : B → Plan) → (read >>= (λ bytes. refusing refuse (reader bytes))) ≡ Err e
    → given (refusing (λ x. Shared x) read) (λ bytes. checked (λ x. Shared (refuse x)) (reader bytes) next) ≡ Says (Err (Shared e))
refuses (Ok bytes) refuse reader e next h = checked-err refuse (reader bytes) e next h
refuses (Err x) refuse reader e next h = let same : x ≡ e = cc in ap (λ (r : Refusal). Says (Err (Shared r))) same

-- ---- the file was opened by a reader; bytes that are taken as they are have one that refuses none

pub passes-opens : {A B E : Type 0} (shown : A → B) (words : List (List ℕ)) (v : View) (f : ℕ) (refuse : E → Refusal) (reader : List ℕ → Result B E) (a : A)
    → Opens shown words v f (λ bytes. refusing refuse (reader bytes)) (Ok a) → Passes words v (λ (next : B → Plan). reading f (λ bytes. checked (λ e. Shared (refuse e)) (reader bytes) next)) (shown a)
unfolding Follows
passes-opens shown words v f refuse reader a (bytes, sees, is) = λ w part next r h.
    inr (
      bytes,
      seen-in v w words f bytes part sees,
      subst (λ (p : Plan). Follows words w p r)
          (sym (ap (λ (read : Result (List ℕ) SiteRefusal). given read (λ b. checked (λ e. Shared (refuse e)) (reader b) next)) (within-said f bytes) ∙ reads-on (program.within f bytes) refuse reader (shown a) next is)) h,
    )

pub stops-opens : {A B E : Type 0} (shown : A → B) (words : List (List ℕ)) (v : View) (f : ℕ) (refuse : E → Refusal) (reader : List ℕ → Result B E) (failure : Failure)
    → Opens shown words v f (λ bytes. refusing refuse (reader bytes)) (Err failure) → Stops words v (λ (next : B → Plan). reading f (λ bytes. checked (λ e. Shared (refuse e)) (reader bytes) next)) (as_site failure)
unfolding Follows
stops-opens shown words v f refuse reader (Refused e) (bytes, sees, is) = λ w part next.
    inr (
      bytes,
      seen-in v w words f bytes part sees,
      subst (λ (p : Plan). Follows words w p (Err (site.Refused (Shared e))))
          (sym (ap (λ (read : Result (List ℕ) SiteRefusal). given read (λ b. checked (λ x. Shared (refuse x)) (reader b) next)) (within-said f bytes) ∙ refuses (program.within f bytes) refuse reader e next is))
          (follows-says words w (Err (Shared e)) (Err (site.Refused (Shared e))) refl),
    )
stops-opens shown words v f refuse reader (ReadFault e) (same, named, rose) = λ w part next.
    subst (λ (n : ℕ). Follows words w (reading f (λ bytes. checked (λ x. Shared (refuse x)) (reader bytes) next)) (Err (site.ReadFault n))) (sym same)
    (stops-fault words v f named rose w part (λ bytes. checked (λ x. Shared (refuse x)) (reader bytes) next))
stops-opens shown words v f refuse reader Memory h = stops-memory words v (λ next. reading f (λ bytes. checked (λ x. Shared (refuse x)) (reader bytes) next))
