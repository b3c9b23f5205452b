-- Looking at a script's commands one after the other.
use Rattle.std.proofs.Common.{◌≡◌, ℕ, ◌+◌, ◌<◌, ◌≤◌, Bool, true, false, nat_lt, if◌then◌else◌, List, length, drop, Option, Some, None, Result, Ok, Err, refl, sym, ap, subst, ◌∙◌}
use Rattle.std.specs.Prelude.{slice_get, is_some}
use Rattle.std.proofs.lemmas.Bool.{lt-ltb, ltb-true}
use Rattle.std.proofs.lemmas.List.{drop_all}
use Rattle.model_values.proofs.ListLaws.{drop-at}
use Rattle.model_world.specs.Command.{Command, Script}
use Rattle.model_program.specs.Follows.{View}
use Rattle.model_site.specs.Follows.{Gives, Follows}
use Rattle.model_site.specs.Plan.{Plan, given}
use Rattle.model_site.specs.Program.{local_refused, is_for}
use Rattle.model_site.specs.Site.{own, first_other, AreOwn}
use Rattle.model_site.specs.declared.site_refusal.SiteRefusal.{SiteRefusal}
use Rattle.model_site.specs.declared.site_refusal.SiteRefusal.TheVariants.{NotLocal}
use Rattle.model_site.specs.declared.site_failure.SiteFailure.{SiteFailure}
use Rattle.model_site.specs.declared.site_failure.SiteFailure.TheVariants.{Refused, ReadFault, Memory}
use Rattle.model_site.proofs.BackLaws.{with_node}
use Rattle.model_site.proofs.PlanLaws.{follows-says, follows-memory}
use Rattle.model_site.proofs.SiteLaws.{none-other}

pub other-here : (p number : ℕ) (ks : List Command) (i : ℕ) (k : Command) → slice_get ks i ≡ Some k → is_some (own p k) ≡ false → first_other p number (drop i ks) ≡ Some number
unfolding first_other
other-here p number ks i k at other = ap (first_other p number) (drop-at ks i k at) ∙ ap (λ (b : Bool). if b then first_other p (number + 1) (drop (i + 1) ks) else Some number) other

pub other-next : (p number : ℕ) (ks : List Command) (i : ℕ) (k : Command) → slice_get ks i ≡ Some k → is_some (own p k) ≡ true → first_other p number (drop i ks) ≡ first_other p (number + 1) (drop (i + 1) ks)
unfolding first_other
other-next p number ks i k at known = ap (first_other p number) (drop-at ks i k at) ∙ ap (λ (b : Bool). if b then first_other p (number + 1) (drop (i + 1) ks) else Some number) known

pub other-end : (p number : ℕ) (ks : List Command) (i : ℕ) → length ks ≤ i → first_other p number (drop i ks) ≡ None
unfolding first_other
other-end p number ks i past = ap (first_other p number) (drop_all i ks past)

-- ---- what is answered of the script

pub for-other : (p number : ℕ) (s : Script) → p < s.nodes → first_other p 1 s.commands ≡ Some number → is_for p s ≡ Err (NotLocal number)
for-other p number s there e = ap (with_node p s) (lt-ltb p s.nodes there) ∙ ap local_refused e

pub for-all : (p : ℕ) (s : Script) → p < s.nodes → first_other p 1 s.commands ≡ None → is_for p s ≡ Ok tt
for-all p s there e = ap (with_node p s) (lt-ltb p s.nodes there) ∙ ap local_refused e

-- ---- from what was answered of it

with-node : (p : ℕ) (s : Script) (b : Bool) (u : Unit {0}) → with_node p s b ≡ Ok u → (b ≡ true) × (first_other p 1 s.commands ≡ None)
with-node p s true u e = (refl, none (first_other p 1 s.commands) e) where
  none : (o : Option ℕ) → local_refused o ≡ Ok u → o ≡ None
  none None h = refl
  none (Some number) h = absurd cc
with-node p s false u e = absurd cc

pub script-node : (p : ℕ) (s : Script) (u : Unit {0}) → is_for p s ≡ Ok u → p < s.nodes
script-node p s u e = ltb-true p s.nodes (with-node p s (nat_lt p s.nodes) u e).0

pub script-own : (p : ℕ) (s : Script) (u : Unit {0}) → is_for p s ≡ Ok u → AreOwn p s.commands
script-own p s u e = none-other p 1 s.commands (with-node p s (nat_lt p s.nodes) u e).1

pub follows-given : (words : List (List ℕ)) (v : View) (answer : Result (Unit {0}) SiteRefusal) (next : Plan) (r : Result (List ℕ) SiteFailure) (u : Unit {0}) → answer ≡ Ok u → Follows words v next r → Follows words v (given answer (λ x. next)) r
follows-given words v answer next r u e h = subst (λ (a : Result (Unit {0}) SiteRefusal). Follows words v (given a (λ x. next)) r) (sym e) h

pub follows-refused : (words : List (List ℕ)) (v : View) (answer : Result (Unit {0}) SiteRefusal) (next : Plan) (failure : SiteFailure) → Gives {A = Unit {0}} (λ u. u) answer (Err failure) → Follows words v (given answer (λ x. next)) (Err failure)
follows-refused words v answer next (Refused e) h = subst (λ (a : Result (Unit {0}) SiteRefusal). Follows words v (given a (λ x. next)) (Err (Refused e))) (sym h) (follows-says words v (Err e) (Err (Refused e)) refl)
follows-refused words v answer next (ReadFault f) h = absurd h
follows-refused words v answer next Memory h = follows-memory words v (given answer (λ x. next))
