-- How far the plan of a site's files has come.
use Rattle.std.proofs.Common.{◌≡◌, ℕ, zero, suc, ◌+◌, ◌-◌, ◌≤◌, List, Result, Ok, Err, refl, sym, ap, subst, ◌∙◌, arith}
use Rattle.std.specs.declared.vec.Vec.{Vec}
use Rattle.model_graph.specs.Graph.{Decl}
use Rattle.model_world.specs.Command.{Script}
use Rattle.model_world.specs.World.{Peer}
use Rattle.model_program.specs.Follows.{View, IsPartOf}
use Rattle.model_site.specs.Follows.{Gives, Follows, Passes, Stops}
use Rattle.model_site.specs.Plan.{Plan, Says}
use Rattle.model_site.specs.Program.{filing, filing_more, site_answer}
use Rattle.model_site.specs.declared.site_refusal.SiteRefusal.{SiteRefusal}
use Rattle.model_site.specs.declared.site_failure.SiteFailure.{SiteFailure}
use Rattle.model_site.specs.declared.site_failure.SiteFailure.TheVariants.{Refused, ReadFault, Memory}
use Rattle.model_program.proofs.PlanLaws.{part-of-part}
use Rattle.lasp_site.specs.Site.{Leads, EndsIn}
use Rattle.lasp_site.specs.Failure.{answered}

-- a result gives the answer exactly where its bytes do
pub gives-answered : {A : Type 0} (answer : Result (List ℕ) SiteRefusal) (r : Result (Vec ℕ A) SiteFailure) → Gives (λ (bytes : Vec ℕ A). bytes.items) answer r → Gives (λ (t : List ℕ). t) answer (answered r)
gives-answered answer (Ok bytes) h = h
gives-answered answer (Err (Refused e)) h = h
gives-answered answer (Err (ReadFault f)) h = h
gives-answered answer (Err Memory) h = h

file-none : (p : ℕ) (g : List Decl) (s : Script) (f : ℕ) (r : Peer) → filing_more p g s f zero r ≡ Says (site_answer p g s r)
unfolding filing_more
file-none p g s f r = refl

file-more : (p : ℕ) (g : List Decl) (s : Script) (f left : ℕ) (r : Peer) → filing_more p g s f (suc left) r ≡ filing p g f r (λ next. filing_more p g s (f + 1) left next)
unfolding filing_more
file-more p g s f left r = refl

file-next : (p : ℕ) (g : List Decl) (s : Script) (f left : ℕ) (r : Peer) → 1 ≤ left → filing_more p g s f left r ≡ filing p g f r (λ next. filing_more p g s (f + 1) (left - 1) next)
file-next p g s f left r some = ap (λ (n : ℕ). filing_more p g s f n r) (let back : left ≡ suc (left - 1) = omega (arith, some) in back) ∙ file-more p g s f (left - 1) r

-- one file more was taken in
pub leads-file : (words : List (List ℕ)) (u v w : View) (start : Plan) (p : ℕ) (g : List Decl) (s : Script) (f many left : ℕ) (r next : Peer) → IsPartOf u w → IsPartOf v w → 1 ≤ many → left ≡ many - 1
    → Leads words u start (filing_more p g s f many r) → Passes words v (filing p g f r) next → Leads words w start (filing_more p g s (f + 1) left next)
leads-file words u v w start p g s f many left r next early late some is before passes whole part result h =
    before whole (part-of-part u w whole early part) result
    (subst (λ (q : Plan). Follows words whole q result) (sym (file-next p g s f many r some))
    (passes whole (part-of-part v w whole late part) (λ after. filing_more p g s (f + 1) (many - 1) after) result (subst (λ (n : ℕ). Follows words whole (filing_more p g s (f + 1) n next) result) is h)))

-- the next file ended the call
pub ends-file : (words : List (List ℕ)) (u v w : View) (start : Plan) (p : ℕ) (g : List Decl) (s : Script) (f many : ℕ) (r : Peer) (failure : SiteFailure) → IsPartOf u w → IsPartOf v w → 1 ≤ many
    → Leads words u start (filing_more p g s f many r) → Stops words v (filing p g f r) failure → EndsIn words w start failure
ends-file words u v w start p g s f many r failure early late some before stops whole part =
    before whole (part-of-part u w whole early part) (Err failure)
    (subst (λ (q : Plan). Follows words whole q (Err failure)) (sym (file-next p g s f many r some)) (stops whole (part-of-part v w whole late part) (λ after. filing_more p g s (f + 1) (many - 1) after)))

-- no file is left
pub leads-end : (words : List (List ℕ)) (v : View) (start : Plan) (p : ℕ) (g : List Decl) (s : Script) (f left : ℕ) (r : Peer) → left ≡ 0 → Leads words v start (filing_more p g s f left r) → Leads words v start (Says (site_answer p g s r))
leads-end words v start p g s f left r none before w part result h =
    before w part result (subst (λ (q : Plan). Follows words w q result) (sym (ap (λ (n : ℕ). filing_more p g s f n r) none ∙ file-none p g s f r)) h)
