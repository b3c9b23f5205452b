-- How far the plan of a merge has come.
use Rattle.std.proofs.Common.{◌≡◌, ℕ, suc, ◌+◌, ◌-◌, ◌≤◌, List, Some, Option, Result, Ok, Err, refl, sym, ap, subst, ◌∙◌, arith}
use Rattle.model_graph.specs.Chain.{refusing}
use Rattle.model_graph.specs.Graph.{Decl}
use Rattle.model_world.specs.World.{Peer}
use Rattle.model_program.specs.Plan.{Plan, Says, exactly, reading}
use Rattle.model_program.specs.Follows.{View, Gives, Follows, IsPartOf, Passes, Stops, Performs}
use Rattle.model_program.specs.Merge.{file_at, file_joined, merging_file, merging_more, merge_answer}
use Rattle.model_program.specs.declared.refusal.Refusal.{Refusal}
use Rattle.model_program.specs.declared.failure.Failure.{Failure}
use Rattle.model_program.proofs.MergeLaws.{more-none, more-file}
use Rattle.model_program.proofs.PlanLaws.{performs-checked, part-of-part}
use Rattle.lasp_run.specs.Merge.{Leads, Ends}

-- ---- one file

refusing-itself : {A E : Type 0} (r : Result A E) → refusing (λ e. e) r ≡ r
refusing-itself (Ok x) = refl
refusing-itself (Err e) = refl

-- a file was read, and what is given is what its bytes give
pub performs-file : {A : Type 0} (shown : A → Peer) (words : List (List ℕ)) (v : View) (g : List Decl) (i : ℕ) (r : Option Peer) (bytes : List ℕ) (result : Result A Failure)
    → Passes words v (reading (file_at i)) bytes → Gives shown (file_joined g i r bytes) result → Performs shown words v (merging_file g i r) result
performs-file shown words v g i r bytes result passes gives =
    performs-checked shown words v (file_at i) bytes (λ e. e) (file_joined g i r) result passes (subst (λ (answer : Result Peer Refusal). Gives shown answer result) (sym (refusing-itself (file_joined g i r bytes))) gives)

-- ---- all files

next-file : (g : List Decl) (i more : ℕ) (r : Peer) → 1 ≤ more → merging_more g i more r ≡ merging_file g i (Some r) (λ next. merging_more g (i + 1) (more - 1) next)
next-file g i more r some =
    ap (λ (n : ℕ). merging_more g i n r) (let back : more ≡ suc (more - 1) = omega (arith, some) in back) ∙ more-file g i (more - 1) r

-- one file more was joined
pub leads-file : (words : List (List ℕ)) (u v w : View) (start : Plan) (g : List Decl) (i more left : ℕ) (r next : Peer) → IsPartOf u w → IsPartOf v w → 1 ≤ more → left ≡ more - 1
    → Leads words u start (merging_more g i more r) → Passes words v (merging_file g i (Some r)) next → Leads words w start (merging_more g (i + 1) left next)
leads-file words u v w start g i more left r next early late some is before passes whole part result h =
    before whole (part-of-part u w whole early part) result
    (subst (λ (p : Plan). Follows words whole p result) (sym (next-file g i more r some))
    (passes whole (part-of-part v w whole late part) (λ after. merging_more g (i + 1) (more - 1) after) result (subst (λ (n : ℕ). Follows words whole (merging_more g (i + 1) n next) result) is h)))

-- the next file ended the call
pub ends-file : (words : List (List ℕ)) (u v w : View) (start : Plan) (g : List Decl) (i more : ℕ) (r : Peer) (failure : Failure) → IsPartOf u w → IsPartOf v w → 1 ≤ more
    → Leads words u start (merging_more g i more r) → Stops words v (merging_file g i (Some r)) failure → Ends words w start failure
ends-file words u v w start g i more r failure early late some before stops whole part =
    before whole (part-of-part u w whole early part) (Err failure)
    (subst (λ (p : Plan). Follows words whole p (Err failure)) (sym (next-file g i more r some)) (stops whole (part-of-part v w whole late part) (λ after. merging_more g (i + 1) (more - 1) after)))

-- no file is left
pub leads-end : (words : List (List ℕ)) (v : View) (start : Plan) (g : List Decl) (i many left : ℕ) (r : Peer) → left ≡ 0 → i ≡ many → Leads words v start (merging_more g i left r) → Leads words v start (Says (exactly (merge_answer g many r)))
leads-end words v start g i many left r none is before w part result h =
    before w part result
    (subst (λ (p : Plan). Follows words w p result)
    (sym (ap (λ (n : ℕ). merging_more g i n r) none ∙ more-none g i r ∙ ap (λ (n : ℕ). Says (exactly (merge_answer g n r))) is)) h)
