-- Parts of a plan, one after the other, and results as texts.
use Rattle.std.proofs.Common.{ap, ◌∙◌}
use Rattle.std.specs.Prelude.{◌≡◌, ℕ, List, Result, Ok, Err}
use Rattle.std.specs.declared.vec.Vec.{Vec}
use Rattle.model_graph.specs.Chain.{◌>>=◌, refusing}
use Rattle.model_graph.specs.Graph.{Decl}
use Rattle.model_world.specs.Command.{Script}
use Rattle.model_world.specs.World.{Run, ended}
use Rattle.model_world.specs.declared.stop.Stop.{Stop}
use Rattle.model_scripts.specs.Progress.{grown}
use Rattle.model_program.specs.Plan.{Plan, Says, exactly}
use Rattle.model_program.specs.Follows.{View, Gives, Follows, IsPartOf, Part, Passes, Stops}
use Rattle.model_program.specs.Program.{stopped, run_answer}
use Rattle.model_program.specs.declared.refusal.Refusal.{Refusal}
use Rattle.model_program.specs.declared.failure.Failure.{Failure}
use Rattle.model_program.specs.declared.failure.Failure.TheVariants.{Refused, ReadFault, Memory}
use Rattle.model_program.proofs.PlanLaws.{part-itself, follows-memory, follows-says, part-of-part}
use Rattle.lasp_call.specs.Words.{answered}
use Rattle.lasp_run.specs.Run.{IsStop}

-- a result gives the answer exactly where its text does
pub gives-answered : {A : Type 0} (answer : Result (List ℕ) Refusal) (r : Result (Vec ℕ A) Failure) → Gives (λ (text : Vec ℕ A). text.items) answer r → Gives (λ (t : List ℕ). t) answer (answered r)
gives-answered answer (Ok text) h = h
gives-answered answer (Err (Refused e)) h = h
gives-answered answer (Err (ReadFault f)) h = h
gives-answered answer (Err Memory) h = h

-- ---- one part after the other

-- the first part was done by one call and the second by a later one, both within a third
pub passes-then : {B C : Type 0} (words : List (List ℕ)) (u v w : View) (first : Part B) (second : B → Part C) (b : B) (c : C) → IsPartOf u w → IsPartOf v w
    → Passes words u first b → Passes words v (second b) c → Passes words w (λ (next : C → Plan). first (λ x. second x next)) c
passes-then words u v w first second b c early late h k whole part next r rest =
    h whole (part-of-part u w whole early part) (λ x. second x next) r (k whole (part-of-part v w whole late part) next r rest)

pub stops-then : {B C : Type 0} (words : List (List ℕ)) (u v w : View) (first : Part B) (second : B → Part C) (b : B) (failure : Failure) → IsPartOf u w → IsPartOf v w
    → Passes words u first b → Stops words v (second b) failure → Stops words w (λ (next : C → Plan). first (λ x. second x next)) failure
stops-then words u v w first second b failure early late h k whole part next =
    h whole (part-of-part u w whole early part) (λ x. second x next) (Err failure) (k whole (part-of-part v w whole late part) next)

-- the first part ended the call
pub stops-first : {B C : Type 0} (words : List (List ℕ)) (v : View) (first : Part B) (second : B → Part C) (failure : Failure)
    → Stops words v first failure → Stops words v (λ (next : C → Plan). first (λ x. second x next)) failure
stops-first words v first second failure h whole part next = h whole part (λ x. second x next)

-- memory may be wanting in any part
pub stops-memory : {B : Type 0} (words : List (List ℕ)) (v : View) (part : Part B) → Stops words v part Memory
stops-memory words v part w within next = follows-memory words w (part next)

-- a call did a part, and gave what is answered after it
pub follows-part : {B A : Type 0} (words : List (List ℕ)) (v : View) (part : Part B) (b : B) (answer : B → Result (List ℕ) Refusal) (r : Result (Vec ℕ A) Failure)
    → Passes words v part b → Gives (λ (text : Vec ℕ A). text.items) (answer b) r → Follows words v (part (λ x. Says (exactly (answer x)))) (answered r)
follows-part words v part b answer r h gives =
    h v (part-itself v) (λ x. Says (exactly (answer x))) (answered r) (follows-says words v (answer b) (answered r) (gives-answered (answer b) r gives))

pub follows-stop : {B : Type 0} (words : List (List ℕ)) (v : View) (part : Part B) (answer : B → Result (List ℕ) Refusal) (failure : Failure) → Stops words v part failure → Follows words v (part (λ x. Says (exactly (answer x)))) (Err failure)
follows-stop words v part answer failure h = h v (part-itself v) (λ x. Says (exactly (answer x)))

-- ---- runs

-- whatever is written of a run that ended
pub run-ended : (output : Run → List ℕ) (g : List Decl) (script : Script) (run : Run) (text : List ℕ) → ended g script ≡ Ok run → text ≡ output run → run_answer output g script ≡ Ok text
run-ended output g script run text e is =
    ap (λ (r : Result Run Stop). refusing (stopped (grown g script.commands)) r >>= (λ last. Ok (output last))) e ∙ ap (λ (t : List ℕ). Ok t) (let back : output run ≡ text = cc in back)

pub run-stopped : (A : Type 0) (output : Run → List ℕ) (g : List Decl) (script : Script) (failure : Failure) → IsStop g script failure → Gives (λ (text : Vec ℕ A). text.items) (run_answer output g script) (Err failure)
run-stopped A output g script (Refused e) h = ap (λ (r : Result Run Refusal). r >>= (λ last. Ok (output last))) h
run-stopped A output g script (ReadFault f) h = h
run-stopped A output g script Memory h = tt

pub ruleset runs = (run-ended, run-stopped)
