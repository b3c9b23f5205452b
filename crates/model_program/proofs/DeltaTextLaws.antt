-- What `delta` writes where the contents of its graph and its script are told.
use Rattle.std.proofs.Common.{◌≡◌, ℕ, ◌++◌, List, Option, Some, Result, Ok, Err, refl, subst, ◌∙◌}
use Rattle.model_values.specs.Told.{Appends}
use Rattle.model_functions.specs.Library.{Library}
use Rattle.model_graph.specs.Graph.{Decl}
use Rattle.model_world.specs.Command.{Script}
use Rattle.model_world.specs.Report.{report_of}
use Rattle.model_world.specs.World.{ended}
use Rattle.model_world.specs.declared.stop.Stop.{Stop}
use Rattle.model_deltas.specs.Gossip.{Gossip, gossiped, delta_line, gossip_output}
use Rattle.model_deltas.proofs.RunLaws.{gossip-ends}
use Rattle.model_program.specs.Ends.{Writing, Ends, Settles}
use Rattle.model_program.specs.Follows.{View, AllowsText, Follows}
use Rattle.model_program.specs.Plan.{exactly, told_answer}
use Rattle.model_program.specs.Program.{told_deltas, delta_answer, plan}
use Rattle.model_program.specs.Told.{TellsDeltas}
use Rattle.model_program.specs.declared.failure.Failure.{Failure}
use Rattle.model_program.specs.declared.form.Form.TheVariants.{Delta}
use Rattle.model_program.proofs.AnswerLaws.{follows-told}
use Rattle.model_program.proofs.DirectLaws.{text-written, failure-ends}
use Rattle.model_program.proofs.PlanCauses.{told-form, to-answer}

delta-told : (lib : Library) (content : List ℕ → Option (List ℕ)) (words : List (List ℕ)) (g : List Decl) (script : Script) → TellsDeltas lib content words g script → told_answer content words (plan lib words) ≡ Some (exactly (delta_answer g script))
delta-told lib content words g script h = told-form lib content words Delta h.delta ∙ to-answer lib content words g delta_answer script (delta_answer g script) h.graph h.script refl

-- a run that has a text ended
answer-deltas : (g : List Decl) (script : Script) (text : List ℕ) → AllowsText (exactly (delta_answer g script)) text → (s : Gossip) × (gossiped g script ≡ Ok s) × (text ≡ gossip_output s)
answer-deltas g script text e = choose (gossiped g script) refl e where
  choose : (r : Result Gossip Stop) → gossiped g script ≡ r → AllowsText (exactly (told_deltas g script r)) text → (s : Gossip) × (gossiped g script ≡ Ok s) × (text ≡ gossip_output s)
  choose (Ok s) is h = (s, is, h)
  choose (Err stop) is h = absurd h

-- with status 0 the report of the run was written, and how its messages travelled
pub deltas-write : (lib : Library) (words : List (List ℕ)) (v : View) (g : List Decl) (script : Script) (answer : Result (List ℕ) Failure) (out err : Writing) (status : ℕ)
    → TellsDeltas lib v.content words g script → Follows words v (plan lib words) answer → Ends words answer out err status → status ≡ 0
    → (s : Gossip) × (gossiped g script ≡ Ok s) × (ended g script ≡ Ok s.run) × Appends out.before (report_of s.run ++ delta_line s) out.after
deltas-write lib words v g script answer out err status tells follows ends done =
    choose answer (follows-told words v (plan lib words) answer (exactly (delta_answer g script)) follows (delta-told lib v.content words g script tells)) ends where
      choose : (r : Result (List ℕ) Failure) → Settles words v (plan lib words) (exactly (delta_answer g script)) r → Ends words r out err status
          → (s : Gossip) × (gossiped g script ≡ Ok s) × (ended g script ≡ Ok s.run) × Appends out.before (report_of s.run ++ delta_line s) out.after
      choose (Ok text) settles written =
          let found = answer-deltas g script text settles in (
            found.0,
            found.1,
            gossip-ends g script found.0 found.1,
            subst (λ (t : List ℕ). Appends out.before t out.after) found.2 (text-written words text out err status written done),
          )
      choose (Err failure) settles told = absurd (failure-ends words failure out err status told done)
