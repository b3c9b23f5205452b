-- What is answered of a run by deltas.
use Rattle.std.proofs.Common.{refl, sym, ap, ◌∙◌}
use Rattle.std.specs.Prelude.{◌≡◌, ℕ, List, Result, Ok, Err}
use Rattle.std.specs.declared.vec.Vec.{Vec}
use Rattle.model_graph.specs.Chain.{refusing}
use Rattle.model_graph.specs.Graph.{Decl}
use Rattle.model_world.specs.Command.{Script}
use Rattle.model_world.specs.World.{Run, ended}
use Rattle.model_world.specs.declared.stop.Stop.{Stop}
use Rattle.model_deltas.specs.Gossip.{Gossip, gossiped, gossip_output}
use Rattle.model_deltas.proofs.RunLaws.{gossip-ends, gossip-stops}
use Rattle.model_scripts.specs.Progress.{grown}
use Rattle.model_program.specs.Follows.{Gives}
use Rattle.model_program.specs.Program.{stopped, told_deltas, delta_answer}
use Rattle.model_program.specs.declared.failure.Failure.{Failure}
use Rattle.model_program.specs.declared.failure.Failure.TheVariants.{Refused, ReadFault, Memory}
use Rattle.model_program.specs.declared.refusal.Refusal.{Refusal}
use Rattle.lasp_run.specs.Run.{IsStop}

-- what is written of a run that ended is the answer
pub deltas-told : (g : List Decl) (script : Script) (s : Gossip) (text : List ℕ) → gossiped g script ≡ Ok s → text ≡ gossip_output s → delta_answer g script ≡ Ok text
deltas-told g script s text e is = ap (told_deltas g script) e ∙ ap (λ (t : List ℕ). Ok t) (sym is)

-- a refusal of a run that stopped is the answer
deltas-refused : (g : List Decl) (script : Script) (refusal : Refusal) → refusing (stopped (grown g script.commands)) (ended g script) ≡ Err refusal → delta_answer g script ≡ Err refusal
deltas-refused g script refusal h = choose (gossiped g script) refl where
  choose : (r : Result Gossip Stop) → gossiped g script ≡ r → delta_answer g script ≡ Err refusal
  choose (Ok s) e =
      let ends : refusing (stopped (grown g script.commands)) (Ok s.run) ≡ Err refusal = ap (refusing (stopped (grown g script.commands))) (sym (gossip-ends g script s e)) ∙ h in
      absurd cc
  choose (Err stop) e = ap (told_deltas g script) e ∙ ended-so stop (ap (refusing (stopped (grown g script.commands))) (sym ((gossip-stops g script stop).0 e)) ∙ h) where
    ended-so : (stop : Stop) → refusing {A = Run} (stopped (grown g script.commands)) (Err stop) ≡ Err refusal → told_deltas g script (Err stop) ≡ Err refusal
    ended-so stop h = let same : stopped (grown g script.commands) stop ≡ refusal = cc in ap (λ (x : Refusal). Err x) same

-- a run that stopped gives its refusal
pub deltas-stopped : (A : Type 0) (g : List Decl) (script : Script) (failure : Failure) → IsStop g script failure → Gives (λ (text : Vec ℕ A). text.items) (delta_answer g script) (Err failure)
deltas-stopped A g script (Refused e) h = deltas-refused g script e h
deltas-stopped A g script (ReadFault f) h = h
deltas-stopped A g script Memory h = tt
