use Rattle.std.proofs.Common.{◌-◌, ◌∙◌, ℕ, length, refl, sym, subst, arith}
use Rattle.model_world.specs.World.{Peer}
use Rattle.model_world.specs.Lawful.{opening_stage, AreLawful}
use Rattle.model_program.specs.Follows.{View, view, IsPartOf}
use Rattle.model_site.specs.Follows.{Passes, Stops}
use Rattle.model_site.specs.Plan.{Plan}
use Rattle.model_site.specs.Program.{stating, filing_more}
use Rattle.model_site.proofs.PlanLaws.{follows-then, follows-stop}
use Rattle.lasp_call.specs.Words.{words_of}
use Rattle.lasp_site.specs.Failure.{answered}
use Rattle.lasp_site.proofs.site.take_all.Goals as goal

pub take_rest-requires-clause-lawful : goal.take_rest-requires-clause-lawful
take_rest-requires-clause-lawful g c = subst (λ (n : ℕ). AreLawful n (opening_stage c.args.graph.now) c.args.script.now.commands) (sym (c.in-Ok.ensures.among ∙ c.requires.among)) c.requires.lawful

pub returns-in-Ok-clause-follows : goal.returns-in-Ok-clause-follows
returns-in-Ok-clause-follows g c =
    let first : View = view (g.F.Files.content c.args.files.now) (g.F.Files.faults c.args.files.now) (g.F.Files.faults c.take_state.new.files) in
    let rest : View = view (g.F.Files.content c.take_state.new.files) (g.F.Files.faults c.take_state.new.files) (g.F.Files.faults c.take_rest.new.files) in
    let whole : View = view (g.F.Files.content c.args.files.now) (g.F.Files.faults c.args.files.now) (g.F.Files.faults c.take_rest.new.files) in
    let early : IsPartOf first whole = record { content = λ n. refl; before = λ n. omega arith; after = λ n. c.take_rest.ensures.later n } in
    let late : IsPartOf rest whole = record { content = λ n. c.in-Ok.ensures.same n; before = λ n. c.in-Ok.ensures.later n; after = λ n. omega arith } in
    let next : Peer → Plan = λ r. filing_more c.args.me c.args.graph.now c.args.script.now 4 (length c.args.words.now - 4) r in
    follows-then (words_of c.args.words.now) first rest whole (stating c.args.me c.args.graph.now c.args.script.now.nodes) (g.N.Node.view c.in-Ok.node).peer next (answered c.take_rest.result) early late
    (subst (λ (n : ℕ). Passes (words_of c.args.words.now) first (stating c.args.me c.args.graph.now n) (g.N.Node.view c.in-Ok.node).peer) c.requires.among c.in-Ok.ensures.part) c.take_rest.ensures.follows

pub returns-in-Err-clause-follows : goal.returns-in-Err-clause-follows
returns-in-Err-clause-follows g c =
    let first : View = view (g.F.Files.content c.args.files.now) (g.F.Files.faults c.args.files.now) (g.F.Files.faults c.take_state.new.files) in
    let next : Peer → Plan = λ r. filing_more c.args.me c.args.graph.now c.args.script.now 4 (length c.args.words.now - 4) r in
    follows-stop (words_of c.args.words.now) first (stating c.args.me c.args.graph.now c.args.script.now.nodes) next c.in-Err.failure
    (subst (λ (n : ℕ). Stops (words_of c.args.words.now) first (stating c.args.me c.args.graph.now n) c.in-Err.failure) c.requires.among c.in-Err.ensures.part)
