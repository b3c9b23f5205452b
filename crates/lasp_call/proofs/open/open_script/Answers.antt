use Rattle.std.proofs.Common.{List, ℕ, subst}
use Rattle.std.specs.declared.vec.Vec.{Vec}
use Rattle.std.specs.declared.alloc.Global.{Global}
use Rattle.model_graph.specs.Chain.{refusing}
use Rattle.model_world.specs.Command.{Script}
use Rattle.model_scripts.specs.Script.{script_of}
use Rattle.model_program.specs.Program.{script_refused}
use Rattle.model_program.specs.Follows.{view, Gives}
use Rattle.lasp_graph.specs.Library.{library_of}
use Rattle.lasp_call.specs.Words.{words_of}
use Rattle.lasp_call.proofs.OpenLaws.{opens-then, opens-failed}
use Rattle.lasp_call.proofs.open.open_script.Goals as goal

pub returns-in-Ok-clause-opens : goal.returns-in-Ok-clause-opens
returns-in-Ok-clause-opens g c =
    opens-then (λ (s : Script). s) (words_of c.args.words.now) (view (g.F.Files.content c.args.files.now) (g.F.Files.faults c.args.files.now) (g.F.Files.faults c.read_file.new.files)) c.args.file c.in-Ok.bytes.items
    (λ (bytes : List ℕ). refusing script_refused (script_of (library_of c.args.lib.now) c.args.graph.now bytes)) c.script_from.result c.in-Ok.ensures.opens
    (subst (λ (bytes : List ℕ). Gives (λ (s : Script). s) (refusing script_refused (script_of (library_of c.args.lib.now) c.args.graph.now bytes)) c.script_from.result) c.deref.ensures.value c.script_from.ensures.exact)

pub returns-in-Err-clause-opens : goal.returns-in-Err-clause-opens
returns-in-Err-clause-opens g c =
    opens-failed (λ (read : Vec ℕ Global). read.items) (λ (s : Script). s) (words_of c.args.words.now) (view (g.F.Files.content c.args.files.now) (g.F.Files.faults c.args.files.now) (g.F.Files.faults c.read_file.new.files)) c.args.file
    (λ (bytes : List ℕ). refusing script_refused (script_of (library_of c.args.lib.now) c.args.graph.now bytes)) c.in-Err.failure c.in-Err.ensures.opens
