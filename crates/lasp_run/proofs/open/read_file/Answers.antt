use Rattle.std.specs.declared.vec.Vec.{Vec}
use Rattle.std.specs.declared.alloc.Global.{Global}
use Rattle.std.specs.Prelude.{ℕ, Ok}
use Rattle.model_program.specs.Follows.{view}
use Rattle.model_program.specs.declared.refusal.Refusal.{Refusal}
use Rattle.lasp_call.specs.Words.{words_of}
use Rattle.lasp_run.proofs.OpenLaws.{performs-opens}
use Rattle.lasp_run.proofs.open.read_file.Goals as goal

pub returns-clause-part : goal.returns-clause-part
returns-clause-part g c =
    performs-opens (λ (bytes : Vec ℕ Global). bytes.items) (words_of c.args.words.now) (view (g.F.Files.content c.args.files.now) (g.F.Files.faults c.args.files.now) (g.F.Files.faults c.read_file.new.files)) c.args.file (λ (e : Refusal). e) (λ bytes. Ok bytes) c.read_file.result c.read_file.ensures.opens
