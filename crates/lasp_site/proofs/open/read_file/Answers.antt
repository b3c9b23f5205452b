use Rattle.std.proofs.Common.{sym, subst}
use Rattle.std.specs.Prelude.{ℕ, List, Ok}
use Rattle.std.specs.declared.vec.Vec.{Vec}
use Rattle.std.specs.declared.alloc.Global.{Global}
use Rattle.model_program.specs.declared.refusal.Refusal.{Refusal}
use Rattle.model_site.specs.Plan.{reading}
use Rattle.model_program.specs.Follows.{view}
use Rattle.model_site.specs.Follows.{Stops}
use Rattle.model_site.specs.declared.site_failure.SiteFailure.{SiteFailure}
use Rattle.lasp_call.specs.Words.{words_of}
use Rattle.lasp_site.proofs.OpenLaws.{passes-opens, stops-opens}
use Rattle.lasp_site.proofs.open.read_file.Goals as goal

pub returns-in-Ok-clause-part : goal.returns-in-Ok-clause-part
returns-in-Ok-clause-part g c =
    passes-opens (λ (bytes : Vec ℕ Global). bytes.items) (words_of c.args.words.now) (view (g.F.Files.content c.args.files.now) (g.F.Files.faults c.args.files.now) (g.F.Files.faults c.read_file.new.files)) c.args.file
    (λ (e : Refusal). e) (λ (bytes : List ℕ). Ok bytes) c.in-Ok.bytes c.in-Ok.ensures.opens

pub returns-in-Err-clause-part : goal.returns-in-Err-clause-part
returns-in-Err-clause-part g c =
    let v = (view (g.F.Files.content c.args.files.now) (g.F.Files.faults c.args.files.now) (g.F.Files.faults c.read_file.new.files)) in
    subst (λ (failure : SiteFailure). Stops (words_of c.args.words.now) v (reading c.args.file) failure) (sym c.shared_failure.ensures)
    (stops-opens (λ (bytes : Vec ℕ Global). bytes.items) (words_of c.args.words.now) v c.args.file (λ (e : Refusal). e) (λ (bytes : List ℕ). Ok bytes) c.in-Err.failure c.in-Err.ensures.opens)
