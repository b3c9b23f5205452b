use Rattle.std.proofs.Common.{refl, ap, subst, ◌∙◌, List, ℕ}
use Rattle.std.specs.Prelude.{◌<◌, length, Err}
use Rattle.model_values.specs.Faults.{Rose}
use Rattle.model_values.specs.Told.{Sees}
use Rattle.lasp_edge.specs.declared.error.Fetch.{Fetch}
use Rattle.model_program.specs.Plan.{file_limit}
use Rattle.lasp_call.proofs.OpenLaws.{read-whole, read-long}
use Rattle.lasp_call.proofs.open.read_file.Goals as goal

pub returns-in-Ok-clause-opens : goal.returns-in-Ok-clause-opens
returns-in-Ok-clause-opens g c =
    (c.in-Ok.bytes.items, subst (λ (name : List ℕ). Sees (g.F.Files.content c.args.files.now name) c.in-Ok.bytes.items) c.name_of.ensures.name c.in-Ok.ensures.ok, read-whole c.args.file c.in-Ok.bytes.items c.in-Ok.ensures.within)

pub returns-in-Err-Failed-clause-opens : goal.returns-in-Err-Failed-clause-opens
returns-in-Err-Failed-clause-opens g c = (
  refl,
  c.name_of.ensures.within,
  subst (λ (name : List ℕ). Rose (g.F.Files.faults c.args.files.now name) (g.F.Files.faults c.fetch.new.self name)) c.name_of.ensures.name
      (c.fetch.ensures.failed (c.in-Err-Failed.is ∙ ap (λ (e : Fetch). Err e) c.in-Err-Failed.field-0-is)),
)

pub returns-in-Err-TooLong-clause-opens : goal.returns-in-Err-TooLong-clause-opens
returns-in-Err-TooLong-clause-opens g c =
    let long : (bytes : List ℕ) × (Sees (g.F.Files.content c.args.files.now c.name_of.result.now) bytes) × (file_limit < length bytes) =
    c.fetch.ensures.too_long (c.in-Err-TooLong.is ∙ ap (λ (e : Fetch). Err e) c.in-Err-TooLong.field-0-is) in
    (long.0, subst (λ (name : List ℕ). Sees (g.F.Files.content c.args.files.now name) long.0) c.name_of.ensures.name long.1, read-long c.args.file long.0 long.2)
