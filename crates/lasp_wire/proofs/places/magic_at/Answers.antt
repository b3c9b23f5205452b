use Rattle.std.proofs.Common.{◌≡◌, ℕ, List, Ok, subst}
use Rattle.std.proofs.lemmas.List.{take_rest}
use Rattle.model_wire.specs.Reader.{magic_at}
use Rattle.lasp_wire.proofs.PlacedLaws.{magic-at}
use Rattle.lasp_wire.proofs.places.magic_at.Goals as goal

pub returns-in-Ok : goal.returns-in-Ok
returns-in-Ok c =
    magic-at c.args.magic c.args.bytes.now c.args.place c.in-Ok.field-0.0 c.in-Ok.field-0.1.now c.requires
    (subst (λ (l : List ℕ). magic_at c.args.magic l ≡ Ok (c.in-Ok.field-0.0, c.in-Ok.field-0.1.now)) (take_rest c.args.bytes.now c.args.place) c.in-Ok.ensures)
