use Rattle.std.proofs.Common.{◌≡◌, ℕ, List, Ok, subst}
use Rattle.std.specs.Int.{w64}
use Rattle.std.proofs.lemmas.List.{take_rest}
use Rattle.model_wire.specs.declared.wire_why.WireWhy.TheVariants as why
use Rattle.model_wire.specs.Reader.{between, ranged_at}
use Rattle.model_wire.specs.Message.{update_limit}
use Rattle.lasp_wire.proofs.PlacedLaws.{number-at}
use Rattle.lasp_wire.proofs.places.count_at.Goals as goal

pub returns-in-Ok-clause-exact : goal.returns-in-Ok-clause-exact
returns-in-Ok-clause-exact c =
    number-at w64 (between 0 update_limit) why.Range c.args.bytes.now c.args.place c.in-Ok.n c.in-Ok.field-0-1.now c.requires
    (subst (λ (l : List ℕ). ranged_at w64 0 update_limit l ≡ Ok (c.in-Ok.n, c.in-Ok.field-0-1.now)) (take_rest c.args.bytes.now c.args.place) c.in-Ok.ensures.exact)
