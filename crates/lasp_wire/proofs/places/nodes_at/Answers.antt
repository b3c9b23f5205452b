use Rattle.std.proofs.Common.{◌≡◌, ℕ, List, Ok, subst}
use Rattle.std.specs.Int.{w8}
use Rattle.std.proofs.lemmas.List.{take_rest}
use Rattle.model_wire.specs.declared.wire_why.WireWhy.TheVariants as why
use Rattle.model_wire.specs.Reader.{between}
use Rattle.model_wire.specs.Message.{nodes_at}
use Rattle.lasp_wire.proofs.PlacedLaws.{number-at}
use Rattle.lasp_wire.proofs.places.nodes_at.Goals as goal

pub returns-in-Ok-clause-exact : goal.returns-in-Ok-clause-exact
returns-in-Ok-clause-exact c =
    number-at w8 (between 1 8) why.Range c.args.bytes.now c.args.place c.in-Ok.n c.in-Ok.field-0-1.now c.requires
    (subst (λ (l : List ℕ). nodes_at l ≡ Ok (c.in-Ok.n, c.in-Ok.field-0-1.now)) (take_rest c.args.bytes.now c.args.place) c.in-Ok.ensures.exact)
