use Rattle.std.proofs.Common.{ap, option_map}
use Rattle.lasp_edge.proofs.ShelfLaws.{file_at-map}
use Rattle.lasp_edge.proofs.shelf.Shelf.file.Goals as goal

pub returns-in-Some : goal.returns-in-Some
returns-in-Some c =
    rw (← c.self.view_is, file_at-map, c.as_slice.ensures.value) (ap (option_map (λ v. v.items)) c.in-Some.ensures.value)

pub returns-in-None : goal.returns-in-None
returns-in-None c = rw (← c.self.view_is, file_at-map) (ap (option_map (λ v. v.items)) c.in-None.ensures.value)
