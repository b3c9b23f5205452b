use Rattle.lasp_edge.proofs.ShelfLaws.{file_at-insert}
use Rattle.lasp_edge.proofs.shelf.Shelf.put_file.Goals as goal

pub returns-clause-ok : goal.returns-clause-ok
returns-clause-ok c =
    λ n. rw (← c.self.view_is, ← c.in_ok-name.ensures.ok, ← c.in_ok-bytes.ensures.items)
    (file_at-insert _ c.self.inside.files c.insert.new.self c.in_ok-bytes.bytes c.in_ok-insert.ensures.updates n)
