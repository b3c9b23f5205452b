use Rattle.std.proofs.Common.{length, refl}
use Rattle.std.proofs.lemmas.Option.{slice_get_read}
use Rattle.lasp_drive.proofs.MarkLaws.{noted-set, all-pushed}
use Rattle.lasp_drive.proofs.driver.note.Goals as goal

pub returns-then-not-contains : goal.returns-then-not-contains
returns-then-not-contains c =
    let marks = c.args.marks.now.items in
    let m = c.index_mut.result.now in
    noted-set marks c.args.mark c.args.node m _ (slice_get_read marks (length marks) c.args.mark m refl c.requires c.index_mut.ensures.value) refl refl
    (λ P all here. all-pushed P c.push.result m.known.items c.push.new.self.items c.args.node c.push.ensures.items all here)
