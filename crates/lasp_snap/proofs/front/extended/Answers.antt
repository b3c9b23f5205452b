use Rattle.std.proofs.Common.{sym, ◌∙◌, ap}
use Rattle.logbook.specs.Pages.{Named}
use Rattle.lasp_snap.proofs.Adding.{adds_moves}
use Rattle.lasp_snap.proofs.front.extended.Goals as goal

pub compare_exchange-found-requires : goal.compare_exchange-found-requires
compare_exchange-found-requires c =
    let pen = c.no_pen-pen.ensures in
    let book = sym (ap (λ (w : Named). w.book) c.requires.head) in (
      ap (λ (w : Named). w.tracked) c.requires.head,
      book,
      pen.0 ∙ book,
      c.requires.names,
      rw (ap (λ (w : Named). w.key) c.requires.head, pen.1, c.requires.new, c.requires.more) (adds_moves c.args.seen.log _ c.args.entries (sym c.requires.entries)),
    )
