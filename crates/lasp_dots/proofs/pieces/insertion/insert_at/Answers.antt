use Rattle.lasp_dots.proofs.PartLaws.{on_ok, on_err}
use Rattle.lasp_dots.proofs.PieceLaws.{fits-piece, put-piece, same-set, filled-put}
use Rattle.lasp_dots.proofs.pieces.insertion.insert_at.Goals as goal

pub insert-requires : goal.insert-requires
insert-requires g c = fits-piece c.args.pieces.now.items c.args.place.piece c.args.place.at c.index_mut.result.now c.requires.within c.index_mut.ensures.value c.requires.fits

pub returns-clause-ok : goal.returns-clause-ok
returns-clause-ok g c =
    on_ok c.insert.result
    (put-piece c.args.pieces.now.items c.args.place.piece c.args.place.at c.index_mut.result.now c.insert.new.self c.args.item c.requires.within c.index_mut.ensures.value c.requires.fits)
    c.insert.ensures.ok

pub returns-clause-err : goal.returns-clause-err
returns-clause-err g c =
    on_err c.insert.result (same-set c.args.pieces.now.items c.args.place.piece c.index_mut.result.now c.insert.new.self c.requires.within c.index_mut.ensures.value) c.insert.ensures.err

pub returns-clause-full : goal.returns-clause-full
returns-clause-full g c =
    filled-put c.insert.result c.args.pieces.now.items c.args.place.piece c.args.place.at c.index_mut.result.now c.insert.new.self c.args.item c.requires.filled c.requires.within c.index_mut.ensures.value
    c.insert.ensures.ok c.insert.ensures.err
