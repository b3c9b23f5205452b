use Rattle.std.proofs.Common.{◌<◌, length, sym, ap, subst, arith}
use Rattle.lasp_logset.proofs.KeptLaws.{apart-length}
use Rattle.lasp_replica.specs.Kept.{Kept}
use Rattle.lasp_replica.proofs.RowsLaws.{placed}
use Rattle.lasp_replica.proofs.history.History.put_in.Goals as goal

pub invariant_of-self : goal.invariant_of-self
invariant_of-self c =
    let is = c.self.invariant in
    let rows = c.into_rows.result in
    record {
      sound = is.sound;
      covered = is.covered;
      first_alone = is.first_alone;
      rows_fit = λ ready. omega (arith, is.most_fit ready, c.requires.room, ap (λ (k : Kept). k.room) c.self.view_is, apart-length rows.items c.into_rows.ensures.apart, ap length c.into_rows.ensures.rows, rows.ok.0);
      most_fit = is.most_fit;
      entry_fits = is.entry_fits;
    }

pub returns-clause-pending : goal.returns-clause-pending
returns-clause-pending c =
    let later : 0 < length c.self.inside.growths.items = subst (λ (k : Kept). 0 < length k.history.growths) (sym c.self.view_is) c.requires.later in
    placed c.self.inside.pending_first c.args.rows c.into_rows.result.items (c.self.invariant.first_alone later) c.into_rows.ensures.rows c.into_rows.ensures.apart
