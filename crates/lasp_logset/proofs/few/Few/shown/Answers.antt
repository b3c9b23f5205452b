use Rattle.std.proofs.Common.{refl, arith}
use Rattle.lasp_logset.proofs.FewLaws.{few-shown, if-found, seen-same}
use Rattle.lasp_logset.proofs.few.Few.shown.Goals as goal

pub returns : goal.returns
returns c = if-found c.standing_values.result _ _
    (λ values standing. few-shown c.args.rows.now.entries c.as_slice.result.now c.args.self.now.upto values.items
    (seen-same c.args.rows.now.entries c.args.self.now.places.items c.as_slice.result.now c.args.self.now.upto c.args.self.now.upto c.as_slice.ensures.value refl c.requires) (omega (arith, c.if-self-len.false, c.len.ensures.len)) standing) c.standing_values.ensures
