use Rattle.std.proofs.Common.{◌∙◌, flat_map, refl, ap, Err}
use Rattle.lasp_setops.specs.Prelude.{join, gives_from, row_limit}
use Rattle.lasp_setops.specs.declared.refused.SetRefused.TheVariants.{TooManyRows}
use Rattle.lasp_setops.proofs.JoinLaws.{first-rows, next-rows, long-rows, last-rows, passed-on}
use Rattle.lasp_setops.proofs.PairLaws.{partners-any}
use Rattle.lasp_setops.proofs.pairs.Pairing.add_row.Goals as goal

pub loop-partner-init : goal.loop-partner-init
loop-partner-init c = (
  first-rows (flat_map (gives_from c.args.self c.args.side c.args.row.now) c.args.other.now) (flat_map (gives_from c.args.self c.args.side c.args.row.now) c.in_ok-partners.partners) (join c.args.out.now (flat_map (gives_from c.args.self c.args.side c.args.row.now) c.args.other.now)) c.args.out.now
      (partners-any c.args.self c.args.side c.args.out.now c.args.row.now c.in_ok-partners.partners c.args.other.now c.in_ok-partners.ensures.apart c.in_ok-partners.ensures.rows) c.ascends.ensures refl,
  c.requires,
)

pub loop-partner-preserved : goal.loop-partner-preserved
loop-partner-preserved c =
    (next-rows (gives_from c.args.self c.args.side c.args.row.now) c.loop-partner.out c.add_pair.new.out c.loop-partner.partners c.next.new.self (join c.args.out.now (flat_map (gives_from c.args.self c.args.side c.args.row.now) c.args.other.now)) c.in-Some.partner c.in-Some.ensures.some c.in_ok-add_pair.ensures.ok c.loop-partner.invariant.0, c.in_ok-add_pair.ensures.small)

pub returns-in_err-add_pair-clause-too_many : goal.returns-in_err-add_pair-clause-too_many
returns-in_err-add_pair-clause-too_many c =
    λ h. long-rows row_limit (gives_from c.args.self c.args.side c.args.row.now) c.loop-partner.out c.loop-partner.partners c.next.new.self (join c.args.out.now (flat_map (gives_from c.args.self c.args.side c.args.row.now) c.args.other.now)) c.in-Some.partner c.in-Some.ensures.some c.loop-partner.invariant.0
    (c.add_pair.ensures.too_many (c.in_err-add_pair.was ∙ ap Err (passed-on c.from_residual-in_err-add_pair.result c.in_err-add_pair.field-0.0 TooManyRows c.from_residual-in_err-add_pair.ensures.1 h)))

pub returns-clause-ok : goal.returns-clause-ok
returns-clause-ok c =
    last-rows (gives_from c.args.self c.args.side c.args.row.now) c.loop-partner.out c.loop-partner.partners (join c.args.out.now (flat_map (gives_from c.args.self c.args.side c.args.row.now) c.args.other.now)) c.in_default.ensures.none c.loop-partner.invariant.0
