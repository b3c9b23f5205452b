use Rattle.std.proofs.Common.{◌∙◌, flat_map, sym, ap, Err}
use Rattle.lasp_setops.specs.Prelude.{join, gives_from, pair_set_from, row_limit}
use Rattle.lasp_setops.specs.declared.refused.SetRefused.TheVariants.{TooManyRows}
use Rattle.lasp_setops.proofs.EntryLaws.{join-entries}
use Rattle.lasp_setops.proofs.JoinLaws.{first-rows, next-rows, long-rows, last-rows, passed-on}
use Rattle.lasp_setops.proofs.PairLaws.{pairs-from}
use Rattle.lasp_setops.proofs.pairs.Pairing.add.Goals as goal

pub loop-row-init : goal.loop-row-init
loop-row-init c = (
  first-rows (flat_map (λ r. flat_map (gives_from c.args.self c.args.side r) c.args.other.now) c.args.set.now) (flat_map (λ r. flat_map (gives_from c.args.self c.args.side r) c.args.other.now) c.in_ok-rows.rows) (join c.args.out.now (pair_set_from c.args.self c.args.side c.args.set.now c.args.other.now)) c.args.out.now
      (join-entries c.args.out.now (λ r. flat_map (gives_from c.args.self c.args.side r) c.args.other.now) c.in_ok-rows.rows c.args.set.now c.in_ok-rows.ensures.apart c.in_ok-rows.ensures.rows) c.ascends.ensures (sym (pairs-from c.args.self c.args.side c.args.out.now c.args.set.now c.args.other.now)),
  c.requires,
)

pub loop-row-preserved : goal.loop-row-preserved
loop-row-preserved c =
    (next-rows (λ r. flat_map (gives_from c.args.self c.args.side r) c.args.other.now) c.loop-row.out c.add_row.new.out c.loop-row.rows c.next.new.self (join c.args.out.now (pair_set_from c.args.self c.args.side c.args.set.now c.args.other.now)) c.in-Some.row c.in-Some.ensures.some c.in_ok-add_row.ensures.ok c.loop-row.invariant.0, c.in_ok-add_row.ensures.small)

pub returns-in_err-add_row-clause-too_many : goal.returns-in_err-add_row-clause-too_many
returns-in_err-add_row-clause-too_many c =
    λ h. long-rows row_limit (λ r. flat_map (gives_from c.args.self c.args.side r) c.args.other.now) c.loop-row.out c.loop-row.rows c.next.new.self (join c.args.out.now (pair_set_from c.args.self c.args.side c.args.set.now c.args.other.now)) c.in-Some.row c.in-Some.ensures.some c.loop-row.invariant.0
    (c.add_row.ensures.too_many (c.in_err-add_row.was ∙ ap Err (passed-on c.from_residual-in_err-add_row.result c.in_err-add_row.field-0.0 TooManyRows c.from_residual-in_err-add_row.ensures.1 h)))

pub returns-clause-ok : goal.returns-clause-ok
returns-clause-ok c =
    last-rows (λ r. flat_map (gives_from c.args.self c.args.side r) c.args.other.now) c.loop-row.out c.loop-row.rows (join c.args.out.now (pair_set_from c.args.self c.args.side c.args.set.now c.args.other.now)) c.in_default.ensures.none c.loop-row.invariant.0
