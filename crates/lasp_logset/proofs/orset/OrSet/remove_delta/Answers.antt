use Rattle.std.proofs.Common.{List, ap, subst, sym, ◌∙◌}
use Rattle.model_values.specs.Row.{Row}
use Rattle.model_sets.specs.Rows.{of_rows}
use Rattle.model_sets.specs.Reads.{HaveSmallInts}
use Rattle.model_sets.specs.Rises.{AreApart}
use Rattle.lasp_value.specs.Value.{val_of}
use Rattle.lasp_logset.proofs.WholeLaws.{removed-done, apart-removed, small-removed, removed-state}
use Rattle.lasp_logset.proofs.orset.OrSet.remove_delta.Goals as goal

pub of_apart-requires-clause-apart : goal.of_apart-requires-clause-apart
of_apart-requires-clause-apart c =
    let all = removed-done (val_of c.args.value.now) c.in_ok-rows.rows c.loop-row.rows c.loop-row.log.items c.seal.new.self.items c.loop-row.invariant c.in_default.ensures.none c.seal.ensures in
    subst AreApart (sym all) (apart-removed (val_of c.args.value.now) c.in_ok-rows.rows c.in_ok-rows.ensures.apart)

pub of_apart-requires-clause-ints : goal.of_apart-requires-clause-ints
of_apart-requires-clause-ints c =
    let all = removed-done (val_of c.args.value.now) c.in_ok-rows.rows c.loop-row.rows c.loop-row.log.items c.seal.new.self.items c.loop-row.invariant c.in_default.ensures.none c.seal.ensures in
    subst HaveSmallInts (sym all) (small-removed (val_of c.args.value.now) c.in_ok-rows.rows c.args.self.now c.in_ok-rows.ensures.rows c.recall_ints.ensures)

pub returns : goal.returns
returns c =
    let all = removed-done (val_of c.args.value.now) c.in_ok-rows.rows c.loop-row.rows c.loop-row.log.items c.seal.new.self.items c.loop-row.invariant c.in_default.ensures.none c.seal.ensures in
    c.of_past.ensures ∙ ap (λ (s : List Row). of_rows s) (c.of_apart.ensures ∙ all) ∙ removed-state (val_of c.args.value.now) c.in_ok-rows.rows c.args.self.now c.in_ok-rows.ensures.rows c.ascends.ensures
