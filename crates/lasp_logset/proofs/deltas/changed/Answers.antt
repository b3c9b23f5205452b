use Rattle.std.proofs.Common.{◌≡◌, List, ap, subst, sym, ◌∙◌}
use Rattle.std.specs.Prelude.{IfOk}
use Rattle.model_values.specs.Row.{Row}
use Rattle.model_sets.specs.Rows.{of_rows}
use Rattle.model_sets.specs.Reads.{HaveSmallInts}
use Rattle.model_sets.specs.Rises.{AreApart}
use Rattle.lasp_logset.proofs.WholeLaws.{changed-done, apart-changed, small-changed, changed-state}
use Rattle.lasp_logset.proofs.BehindLaws.{behind-changed}
use Rattle.lasp_logset.proofs.deltas.changed.Goals as goal

pub of_apart-requires-clause-apart : goal.of_apart-requires-clause-apart
of_apart-requires-clause-apart c =
    let all = changed-done c.in_ok-known.known c.in_ok-rows.rows c.loop-row.rows c.loop-row.log.items c.seal.new.self.items c.loop-row.invariant c.in_default-next.ensures.none c.seal.ensures in
    subst AreApart (sym all) (apart-changed c.in_ok-known.known c.in_ok-rows.rows c.in_ok-rows.ensures.apart)

pub of_apart-requires-clause-ints : goal.of_apart-requires-clause-ints
of_apart-requires-clause-ints c =
    let all = changed-done c.in_ok-known.known c.in_ok-rows.rows c.loop-row.rows c.loop-row.log.items c.seal.new.self.items c.loop-row.invariant c.in_default-next.ensures.none c.seal.ensures in
    subst HaveSmallInts (sym all) (small-changed c.in_ok-known.known c.in_ok-rows.rows c.args.after.now c.in_ok-rows.ensures.rows c.recall_ints.ensures)

pub returns : goal.returns
returns c =
    let all = changed-done c.in_ok-known.known c.in_ok-rows.rows c.loop-row.rows c.loop-row.log.items c.seal.new.self.items c.loop-row.invariant c.in_default-next.ensures.none c.seal.ensures in
    c.of_past.ensures ∙ ap (λ (s : List Row). of_rows s) (c.of_apart.ensures ∙ all) ∙ changed-state c.in_ok-known.known c.in_ok-rows.rows c.args.before.now c.args.after.now c.in_ok-known.ensures c.in_ok-rows.ensures.rows

pub returns-then-not-has_each_once : goal.returns-then-not-has_each_once
returns-then-not-has_each_once c =
    c.in_ok-news.ensures ∙ changed-state c.in_ok-known.known c.iter.result c.args.before.now c.args.after.now c.in_ok-known.ensures c.iter.ensures.rows

pub returns-in-Some : goal.returns-in-Some
returns-in-Some c =
    let here = behind-changed c.log.result.now.items c.log-2.result.now.items c.in-Some.rest c.args.before.now c.args.after.now c.in-Some.ensures c.log-2.ensures.rises c.log.ensures.rows c.log-2.ensures.rows in
    subst (λ (t : List Row). IfOk c.set_of.result (λ s. s ≡ t)) here c.set_of.ensures
