use Rattle.std.proofs.Common.{nat_lt, ◌++◌, ◌∷◌, [], refl, sym, ap, ◌∙◌}
use Rattle.model_values.specs.Row.{Row}
use Rattle.model_sets.specs.Rows.{of_rows, join}
use Rattle.model_sets.specs.Equations.{changed}
use Rattle.model_sets.proofs.RowLaws.{join-of_rows}
use Rattle.lasp_logset.proofs.GrownLaws.{grown-none, grown-more, joined-next, joined-end, grown-tells}
use Rattle.lasp_logset.proofs.grown.Grown.joined.Goals as goal

pub loop-entry-init : goal.loop-entry-init
loop-entry-init c = record {
  joined = λ i. join (of_rows (c.in_ok-all.ensures i)) (c.iter-left.ensures i);
  grown = grown-none c.args.self.now c.in_ok-all.all c.in_ok-all.ensures;
}

pub loop-entry-preserved : goal.loop-entry-preserved
loop-entry-preserved c =
    let added = c.in_ok-add.ensures.ok ∙ ap (λ (r : Row). c.loop-entry.all ++ changed c.loop-entry.all (r ∷ [])) c.in_ok-try_clone.ensures in
    record {
      joined = joined-next c.loop-entry.all c.add.new.self c.loop-entry.left c.next.new.self c.in-Some.entry.now c.in-Some.ensures.some added ∙ c.loop-entry.invariant.joined;
      grown = grown-more c.args.self.now c.loop-entry.all c.add.new.self c.in-Some.entry.now added c.loop-entry.invariant.grown;
    }

pub returns-clause-rows : goal.returns-clause-rows
returns-clause-rows c =
    joined-end c.loop-entry.all c.loop-entry.left c.in_default.ensures.none ∙ c.loop-entry.invariant.joined ∙ sym (join-of_rows (of_rows c.args.self.now) c.args.log.now.items)

pub returns-clause-grew : goal.returns-clause-grew
returns-clause-grew c =
    grown-tells c.args.self.now c.loop-entry.all c.version-before.result c.version-after.result (nat_lt c.version-before.result c.version-after.result) c.version-before.ensures c.version-after.ensures refl c.loop-entry.invariant.grown
