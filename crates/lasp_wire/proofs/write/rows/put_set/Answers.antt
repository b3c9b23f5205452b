use Rattle.std.proofs.Common.{◌≡◌, ◌++◌, ◌∙◌, None, OnOk, List, ℕ, ap, subst}
use Rattle.model_values.specs.Row.{Row}
use Rattle.model_graph.specs.Spelling.{number}
use Rattle.lasp_wire.specs.Written.{values_after, spelled_after}
use Rattle.lasp_wire.proofs.WrittenRows.{written_rows}
use Rattle.lasp_wire.proofs.write.rows.put_set.Goals as goal

abbrev in_order : List Row → List ℕ
in_order rows = number 4 (values_after None rows) ++ spelled_after None rows

pub returns : goal.returns
returns c =
    let e : c.deref.result.now ≡ c.args.set.now = rw c.deref.ensures.value c.in_ok-rows.ensures in
    subst (λ (text : List ℕ). OnOk c.put_grouped.result (c.put_grouped.new.out.items ≡ c.args.out.now.items ++ text)) (ap in_order e ∙ written_rows c.args.set.now) c.put_grouped.ensures
