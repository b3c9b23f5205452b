use Rattle.std.proofs.Common.{ℕ, ◌≡◌, ◌∙◌, refl, sym, ap}
use Rattle.std.specs.Arc.{arc_value}
use Rattle.lasp_graph.specs.Kind.{kind_of}
use Rattle.lasp_graph.specs.States.{held_of}
use Rattle.lasp_replica.specs.Asked.{has_two}
use Rattle.lasp_replica.specs.Parts.{history_at}
use Rattle.lasp_replica.specs.Reading.{rows_since}
use Rattle.lasp_replica.specs.Replica.{parts_of}
use Rattle.lasp_replica.proofs.SettledLaws.{process-derived, kind-from, inputs-from, inputs-known, inputs-none}
use Rattle.lasp_replica.proofs.TakeLaws.{IsCopied, states-at, state-at, one-alike, second-held, asked, taken, journal-long}
use Rattle.lasp_replica.proofs.replica.Replica.job.Goals as goal
use Rattle.lasp_replica.proofs.replica.Replica.job.Goals.{then-has_two+in_ok-second-in-Some, else-has_two+in_ok-second-in-Some-2}

pub unreachable-requires : goal.unreachable-requires
unreachable-requires c =
    let r = c.args.self.now in
    let ok = c.requires.replica in
    let p = c.args.process.now in
    let d = process-derived r ok c.args.var p c.requires.var in
    inputs-none r c.args.var d c.deref.result.now c.from.result (kind_of c.at.result.now.kind) c.inputs.result c.deref.ensures c.from.ensures c.at.ensures.kind c.inputs.ensures c.in-None.is

pub changes-requires-clause-var : goal.changes-requires-clause-var
changes-requires-clause-var c =
    let r = c.args.self.now in
    let ok = c.requires.replica in
    let p = c.args.process.now in
    let d = process-derived r ok c.args.var p c.requires.var in
    let k = kind_of c.at.result.now.kind in
    let i = inputs-known r ok c.args.var d c.in-Some.x c.in-Some.y (inputs-from (arc_value r.graph) c.deref.result.now c.from.result c.args.var k c.inputs.result (c.in-Some.x, c.in-Some.y) c.deref.ensures c.from.ensures c.at.ensures.kind c.inputs.ensures c.in-Some.is) in
    i.first_earlier.declared

pub changes-requires-clause-set : goal.changes-requires-clause-set
changes-requires-clause-set c =
    let r = c.args.self.now in
    let ok = c.requires.replica in
    let p = c.args.process.now in
    let d = process-derived r ok c.args.var p c.requires.var in
    let k = kind_of c.at.result.now.kind in
    let i = inputs-known r ok c.args.var d c.in-Some.x c.in-Some.y (inputs-from (arc_value r.graph) c.deref.result.now c.from.result c.args.var k c.inputs.result (c.in-Some.x, c.in-Some.y) c.deref.ensures c.from.ensures c.at.ensures.kind c.inputs.ensures c.in-Some.is) in
    i.first_earlier.set

pub changes-requires-then-has_two-clause-var : goal.changes-requires-then-has_two-clause-var
changes-requires-then-has_two-clause-var c =
    let r = c.args.self.now in
    let ok = c.requires.replica in
    let p = c.args.process.now in
    let d = process-derived r ok c.args.var p c.requires.var in
    let k = kind_of c.at.result.now.kind in
    let i = inputs-known r ok c.args.var d c.in-Some.x c.in-Some.y (inputs-from (arc_value r.graph) c.deref.result.now c.from.result c.args.var k c.inputs.result (c.in-Some.x, c.in-Some.y) c.deref.ensures c.from.ensures c.at.ensures.kind c.inputs.ensures c.in-Some.is) in
    i.second_earlier.declared

pub changes-requires-then-has_two-clause-set : goal.changes-requires-then-has_two-clause-set
changes-requires-then-has_two-clause-set c =
    let r = c.args.self.now in
    let ok = c.requires.replica in
    let p = c.args.process.now in
    let d = process-derived r ok c.args.var p c.requires.var in
    let k = kind_of c.at.result.now.kind in
    let i = inputs-known r ok c.args.var d c.in-Some.x c.in-Some.y (inputs-from (arc_value r.graph) c.deref.result.now c.from.result c.args.var k c.inputs.result (c.in-Some.x, c.in-Some.y) c.deref.ensures c.from.ensures c.at.ensures.kind c.inputs.ensures c.in-Some.is) in
    i.second_earlier.set

pub inputs-requires-in-Some-clause-first : goal.inputs-requires-in-Some-clause-first
inputs-requires-in-Some-clause-first c =
    let r = c.args.self.now in
    let ok = c.requires.replica in
    let p = c.args.process.now in
    let d = process-derived r ok c.args.var p c.requires.var in
    let k = kind_of c.at.result.now.kind in
    let i = inputs-known r ok c.args.var d c.in-Some.x c.in-Some.y (inputs-from (arc_value r.graph) c.deref.result.now c.from.result c.args.var k c.inputs.result (c.in-Some.x, c.in-Some.y) c.deref.ensures c.from.ensures c.at.ensures.kind c.inputs.ensures c.in-Some.is) in
    states-at r ok c.in-Some.x c.in-Some.x refl i.first_earlier.declared

pub inputs-requires-in-Some-clause-second : goal.inputs-requires-in-Some-clause-second
inputs-requires-in-Some-clause-second c =
    let r = c.args.self.now in
    let ok = c.requires.replica in
    let p = c.args.process.now in
    let d = process-derived r ok c.args.var p c.requires.var in
    let k = kind_of c.at.result.now.kind in
    let i = inputs-known r ok c.args.var d c.in-Some.x c.in-Some.y (inputs-from (arc_value r.graph) c.deref.result.now c.from.result c.args.var k c.inputs.result (c.in-Some.x, c.in-Some.y) c.deref.ensures c.from.ensures c.at.ensures.kind c.inputs.ensures c.in-Some.is) in
    states-at r ok c.in-Some.y c.in-Some.y refl i.second_earlier.declared

pub at-requires-in-Some : goal.at-requires-in-Some
at-requires-in-Some c =
    let r = c.args.self.now in
    let ok = c.requires.replica in
    let p = c.args.process.now in
    let d = process-derived r ok c.args.var p c.requires.var in
    states-at r ok c.args.var c.from-in-Some.result c.from-in-Some.ensures d.declared

pub new-requires : goal.new-requires
new-requires c =
    let r = c.args.self.now in
    let ok = c.requires.replica in
    let p = c.args.process.now in
    let d = process-derived r ok c.args.var p c.requires.var in
    let k = kind_of c.at.result.now.kind in
    let i = inputs-known r ok c.args.var d c.in-Some.x c.in-Some.y (inputs-from (arc_value r.graph) c.deref.result.now c.from.result c.args.var k c.inputs.result (c.in-Some.x, c.in-Some.y) c.deref.ensures c.from.ensures c.at.ensures.kind c.inputs.ensures c.in-Some.is) in
    let kind = kind-from (arc_value r.graph) c.deref.result.now c.from.result c.args.var k c.deref.ensures c.from.ensures c.at.ensures.kind in
    let inputs = c.in_ok-inputs-in-Some.field-0 in
    let base = c.in_ok-inputs_read-in-Some.field-0 in
    let graph = arc_value c.in_ok-try_clone-in-Some.field-0 in
    let old = arc_value c.in_ok-try_clone-in-Some-2.field-0 in
    let first = c.in_ok-first-in-Some.first in
    let second = c.if-has_two.second in
    let rows : second ≡ rows_since (history_at (parts_of r).histories c.in-Some.y) p.n =
    elim c.if-has_two.branch [
      | then-has_two+in_ok-second-in-Some w ↦ w.second-is ∙ w.in_ok-second-in-Some.ensures
      | else-has_two+in_ok-second-in-Some-2 w ↦ (w.second-is ∙ w.in_ok-second-in-Some-2.ensures ∙ c.in_ok-first-in-Some.ensures
          ∙ ap (λ (x : ℕ). rows_since (history_at (parts_of r).histories x) p.n) (one-alike r c.args.var c.in-Some.x c.in-Some.y k i kind (sym c.has_two.ensures ∙ w.if-has_two.false)))
    ] in
    let copied : IsCopied r c.args.var p c.in-Some.x c.in-Some.y graph inputs base old first second = record {
      graph_is = c.in_ok-try_clone-in-Some.ensures;
      first_in = c.in_ok-inputs-in-Some.ensures.first;
      second_in = second-held r c.args.var c.in-Some.x c.in-Some.y k inputs i kind c.in_ok-inputs-in-Some.ensures.second c.in_ok-inputs-in-Some.ensures.one;
      two = c.in_ok-inputs-in-Some.ensures.two ∙ ap has_two (sym kind);
      base_is = c.in_ok-inputs_read-in-Some.ensures;
      old_is = ap held_of c.in_ok-try_clone-in-Some-2.ensures ∙ state-at r c.args.var c.from-in-Some.result (arc_value c.at-in-Some.result.now) c.from-in-Some.ensures c.at-in-Some.ensures;
      first_is = c.in_ok-first-in-Some.ensures;
      second_is = rows;
    } in
    asked r ok c.args.var p c.requires.var c.in-Some.x c.in-Some.y i graph inputs base old first second copied

pub returns : goal.returns
returns c =
    let r = c.args.self.now in
    let ok = c.requires.replica in
    let p = c.args.process.now in
    let d = process-derived r ok c.args.var p c.requires.var in
    let k = kind_of c.at.result.now.kind in
    let i = inputs-known r ok c.args.var d c.in-Some.x c.in-Some.y (inputs-from (arc_value r.graph) c.deref.result.now c.from.result c.args.var k c.inputs.result (c.in-Some.x, c.in-Some.y) c.deref.ensures c.from.ensures c.at.ensures.kind c.inputs.ensures c.in-Some.is) in
    let kind = kind-from (arc_value r.graph) c.deref.result.now c.from.result c.args.var k c.deref.ensures c.from.ensures c.at.ensures.kind in
    let inputs = c.in_ok-inputs-in-Some.field-0 in
    let base = c.in_ok-inputs_read-in-Some.field-0 in
    let graph = arc_value c.in_ok-try_clone-in-Some.field-0 in
    let old = arc_value c.in_ok-try_clone-in-Some-2.field-0 in
    let first = c.in_ok-first-in-Some.first in
    let second = c.if-has_two.second in
    let rows : second ≡ rows_since (history_at (parts_of r).histories c.in-Some.y) p.n =
    elim c.if-has_two.branch [
      | then-has_two+in_ok-second-in-Some w ↦ w.second-is ∙ w.in_ok-second-in-Some.ensures
      | else-has_two+in_ok-second-in-Some-2 w ↦ (w.second-is ∙ w.in_ok-second-in-Some-2.ensures ∙ c.in_ok-first-in-Some.ensures
          ∙ ap (λ (x : ℕ). rows_since (history_at (parts_of r).histories x) p.n) (one-alike r c.args.var c.in-Some.x c.in-Some.y k i kind (sym c.has_two.ensures ∙ w.if-has_two.false)))
    ] in
    let copied : IsCopied r c.args.var p c.in-Some.x c.in-Some.y graph inputs base old first second = record {
      graph_is = c.in_ok-try_clone-in-Some.ensures;
      first_in = c.in_ok-inputs-in-Some.ensures.first;
      second_in = second-held r c.args.var c.in-Some.x c.in-Some.y k inputs i kind c.in_ok-inputs-in-Some.ensures.second c.in_ok-inputs-in-Some.ensures.one;
      two = c.in_ok-inputs-in-Some.ensures.two ∙ ap has_two (sym kind);
      base_is = c.in_ok-inputs_read-in-Some.ensures;
      old_is = ap held_of c.in_ok-try_clone-in-Some-2.ensures ∙ state-at r c.args.var c.from-in-Some.result (arc_value c.at-in-Some.result.now) c.from-in-Some.ensures c.at-in-Some.ensures;
      first_is = c.in_ok-first-in-Some.ensures;
      second_is = rows;
    } in
    taken r ok c.args.var p c.requires.var c.in-Some.x c.in-Some.y i c.new.result graph inputs base old first second copied (record {
      var = c.new.ensures.var.0;
      now = journal-long r c.new.result.n c.len.result c.new.ensures.var.1 c.len.ensures;
      graph_is = ap arc_value c.new.ensures.inputs.1;
      inputs_is = c.new.ensures.inputs.0;
      base_is = c.new.ensures.earlier.0;
      before_is = ap arc_value c.new.ensures.earlier.1;
      first_is = c.new.ensures.rows.0;
      second_is = c.new.ensures.rows.1;
      fresh = c.new.ensures.fresh;
    })
