use Rattle.std.proofs.Common.{ap, sym, ◌∙◌}
use Rattle.std.specs.Arc.{arc_value}
use Rattle.lasp_graph.specs.Kind.{kind_of}
use Rattle.lasp_replica.specs.Asked.{has_two}
use Rattle.lasp_replica.proofs.SettledLaws.{kind-from}
use Rattle.lasp_replica.proofs.InPlaceLaws.{inputs-of-var, is-unread}
use Rattle.lasp_replica.proofs.replica.Replica.unread_ready.Goals as goal

pub changed_rows-requires-clause-var : goal.changed_rows-requires-clause-var
changed_rows-requires-clause-var c =
    let r = c.args.self.now in
    let i = inputs-of-var r c.requires.replica c.args.var c.requires.derived c.deref.result.now c.from.result (kind_of c.at.result.now.kind) c.inputs.result c.in-Some.x c.in-Some.y c.deref.ensures c.from.ensures c.at.ensures.kind c.inputs.ensures c.in-Some.is in
    i.first_earlier.declared

pub changed_rows-requires-clause-set : goal.changed_rows-requires-clause-set
changed_rows-requires-clause-set c =
    let r = c.args.self.now in
    let i = inputs-of-var r c.requires.replica c.args.var c.requires.derived c.deref.result.now c.from.result (kind_of c.at.result.now.kind) c.inputs.result c.in-Some.x c.in-Some.y c.deref.ensures c.from.ensures c.at.ensures.kind c.inputs.ensures c.in-Some.is in
    i.first_earlier.set

pub second_rows-requires-clause-var : goal.second_rows-requires-clause-var
second_rows-requires-clause-var c =
    let r = c.args.self.now in
    let i = inputs-of-var r c.requires.replica c.args.var c.requires.derived c.deref.result.now c.from.result (kind_of c.at.result.now.kind) c.inputs.result c.in-Some.x c.in-Some.y c.deref.ensures c.from.ensures c.at.ensures.kind c.inputs.ensures c.in-Some.is in
    i.second_earlier.declared

pub second_rows-requires-clause-set : goal.second_rows-requires-clause-set
second_rows-requires-clause-set c =
    let r = c.args.self.now in
    let i = inputs-of-var r c.requires.replica c.args.var c.requires.derived c.deref.result.now c.from.result (kind_of c.at.result.now.kind) c.inputs.result c.in-Some.x c.in-Some.y c.deref.ensures c.from.ensures c.at.ensures.kind c.inputs.ensures c.in-Some.is in
    i.second_earlier.set

pub returns : goal.returns
returns c =
    let r = c.args.self.now in
    let i = inputs-of-var r c.requires.replica c.args.var c.requires.derived c.deref.result.now c.from.result (kind_of c.at.result.now.kind) c.inputs.result c.in-Some.x c.in-Some.y c.deref.ensures c.from.ensures c.at.ensures.kind c.inputs.ensures c.in-Some.is in
    let kind = kind-from (arc_value r.graph) c.deref.result.now c.from.result c.args.var (kind_of c.at.result.now.kind) c.deref.ensures c.from.ensures c.at.ensures.kind in
    is-unread r c.requires.replica c.args.var c.requires.derived c.in-Some.x c.in-Some.y i c.base_of-n.result c.base_of-n.ensures c.in_ok-first-in-Some.first c.in_ok-second-in-Some.second
    c.in_ok-first-in-Some.ensures (c.in_ok-second-in-Some.ensures.two ∙ ap has_two (sym kind)) c.in_ok-second-in-Some.ensures.rows
