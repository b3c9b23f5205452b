use Rattle.std.specs.Arc.{arc_value}
use Rattle.lasp_graph.specs.Kind.{kind_of}
use Rattle.lasp_replica.proofs.SettledLaws.{process-derived, kind-from, inputs-none}
use Rattle.lasp_replica.proofs.InPlaceLaws.{inputs-of-var}
use Rattle.lasp_replica.proofs.TakeLaws.{read-early, made-read}
use Rattle.lasp_replica.proofs.replica.Replica.inputs_before.Goals as goal

pub unreachable-requires : goal.unreachable-requires
unreachable-requires c =
    let r = c.args.self.now in
    let d = process-derived r c.requires.replica c.args.var c.args.process.now c.requires.var in
    inputs-none r c.args.var d c.deref.result.now c.from.result (kind_of c.at.result.now.kind) c.inputs.result c.deref.ensures c.from.ensures c.at.ensures.kind c.inputs.ensures c.in-None.is

pub inputs_at-requires-clause-early : goal.inputs_at-requires-clause-early
inputs_at-requires-clause-early c = read-early c.args.self.now c.requires.replica c.args.var c.args.process.now c.requires.var

pub inputs_at-requires-clause-first : goal.inputs_at-requires-clause-first
inputs_at-requires-clause-first c =
    let r = c.args.self.now in
    let d = process-derived r c.requires.replica c.args.var c.args.process.now c.requires.var in
    let i = inputs-of-var r c.requires.replica c.args.var d c.deref.result.now c.from.result (kind_of c.at.result.now.kind) c.inputs.result c.in-Some.x c.in-Some.y c.deref.ensures c.from.ensures c.at.ensures.kind c.inputs.ensures c.in-Some.is in
    (i.first_earlier.declared, i.first_earlier.set)

pub inputs_at-requires-clause-second : goal.inputs_at-requires-clause-second
inputs_at-requires-clause-second c =
    let r = c.args.self.now in
    let d = process-derived r c.requires.replica c.args.var c.args.process.now c.requires.var in
    let i = inputs-of-var r c.requires.replica c.args.var d c.deref.result.now c.from.result (kind_of c.at.result.now.kind) c.inputs.result c.in-Some.x c.in-Some.y c.deref.ensures c.from.ensures c.at.ensures.kind c.inputs.ensures c.in-Some.is in
    (i.second_earlier.declared, i.second_earlier.set)

pub returns : goal.returns
returns c =
    let r = c.args.self.now in
    let d = process-derived r c.requires.replica c.args.var c.args.process.now c.requires.var in
    let k = kind_of c.at.result.now.kind in
    let i = inputs-of-var r c.requires.replica c.args.var d c.deref.result.now c.from.result k c.inputs.result c.in-Some.x c.in-Some.y c.deref.ensures c.from.ensures c.at.ensures.kind c.inputs.ensures c.in-Some.is in
    let kind = kind-from (arc_value r.graph) c.deref.result.now c.from.result c.args.var k c.deref.ensures c.from.ensures c.at.ensures.kind in
    let all = c.inputs_at.ensures in
    made-read c.inputs_at.result r c.args.var c.in-Some.x c.in-Some.y c.args.process.now.n i k kind all.first all.second all.one all.two
