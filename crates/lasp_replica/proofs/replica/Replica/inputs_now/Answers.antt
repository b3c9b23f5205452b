use Rattle.std.proofs.Common.{refl}
use Rattle.std.specs.Arc.{arc_value}
use Rattle.lasp_graph.specs.Kind.{kind_of}
use Rattle.lasp_replica.proofs.SettledLaws.{kind-from}
use Rattle.lasp_replica.proofs.TakeLaws.{states-at, second-held}
use Rattle.lasp_replica.proofs.InPlaceLaws.{inputs-of-var, shared-now}
use Rattle.lasp_replica.proofs.replica.Replica.inputs_now.Goals as goal

pub inputs-requires-in-Some-clause-first : goal.inputs-requires-in-Some-clause-first
inputs-requires-in-Some-clause-first c =
    let r = c.args.self.now in
    let i = inputs-of-var r c.requires.replica c.args.var c.requires.derived c.deref.result.now c.from.result (kind_of c.at.result.now.kind) c.inputs.result c.in-Some.x c.in-Some.y c.deref.ensures c.from.ensures c.at.ensures.kind c.inputs.ensures c.in-Some.is in
    states-at r c.requires.replica c.in-Some.x c.in-Some.x refl i.first_earlier.declared

pub inputs-requires-in-Some-clause-second : goal.inputs-requires-in-Some-clause-second
inputs-requires-in-Some-clause-second c =
    let r = c.args.self.now in
    let i = inputs-of-var r c.requires.replica c.args.var c.requires.derived c.deref.result.now c.from.result (kind_of c.at.result.now.kind) c.inputs.result c.in-Some.x c.in-Some.y c.deref.ensures c.from.ensures c.at.ensures.kind c.inputs.ensures c.in-Some.is in
    states-at r c.requires.replica c.in-Some.y c.in-Some.y refl i.second_earlier.declared

pub returns : goal.returns
returns c =
    let r = c.args.self.now in
    let i = inputs-of-var r c.requires.replica c.args.var c.requires.derived c.deref.result.now c.from.result (kind_of c.at.result.now.kind) c.inputs.result c.in-Some.x c.in-Some.y c.deref.ensures c.from.ensures c.at.ensures.kind c.inputs.ensures c.in-Some.is in
    let k = kind_of c.at.result.now.kind in
    let kind = kind-from (arc_value r.graph) c.deref.result.now c.from.result c.args.var k c.deref.ensures c.from.ensures c.at.ensures.kind in
    let all = c.in_ok-inputs-in-Some.ensures in
    let inputs = c.in_ok-inputs-in-Some.inputs in
    shared-now c.past_inputs.result r c.args.var c.in-Some.x c.in-Some.y i k kind inputs all.first (second-held r c.args.var c.in-Some.x c.in-Some.y k inputs i kind all.second all.one) all.two c.past_inputs.ensures
