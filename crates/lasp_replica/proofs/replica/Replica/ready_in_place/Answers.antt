use Rattle.std.proofs.Common.{◌<◌, List, length, refl, sym, subst}
use Rattle.std.specs.Arc.{arc_value}
use Rattle.lasp_graph.specs.Kind.{kind_of}
use Rattle.lasp_graph.specs.States.{Held}
use Rattle.lasp_replica.proofs.SettledLaws.{inputs-from, inputs-known}
use Rattle.lasp_replica.proofs.TakeLaws.{states-at}
use Rattle.lasp_replica.proofs.replica.Replica.ready_in_place.Goals as goal

pub gather_process-requires-clause-itself : goal.gather_process-requires-clause-itself
gather_process-requires-clause-itself c = states-at c.args.self.now c.requires.replica c.args.var c.args.var refl c.requires.derived.declared

pub gather_process-requires-clause-first : goal.gather_process-requires-clause-first
gather_process-requires-clause-first c =
    let r = c.args.self.now in
    let i = inputs-known r c.requires.replica c.args.var c.requires.derived c.in-Some.x c.in-Some.y (inputs-from (arc_value r.graph) c.deref.result.now c.from.result c.args.var (kind_of c.at.result.now.kind) c.inputs.result (c.in-Some.x, c.in-Some.y) c.deref.ensures c.from.ensures c.at.ensures.kind c.inputs.ensures c.in-Some.is) in
    states-at r c.requires.replica c.in-Some.x c.in-Some.x refl i.first_earlier.declared

pub gather_process-requires-clause-second : goal.gather_process-requires-clause-second
gather_process-requires-clause-second c =
    let r = c.args.self.now in
    let i = inputs-known r c.requires.replica c.args.var c.requires.derived c.in-Some.x c.in-Some.y (inputs-from (arc_value r.graph) c.deref.result.now c.from.result c.args.var (kind_of c.at.result.now.kind) c.inputs.result (c.in-Some.x, c.in-Some.y) c.deref.ensures c.from.ensures c.at.ensures.kind c.inputs.ensures c.in-Some.is) in
    states-at r c.requires.replica c.in-Some.y c.in-Some.y refl i.second_earlier.declared

pub index_for-requires-clause-itself : goal.index_for-requires-clause-itself
index_for-requires-clause-itself c =
    let r = c.args.self.now in
    subst (λ (hs : List Held). c.args.var < length hs) (sym c.gather_process.ensures) (states-at r c.requires.replica c.args.var c.args.var refl c.requires.derived.declared)

pub index_for-requires-clause-first : goal.index_for-requires-clause-first
index_for-requires-clause-first c =
    let r = c.args.self.now in
    let i = inputs-known r c.requires.replica c.args.var c.requires.derived c.in-Some.x c.in-Some.y (inputs-from (arc_value r.graph) c.deref.result.now c.from.result c.args.var (kind_of c.at.result.now.kind) c.inputs.result (c.in-Some.x, c.in-Some.y) c.deref.ensures c.from.ensures c.at.ensures.kind c.inputs.ensures c.in-Some.is) in
    subst (λ (hs : List Held). c.in-Some.x < length hs) (sym c.gather_process.ensures) (states-at r c.requires.replica c.in-Some.x c.in-Some.x refl i.first_earlier.declared)

pub index_for-requires-clause-second : goal.index_for-requires-clause-second
index_for-requires-clause-second c =
    let r = c.args.self.now in
    let i = inputs-known r c.requires.replica c.args.var c.requires.derived c.in-Some.x c.in-Some.y (inputs-from (arc_value r.graph) c.deref.result.now c.from.result c.args.var (kind_of c.at.result.now.kind) c.inputs.result (c.in-Some.x, c.in-Some.y) c.deref.ensures c.from.ensures c.at.ensures.kind c.inputs.ensures c.in-Some.is) in
    subst (λ (hs : List Held). c.in-Some.y < length hs) (sym c.gather_process.ensures) (states-at r c.requires.replica c.in-Some.y c.in-Some.y refl i.second_earlier.declared)
