use Rattle.std.proofs.Common.{◌<◌, List, length, refl, sym, subst}
use Rattle.lasp_graph.specs.Kind.{kind_of}
use Rattle.lasp_graph.specs.States.{Held}
use Rattle.lasp_replica.proofs.TakeLaws.{states-at}
use Rattle.lasp_replica.proofs.SettledLaws.{histories-len}
use Rattle.lasp_replica.proofs.InPlaceLaws.{inputs-of-var}
use Rattle.lasp_replica.proofs.replica.Replica.close_inputs.Goals as goal

pub index-requires : goal.index-requires
index-requires c =
    let r = c.args.self.now in
    let i = inputs-of-var r c.requires.replica c.args.var c.requires.derived c.deref.result.now c.from.result (kind_of c.at.result.now.kind) c.inputs.result c.in-Some.x c.in-Some.y c.deref.ensures c.from.ensures c.at.ensures.kind c.inputs.ensures c.in-Some.is in
    histories-len r c.in-Some.x i.first_kept

pub close_at_times-requires : goal.close_at_times-requires
close_at_times-requires c =
    let r = c.args.self.now in
    let i = inputs-of-var r c.requires.replica c.args.var c.requires.derived c.deref.result.now c.from.result (kind_of c.at.result.now.kind) c.inputs.result c.in-Some.x c.in-Some.y c.deref.ensures c.from.ensures c.at.ensures.kind c.inputs.ensures c.in-Some.is in
    states-at r c.requires.replica c.in-Some.x c.in-Some.x refl i.first_earlier.declared

pub index-requires-in-Some : goal.index-requires-in-Some
index-requires-in-Some c =
    let r = c.args.self.now in
    let i = inputs-of-var r c.requires.replica c.args.var c.requires.derived c.deref.result.now c.from.result (kind_of c.at.result.now.kind) c.inputs.result c.in-Some.x c.in-Some.y c.deref.ensures c.from.ensures c.at.ensures.kind c.inputs.ensures c.in-Some.is in
    histories-len r c.in-Some.y i.second_kept

pub close_at_times-requires-in-Some : goal.close_at_times-requires-in-Some
close_at_times-requires-in-Some c =
    let r = c.args.self.now in
    let i = inputs-of-var r c.requires.replica c.args.var c.requires.derived c.deref.result.now c.from.result (kind_of c.at.result.now.kind) c.inputs.result c.in-Some.x c.in-Some.y c.deref.ensures c.from.ensures c.at.ensures.kind c.inputs.ensures c.in-Some.is in
    subst (λ (hs : List Held). c.in-Some.y < length hs) (sym c.close_at_times.ensures) (states-at r c.requires.replica c.in-Some.y c.in-Some.y refl i.second_earlier.declared)
