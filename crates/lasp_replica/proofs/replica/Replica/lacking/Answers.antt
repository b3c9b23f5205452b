use Rattle.std.proofs.Common.{Some, None}
use Rattle.std.specs.Arc.{arc_value}
use Rattle.lasp_graph.specs.Kind.{kind_of}
use Rattle.lasp_replica.proofs.SettledLaws.{histories-len, inputs-none, none-derived, inputs-from, inputs-known, process-at, unclean-derived, still-told, lacks-first, lacks-second}
use Rattle.lasp_replica.proofs.replica.Replica.lacking.Goals as goal
use Rattle.lasp_replica.proofs.replica.Replica.lacking.Goals.{in_default-via-in-Some+in_default, in_default-via-in_default}

pub index-requires-in-Some-Some : goal.index-requires-in-Some-Some
index-requires-in-Some-Some c =
    let r = c.args.self.now in
    let ok = c.requires.replica in
    let d = unclean-derived r ok c.args.y c.requires.unclean in
    let i = inputs-known r ok c.args.y d c.in-Some-Some.first c.in-Some-Some.second
    (inputs-from (arc_value r.graph) c.deref.result.now c.from.result c.args.y (kind_of c.at.result.now.kind) c.inputs.result (c.in-Some-Some.first, c.in-Some-Some.second) c.deref.ensures c.from.ensures c.at.ensures.kind c.inputs.ensures c.in-Some-Some.is-1) in
    histories-len r c.in-Some-Some.first i.first_kept

pub version_of-requires : goal.version_of-requires
version_of-requires c =
    let r = c.args.self.now in
    let ok = c.requires.replica in
    let d = unclean-derived r ok c.args.y c.requires.unclean in
    let i = inputs-known r ok c.args.y d c.in-Some-Some.first c.in-Some-Some.second
    (inputs-from (arc_value r.graph) c.deref.result.now c.from.result c.args.y (kind_of c.at.result.now.kind) c.inputs.result (c.in-Some-Some.first, c.in-Some-Some.second) c.deref.ensures c.from.ensures c.at.ensures.kind c.inputs.ensures c.in-Some-Some.is-1) in
    i.second_kept

pub version_of-requires-else-is_still_since : goal.version_of-requires-else-is_still_since
version_of-requires-else-is_still_since c =
    let r = c.args.self.now in
    let ok = c.requires.replica in
    let d = unclean-derived r ok c.args.y c.requires.unclean in
    let i = inputs-known r ok c.args.y d c.in-Some-Some.first c.in-Some-Some.second
    (inputs-from (arc_value r.graph) c.deref.result.now c.from.result c.args.y (kind_of c.at.result.now.kind) c.inputs.result (c.in-Some-Some.first, c.in-Some-Some.second) c.deref.ensures c.from.ensures c.at.ensures.kind c.inputs.ensures c.in-Some-Some.is-1) in
    i.first_kept

pub unreachable-requires : goal.unreachable-requires
unreachable-requires c =
    let r = c.args.self.now in
    let ok = c.requires.replica in
    let d = unclean-derived r ok c.args.y c.requires.unclean in
    elim c.in_default.branch [
      | in_default-via-in-Some+in_default w ↦ inputs-none r c.args.y d c.deref.result.now c.from.result (kind_of c.at.result.now.kind) c.inputs.result c.deref.ensures c.from.ensures c.at.ensures.kind c.inputs.ensures w.in_default.is-1
      | in_default-via-in_default w ↦ none-derived r ok c.args.y (process-at r ok c.args.y c.index.result.now None d.declared c.index.ensures w.in_default.is-0) d
    ]

pub returns-then-is_still_since : goal.returns-then-is_still_since
returns-then-is_still_since c =
    let r = c.args.self.now in
    let ok = c.requires.replica in
    let d = unclean-derived r ok c.args.y c.requires.unclean in
    let i = inputs-known r ok c.args.y d c.in-Some-Some.first c.in-Some-Some.second
    (inputs-from (arc_value r.graph) c.deref.result.now c.from.result c.args.y (kind_of c.at.result.now.kind) c.inputs.result (c.in-Some-Some.first, c.in-Some-Some.second) c.deref.ensures c.from.ensures c.at.ensures.kind c.inputs.ensures c.in-Some-Some.is-1) in
    let found = process-at r ok c.args.y c.index.result.now (Some c.in-Some-Some.process) d.declared c.index.ensures c.in-Some-Some.is-0 in
    lacks-second r ok c.args.y c.in-Some-Some.process found c.in-Some-Some.first c.in-Some-Some.second i c.version_of.result c.version_of.ensures.names c.version_of.ensures.applied c.version_of.ensures.present
    c.is_still_since.result c.if-is_still_since.true (still-told r c.in-Some-Some.first c.index-in-Some-Some.result.now i.first_kept c.index-in-Some-Some.ensures c.in-Some-Some.process.n c.is_still_since.result c.is_still_since.ensures) c.requires.unclean

pub returns-else-is_still_since : goal.returns-else-is_still_since
returns-else-is_still_since c =
    let r = c.args.self.now in
    let ok = c.requires.replica in
    let d = unclean-derived r ok c.args.y c.requires.unclean in
    let i = inputs-known r ok c.args.y d c.in-Some-Some.first c.in-Some-Some.second
    (inputs-from (arc_value r.graph) c.deref.result.now c.from.result c.args.y (kind_of c.at.result.now.kind) c.inputs.result (c.in-Some-Some.first, c.in-Some-Some.second) c.deref.ensures c.from.ensures c.at.ensures.kind c.inputs.ensures c.in-Some-Some.is-1) in
    let found = process-at r ok c.args.y c.index.result.now (Some c.in-Some-Some.process) d.declared c.index.ensures c.in-Some-Some.is-0 in
    lacks-first r ok c.args.y c.in-Some-Some.process found c.in-Some-Some.first c.in-Some-Some.second i c.version_of-else-is_still_since.result c.version_of-else-is_still_since.ensures.names c.version_of-else-is_still_since.ensures.applied c.version_of-else-is_still_since.ensures.present
    c.is_still_since.result c.if-is_still_since.false (still-told r c.in-Some-Some.first c.index-in-Some-Some.result.now i.first_kept c.index-in-Some-Some.ensures c.in-Some-Some.process.n c.is_still_since.result c.is_still_since.ensures)
