use Rattle.std.specs.Arc.{arc_value}
use Rattle.model_journal.specs.Clean.{IsClean}
use Rattle.lasp_graph.specs.Kind.{kind_of}
use Rattle.lasp_replica.specs.Reading.{IsStill}
use Rattle.lasp_replica.specs.Replica.{frame_of, entries_of, parts_of}
use Rattle.lasp_replica.proofs.SettledLaws.{histories-len, inputs-at, inputs-known, process-derived, still-clean, still-told, clean-then, clean-else}
use Rattle.lasp_replica.proofs.replica.Replica.are_inputs_still.Goals as goal

pub index-requires : goal.index-requires
index-requires c =
    let r = c.args.self.now in
    histories-len r c.in-Some.first (inputs-known r c.requires.replica c.args.y (process-derived r c.requires.replica c.args.y c.args.process.now c.requires.var) c.in-Some.first c.in-Some.second (inputs-at (arc_value r.graph) c.deref.result.now c.args.y (kind_of c.at.result.now.kind) c.inputs.result (c.in-Some.first, c.in-Some.second) c.deref.ensures c.at.ensures.kind c.inputs.ensures c.in-Some.is)).first_kept

pub index-requires-then-is_still_since : goal.index-requires-then-is_still_since
index-requires-then-is_still_since c =
    let r = c.args.self.now in
    histories-len r c.in-Some.second (inputs-known r c.requires.replica c.args.y (process-derived r c.requires.replica c.args.y c.args.process.now c.requires.var) c.in-Some.first c.in-Some.second (inputs-at (arc_value r.graph) c.deref.result.now c.args.y (kind_of c.at.result.now.kind) c.inputs.result (c.in-Some.first, c.in-Some.second) c.deref.ensures c.at.ensures.kind c.inputs.ensures c.in-Some.is)).second_kept

pub returns-then-is_still_since : goal.returns-then-is_still_since
returns-then-is_still_since c =
    let r = c.args.self.now in
    let i = inputs-known r c.requires.replica c.args.y (process-derived r c.requires.replica c.args.y c.args.process.now c.requires.var) c.in-Some.first c.in-Some.second (inputs-at (arc_value r.graph) c.deref.result.now c.args.y (kind_of c.at.result.now.kind) c.inputs.result (c.in-Some.first, c.in-Some.second) c.deref.ensures c.at.ensures.kind c.inputs.ensures c.in-Some.is) in
    clean-then c.is_still_since.result c.is_still_since-then-is_still_since.result (IsStill (parts_of r) c.args.process.now.n c.in-Some.first) (IsStill (parts_of r) c.args.process.now.n c.in-Some.second) (IsClean (frame_of r) (entries_of r) c.args.y)
    c.if-is_still_since.true
    (still-told r c.in-Some.first c.index.result.now i.first_kept c.index.ensures c.args.process.now.n c.is_still_since.result c.is_still_since.ensures)
    (still-told r c.in-Some.second c.index-then-is_still_since.result.now i.second_kept c.index-then-is_still_since.ensures c.args.process.now.n c.is_still_since-then-is_still_since.result c.is_still_since-then-is_still_since.ensures)
    (still-clean r c.requires.replica c.args.y c.args.process.now c.requires.var c.in-Some.first c.in-Some.second i)

pub returns-else-is_still_since : goal.returns-else-is_still_since
returns-else-is_still_since c =
    let r = c.args.self.now in
    let i = inputs-known r c.requires.replica c.args.y (process-derived r c.requires.replica c.args.y c.args.process.now c.requires.var) c.in-Some.first c.in-Some.second (inputs-at (arc_value r.graph) c.deref.result.now c.args.y (kind_of c.at.result.now.kind) c.inputs.result (c.in-Some.first, c.in-Some.second) c.deref.ensures c.at.ensures.kind c.inputs.ensures c.in-Some.is) in
    clean-else c.is_still_since.result (IsStill (parts_of r) c.args.process.now.n c.in-Some.first) (IsStill (parts_of r) c.args.process.now.n c.in-Some.second) (IsClean (frame_of r) (entries_of r) c.args.y)
    c.if-is_still_since.false
    (still-told r c.in-Some.first c.index.result.now i.first_kept c.index.ensures c.args.process.now.n c.is_still_since.result c.is_still_since.ensures)
    (still-clean r c.requires.replica c.args.y c.args.process.now c.requires.var c.in-Some.first c.in-Some.second i)
