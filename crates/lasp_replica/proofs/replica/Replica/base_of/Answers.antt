use Rattle.std.proofs.Common.{Option, subst}
use Rattle.std.specs.Arc.{arc_value}
use Rattle.model_graph.specs.Graph.{kind_at}
use Rattle.lasp_replica.specs.Parts.{IsBaseAt}
use Rattle.lasp_replica.specs.declared.process.Process.{Process}
use Rattle.lasp_replica.specs.Replica.{frame_of, entries_of, seen_process}
use Rattle.lasp_replica.proofs.FinishLaws.{base-read, no-base}
use Rattle.lasp_replica.proofs.replica.Replica.base_of.Goals as goal

pub returns-in-None : goal.returns-in-None
returns-in-None c =
    let r = c.args.self.now in
    let y = c.args.var in
    absurd (no-base r c.requires.replica y c.requires.derived
    (subst (λ (o : Option Process). IsBaseAt (frame_of r) (entries_of r) (kind_at (arc_value r.graph) y) y (seen_process o)) c.in-None.is
    (base-read r c.requires.replica y c.requires.derived c.index.result.now c.index.result.now c.index.ensures)))

pub returns-in-Some : goal.returns-in-Some
returns-in-Some c =
    let r = c.args.self.now in
    let y = c.args.var in
    (subst (λ (o : Option Process). IsBaseAt (frame_of r) (entries_of r) (kind_at (arc_value r.graph) y) y (seen_process o)) c.in-Some.is
    (base-read r c.requires.replica y c.requires.derived c.index.result.now c.index.result.now c.index.ensures)).1
