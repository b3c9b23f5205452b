use Rattle.std.proofs.Common.{◌∷◌, [], sym, subst}
use Rattle.std.specs.Prelude.{length}
use Rattle.std.specs.Arc.{arc_value}
use Rattle.std.proofs.lemmas.List.{length-map}
use Rattle.model_readings.specs.Lawful.{IsGraph}
use Rattle.model_scripts.specs.Progress.{grown}
use Rattle.model_world.specs.World.{Point, Keep, Post, Take}
use Rattle.lasp_graph.specs.Decl.{decl_of}
use Rattle.lasp_script.specs.Command.{command_of}
use Rattle.lasp_script.specs.declared.command.Command.{Command}
use Rattle.lasp_drive.specs.Driver.{seen}
use Rattle.lasp_drive.specs.Acts.{Steps}
use Rattle.lasp_drive.proofs.ActLaws.{acts-later}
use Rattle.lasp_drive.proofs.PlayLaws.{next-last, steps-sync}
use Rattle.lasp_drive.proofs.driver.Driver.step.Goals as goal

pub declare-requires-clause-next : goal.declare-requires-clause-next
declare-requires-clause-next g c =
    next-last (arc_value c.args.self.now.graph) (decl_of c.in-Declare.decl)
    (subst (λ (k : Command). IsGraph (grown (arc_value c.args.self.now.graph) (command_of k ∷ []))) c.in-Declare.is c.requires.graph)

pub returns-in-Mark : goal.returns-in-Mark
returns-in-Mark g c =
    subst (λ (k : Command). Steps g.N.Node.view g.N.Node.read g.N.Node.place c.args.c c.args.self.now (command_of k) c.keep.result c.keep.new.self) (sym c.in-Mark.is)
    (record { acts = acts-later c.args.c (seen g.N.Node.view g.N.Node.read c.args.self.now) (seen g.N.Node.view g.N.Node.read c.keep.new.self) (Keep c.in-Mark.p c.in-Mark.x ∷ []) c.keep.result c.keep.ensures.acts; in_place = c.keep.ensures.in_place })

pub returns-in-Send : goal.returns-in-Send
returns-in-Send g c =
    subst (λ (k : Command). Steps g.N.Node.view g.N.Node.read g.N.Node.place c.args.c c.args.self.now (command_of k) c.post.result c.post.new.self) (sym c.in-Send.is)
    (record { acts = acts-later c.args.c (seen g.N.Node.view g.N.Node.read c.args.self.now) (seen g.N.Node.view g.N.Node.read c.post.new.self) (Post c.in-Send.p ∷ []) c.post.result c.post.ensures.acts; in_place = c.post.ensures.in_place })

pub returns-in-Deliver : goal.returns-in-Deliver
returns-in-Deliver g c =
    subst (λ (k : Command). Steps g.N.Node.view g.N.Node.read g.N.Node.place c.args.c c.args.self.now (command_of k) c.take.result c.take.new.self) (sym c.in-Deliver.is)
    (record { acts = acts-later c.args.c (seen g.N.Node.view g.N.Node.read c.args.self.now) (seen g.N.Node.view g.N.Node.read c.take.new.self) (Take c.in-Deliver.p c.in-Deliver.i ∷ []) c.take.result c.take.ensures.acts; in_place = c.take.ensures.in_place })

pub returns-in-Sync : goal.returns-in-Sync
returns-in-Sync g c =
    subst (λ (k : Command). Steps g.N.Node.view g.N.Node.read g.N.Node.place c.args.c c.args.self.now (command_of k) c.sync.result c.sync.new.self) (sym c.in-Sync.is)
    (record { acts = steps-sync c.args.c (length c.args.self.now.nodes.items) (seen g.N.Node.view g.N.Node.read c.args.self.now) (seen g.N.Node.view g.N.Node.read c.sync.new.self) c.sync.result (length-map c.args.self.now.nodes.items g.N.Node.view) c.sync.ensures.acts; in_place = c.sync.ensures.in_place })

pub returns-in-Settle : goal.returns-in-Settle
returns-in-Settle g c =
    subst (λ (k : Command). Steps g.N.Node.view g.N.Node.read g.N.Node.place c.args.c c.args.self.now (command_of k) c.point.result c.point.new.self) (sym c.in-Settle.is)
    (record { acts = acts-later c.args.c (seen g.N.Node.view g.N.Node.read c.args.self.now) (seen g.N.Node.view g.N.Node.read c.point.new.self) (Point ∷ []) c.point.result c.point.ensures.passes.acts; in_place = c.point.ensures.passes.in_place })
