use Rattle.std.proofs.Common.{length, map, ◌≡◌, ◌∙◌, arith, ap}
use Rattle.std.specs.Prelude.{flat_map}
use Rattle.std.specs.List.{range_with_len}
use Rattle.std.proofs.lemmas.List.{length-map}
use Rattle.std.proofs.lemmas.List.FromFn.{length-range_with_len}
use Rattle.model_world.specs.Lawful.{Stage}
use Rattle.model_world.specs.World.{takes, Post}
use Rattle.lasp_drive.specs.Driver.{seen, stage_of}
use Rattle.lasp_drive.proofs.ActLaws.{stops-before, acts-sync, posted-stage, ok-then}
use Rattle.lasp_drive.proofs.driver.Driver.sync.Goals as goal

pub take_all-requires-clause-messages : goal.take_all-requires-clause-messages
take_all-requires-clause-messages g c =
    let many = length c.args.self.now.nodes.items in
    omega (
      arith,
      c.len-first.ensures.exact,
      c.in-Ok.ensures.acts.size,
      length-map c.args.self.now.nodes.items g.N.Node.view,
      length-map c.post_all.new.self.nodes.items g.N.Node.view,
      length-range_with_len 0 many,
      ap (λ (s : Stage). s.sent) (c.in-Ok.ensures.acts.stage ∙ posted-stage (stage_of (seen g.N.Node.view g.N.Node.read c.args.self.now)) (range_with_len 0 many)),
    )

pub returns-in-Ok : goal.returns-in-Ok
returns-in-Ok g c =
    let many = length c.args.self.now.nodes.items in
    let size : length c.post_all.new.self.nodes.items ≡ many = omega (arith, c.in-Ok.ensures.acts.size, length-map c.args.self.now.nodes.items g.N.Node.view, length-map c.post_all.new.self.nodes.items g.N.Node.view) in
    record {
      acts = acts-sync c.args.c (seen g.N.Node.view g.N.Node.read c.args.self.now) (seen g.N.Node.view g.N.Node.read c.post_all.new.self) (seen g.N.Node.view g.N.Node.read c.take_all.new.self) many (length c.post_all.new.self.nodes.items) (length c.args.self.now.network.sent) c.len-first.result c.take_all.result
          size c.len-first.ensures.exact c.in-Ok.ensures.acts c.take_all.ensures.acts;
      reads = ok-then c.take_all.result c.args.self.now.reads c.post_all.new.self.reads c.take_all.new.self.reads c.in-Ok.ensures.reads c.take_all.ensures.reads;
      in_place = c.take_all.ensures.in_place ∙ c.in-Ok.ensures.in_place;
    }

pub returns-in-Err : goal.returns-in-Err
returns-in-Err g c =
    let many = length c.args.self.now.nodes.items in
    record {
      acts = stops-before c.args.c (seen g.N.Node.view g.N.Node.read c.args.self.now) (map Post (range_with_len 0 many)) (flat_map (takes many (length c.args.self.now.network.sent)) (range_with_len 0 many)) c.in-Err.halt (map g.N.Node.view c.post_all.new.self.nodes.items) c.in-Err.ensures.acts;
      reads = tt;
      in_place = c.in-Err.ensures.in_place;
    }
