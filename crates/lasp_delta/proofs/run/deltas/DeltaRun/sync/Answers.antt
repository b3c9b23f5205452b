use Rattle.std.proofs.Common.{length, map, ◌≡◌, ◌∙◌, arith, ap}
use Rattle.std.specs.Prelude.{flat_map}
use Rattle.std.specs.List.{range_with_len}
use Rattle.std.proofs.lemmas.List.{length-map}
use Rattle.std.proofs.lemmas.List.FromFn.{length-range_with_len}
use Rattle.model_world.specs.Lawful.{Stage}
use Rattle.model_world.specs.World.{takes, Post}
use Rattle.lasp_drive.specs.Driver.{run_of, stage_of}
use Rattle.lasp_drive.proofs.ActLaws.{posted-stage}
use Rattle.lasp_delta.specs.Seen.{delta_seen}
use Rattle.lasp_delta.proofs.GoLaws.{halts-before}
use Rattle.lasp_delta.proofs.SyncLaws.{goes-sync}
use Rattle.lasp_delta.proofs.run.deltas.DeltaRun.sync.Goals as goal

pub take_all-requires-clause-under_way : goal.take_all-requires-clause-under_way
take_all-requires-clause-under_way g c = c.in-Ok.ensures.under_way

pub take_all-requires-clause-messages : goal.take_all-requires-clause-messages
take_all-requires-clause-messages g c =
    let many = length c.args.self.now.driver.nodes.items in
    omega (
      arith,
      c.len-first.ensures.exact,
      c.in-Ok.ensures.size,
      length-map c.args.self.now.driver.nodes.items g.N.Node.view,
      length-map c.post_all.new.self.driver.nodes.items g.N.Node.view,
      length-range_with_len 0 many,
      ap (λ (s : Stage). s.sent) (c.in-Ok.ensures.stage ∙ posted-stage (stage_of (delta_seen g.N.Node.view g.N.Node.read c.args.self.now).driver) (range_with_len 0 many)),
    )

pub returns-in-Ok : goal.returns-in-Ok
returns-in-Ok g c =
    let many = length c.args.self.now.driver.nodes.items in
    let size : length c.post_all.new.self.driver.nodes.items ≡ many = omega (arith, c.in-Ok.ensures.size, length-map c.args.self.now.driver.nodes.items g.N.Node.view, length-map c.post_all.new.self.driver.nodes.items g.N.Node.view) in
    goes-sync c.args.c (delta_seen g.N.Node.view g.N.Node.read c.args.self.now) (delta_seen g.N.Node.view g.N.Node.read c.post_all.new.self) (delta_seen g.N.Node.view g.N.Node.read c.take_all.new.self) many (length c.post_all.new.self.driver.nodes.items)
    (length c.args.self.now.driver.network.sent) c.len-first.result c.take_all.result size c.len-first.ensures.exact c.in-Ok.ensures c.take_all.ensures

pub returns-in-Err : goal.returns-in-Err
returns-in-Err g c =
    let many = length c.args.self.now.driver.nodes.items in
    halts-before c.args.c (run_of (delta_seen g.N.Node.view g.N.Node.read c.args.self.now).driver) (map Post (range_with_len 0 many)) (flat_map (takes many (length c.args.self.now.driver.network.sent)) (range_with_len 0 many)) c.in-Err.halt c.in-Err.ensures
