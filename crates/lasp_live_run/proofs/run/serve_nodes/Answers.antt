use Rattle.std.proofs.Common.{◌≡◌, length, sym, ◌∙◌, arith}
use denote.Exit.{no}
use denote.Param.Send.{arg_sync, param_sync}
use Rattle.std.specs.Arc.{arc_value}
use Rattle.lasp_crossing.proofs.Crossing.{crosses}
use Rattle.lasp_drive.proofs.PlayLaws.{graph-so-far}
use Rattle.lasp_crossing.proofs.Values.{owned}
use Rattle.lasp_live_run.proofs.CrossLaws.{Office-sync, mails}
use Rattle.lasp_live_run.proofs.SeatLaws.{ready-all}
use Rattle.lasp_live_run.proofs.run.serve_nodes.Goals as goal

pub seats_of-requires-clause-few : goal.seats_of-requires-clause-few
seats_of-requires-clause-few g c = omega (arith, c.requires.feeds.size, c.requires.unfed.many, c.requires.runnable.limits.nodes)

pub seats_of-requires-clause-ends : goal.seats_of-requires-clause-ends
seats_of-requires-clause-ends g c =
    let many : (arc_value c.args.script.now).nodes ≡ length c.args.stores.now = sym c.requires.unfed.many ∙ c.requires.feeds.size in
    (c.requires.ends.outs_many ∙ many, c.requires.ends.ins_many ∙ many)

pub serve_beside-crew-requires : goal.serve_beside-crew-requires
serve_beside-crew-requires g c κs =
    let graph = arc_value c.args.graph.now in
    let script = arc_value c.args.script.now in
    let runnable = c.requires.runnable in
    let ready =
    ready-all graph script c.args.feeds.items c.args.boxes.now c.args.outs.items c.args.ins.items c.in_ok-seats.seats.items (graph-so-far graph script.commands runnable.graph) runnable.lawful runnable.limits c.requires.live c.requires.small
    c.requires.unfed c.requires.ends c.in_ok-seats.ensures in (
      search (c.type_bounds.send-W, owned) depth 40 fits 4000,
      (
        search (c.type_bounds.sync-R, c.type_bounds.sync-T, c.type_bounds.sync-S, crosses, mails) depth 40 fits 4000,
        (search (c.type_bounds.sync-T) depth 40 fits 4000, (param_sync _ _ (arg_sync _ no _ (Office-sync _ _ c.type_bounds.sync-R)), ready)),
      ),
    )

pub returns-clause-workers : goal.returns-clause-workers
returns-clause-workers g c = c.serve_beside-crew.ensures.workers

pub returns-clause-served : goal.returns-clause-served
returns-clause-served g c = record {
  seats = c.in_ok-seats.seats.items;
  served = c.serve_beside-crew.result.1.items;
  seated = c.in_ok-seats.ensures;
  all = c.serve_beside-crew.ensures.served;
  back = c.in_ok-back_of.ensures;
}
