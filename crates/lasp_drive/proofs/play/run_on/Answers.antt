use Rattle.std.proofs.Common.{subst}
use Rattle.std.specs.Prelude.{ℕ, Result}
use Rattle.std.specs.Arc.{arc_value}
use Rattle.lasp_graph.specs.Library.{library_of}
use Rattle.lasp_drive.specs.Driver.{seen, Starts}
use Rattle.lasp_drive.specs.Play.{PlaysSeen}
use Rattle.lasp_drive.specs.declared.halt.Halt.{Halt}
use Rattle.lasp_drive.proofs.PlayLaws.{may-play, runs-to, runs-halt}
use Rattle.lasp_drive.proofs.play.run_on.Goals as goal

pub run_through-driver-requires : goal.run_through-driver-requires
run_through-driver-requires g c =
    let graph = arc_value c.args.graph.now in
    let d = seen g.N.Node.view g.N.Node.read c.in_ok-fresh.fresh in
    may-play (library_of c.args.lib.now) graph c.args.script.now d c.requires (subst (λ (k : ℕ). Starts graph k d) c.nodes.ensures c.in_ok-fresh.ensures)

pub returns-in-Ok : goal.returns-in-Ok
returns-in-Ok g c =
    let graph = arc_value c.args.graph.now in
    let d = seen g.N.Node.view g.N.Node.read c.in_ok-fresh.fresh in
    let last = seen g.N.Node.view g.N.Node.read c.run_through-driver.result.0 in
    runs-to graph c.args.script.now d last (subst (λ (k : ℕ). Starts graph k d) c.nodes.ensures c.in_ok-fresh.ensures)
    (subst (λ (r : Result (Unit {0}) Halt). PlaysSeen d c.args.script.now.commands r last) c.in-Ok.is c.run_through-driver.ensures.plays.played)

pub returns-in-Err : goal.returns-in-Err
returns-in-Err g c =
    let graph = arc_value c.args.graph.now in
    let d = seen g.N.Node.view g.N.Node.read c.in_ok-fresh.fresh in
    let last = seen g.N.Node.view g.N.Node.read c.run_through-driver.result.0 in
    runs-halt graph c.args.script.now d c.in-Err.halt (subst (λ (k : ℕ). Starts graph k d) c.nodes.ensures c.in_ok-fresh.ensures)
    (subst (λ (r : Result (Unit {0}) Halt). PlaysSeen d c.args.script.now.commands r last) c.in-Err.is c.run_through-driver.ensures.plays.played).halts
