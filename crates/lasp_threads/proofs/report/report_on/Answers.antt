use Rattle.std.proofs.Common.{◌≡◌, ℕ, map, sym, ◌∙◌, subst, length, arith}
use Rattle.std.specs.Prelude.{List, Result}
use Rattle.std.specs.Arc.{arc_value}
use Rattle.std.proofs.lemmas.List.{length-map}
use Rattle.lasp_graph.specs.Library.{library_of}
use Rattle.lasp_drive.specs.Node.{AreFresh}
use Rattle.lasp_drive.specs.Driver.{seen, Starts}
use Rattle.lasp_drive.specs.Play.{PlaysSeen}
use Rattle.lasp_drive.specs.Run.{Ends}
use Rattle.lasp_drive.specs.declared.halt.Halt.{Halt}
use Rattle.lasp_drive.proofs.PlayLaws.{may-play, runs-to}
use Rattle.lasp_threads.specs.Ran.{HaveEnded, HaveBegun}
use Rattle.lasp_threads.proofs.RanLaws.{ended-asked, ended-begun, stopped-begun}
use Rattle.lasp_threads.proofs.report.report_on.Goals as goal

pub of-fresh-requires-clause-some : goal.of-fresh-requires-clause-some
of-fresh-requires-clause-some g c = omega (arith, c.requires.runnable.lawful.some, c.requires.fresh.size, length-map c.args.nodes.items g.N.Node.view)

pub of-fresh-requires-clause-few : goal.of-fresh-requires-clause-few
of-fresh-requires-clause-few g c = omega (arith, c.requires.runnable.limits.nodes, c.requires.fresh.size, length-map c.args.nodes.items g.N.Node.view)

pub of-fresh-requires-clause-fresh : goal.of-fresh-requires-clause-fresh
of-fresh-requires-clause-fresh g c =
    let size : c.args.script.now.nodes ≡ length c.args.nodes.items = sym c.requires.fresh.size ∙ length-map c.args.nodes.items g.N.Node.view in
    subst (λ (k : ℕ). AreFresh (arc_value c.args.graph) k k (map g.N.Node.view c.args.nodes.items)) size c.requires.fresh

pub run_beside-workers-requires-clause-may : goal.run_beside-workers-requires-clause-may
run_beside-workers-requires-clause-may g c κs within =
    let d = seen g.N.Node.view g.N.Node.read c.of-fresh.result in
    let size : length c.args.nodes.items ≡ c.args.script.now.nodes = sym (length-map c.args.nodes.items g.N.Node.view) ∙ c.requires.fresh.size in
    may-play (library_of c.args.lib.now) (arc_value c.args.graph) c.args.script.now d c.requires.runnable (subst (λ (k : ℕ). Starts (arc_value c.args.graph) k d) size c.of-fresh.ensures.starts)

pub returns-in-Ok-report-clause-ran : goal.returns-in-Ok-report-clause-ran
returns-in-Ok-report-clause-ran g c =
    let graph = arc_value c.args.graph in
    let script = c.args.script.now in
    let d = seen g.N.Node.view g.N.Node.read c.of-fresh.result in
    let last = seen g.N.Node.view g.N.Node.read c.run_beside-workers.result.1 in
    let size : length c.args.nodes.items ≡ script.nodes = sym (length-map c.args.nodes.items g.N.Node.view) ∙ c.requires.fresh.size in
    let begins : Starts graph script.nodes d = subst (λ (k : ℕ). Starts graph k d) size c.of-fresh.ensures.starts in
    let ends : Ends graph script last = runs-to graph script d last begins (subst (λ (r : Result (Unit {0}) Halt). PlaysSeen d script.commands r last) c.in-Ok.is c.run_beside-workers.ensures.plays.played) in
    let ran : HaveEnded graph script (map g.N.Node.view c.into_nodes.result.items) =
    subst (λ (l : List _). HaveEnded graph script (map g.N.Node.view l)) (λ i. (sym c.into_nodes.ensures i).items) (ended-asked graph script last (map g.N.Node.view c.report.new.self.nodes.items) ends c.report.ensures.asked.learn) in
    ran

pub returns-in-Err-report-clause-stopped : goal.returns-in-Err-report-clause-stopped
returns-in-Err-report-clause-stopped g c =
    let graph = arc_value c.args.graph in
    let script = c.args.script.now in
    let d = seen g.N.Node.view g.N.Node.read c.of-fresh.result in
    let last = seen g.N.Node.view g.N.Node.read c.run_beside-workers.result.1 in
    let size : length c.args.nodes.items ≡ script.nodes = sym (length-map c.args.nodes.items g.N.Node.view) ∙ c.requires.fresh.size in
    let begins : Starts graph script.nodes d = subst (λ (k : ℕ). Starts graph k d) size c.of-fresh.ensures.starts in
    let ends : Ends graph script last = runs-to graph script d last begins (subst (λ (r : Result (Unit {0}) Halt). PlaysSeen d script.commands r last) c.in-Ok.is c.run_beside-workers.ensures.plays.played) in
    let ran : HaveEnded graph script (map g.N.Node.view c.into_nodes-in-Err-report.result.items) =
    subst (λ (l : List _). HaveEnded graph script (map g.N.Node.view l)) (λ i. (sym c.into_nodes-in-Err-report.ensures i).items) (ended-asked graph script last (map g.N.Node.view c.report.new.self.nodes.items) ends c.report.ensures.asked.learn) in
    ended-begun graph script (map g.N.Node.view c.into_nodes-in-Err-report.result.items) ran

pub returns-in-Err-clause-stopped : goal.returns-in-Err-clause-stopped
returns-in-Err-clause-stopped g c =
    let graph = arc_value c.args.graph in
    let script = c.args.script.now in
    let d = seen g.N.Node.view g.N.Node.read c.of-fresh.result in
    let last = seen g.N.Node.view g.N.Node.read c.run_beside-workers.result.1 in
    let size : length c.args.nodes.items ≡ script.nodes = sym (length-map c.args.nodes.items g.N.Node.view) ∙ c.requires.fresh.size in
    let begins : Starts graph script.nodes d = subst (λ (k : ℕ). Starts graph k d) size c.of-fresh.ensures.starts in
    subst (λ (l : List _). HaveBegun graph script (map g.N.Node.view l)) (λ i. (sym c.into_nodes-in-Err.ensures i).items)
    (stopped-begun graph script d c.in-Err.halt (map g.N.Node.view c.run_beside-workers.result.1.nodes.items) begins
    (subst (λ (r : Result (Unit {0}) Halt). PlaysSeen d script.commands r last) c.in-Err.is c.run_beside-workers.ensures.plays.played))
