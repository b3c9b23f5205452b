use Rattle.std.proofs.Common.{rules, ◌≡◌, ◌++◌, length, map, refl, sym, ap, subst, ◌∙◌}
use Rattle.std.specs.Prelude.{ℕ, List, string_bytes}
use Rattle.model_world.specs.Report.{known_lines, read_lines}
use Rattle.lasp_drive.specs.Driver.{read_seen, seen, opened_of, run_of}
use Rattle.lasp_drive.specs.Report.{AreOpened}
use Rattle.lasp_drive.specs.declared.driver.OpenRead.{OpenRead}
use Rattle.lasp_drive.proofs.PointLaws.{learning-begins, learning-then, learned-nodes}
use Rattle.lasp_drive.proofs.StepLaws.{opened-ready, stands-asked}
use Rattle.lasp_drive.proofs.ReportLaws.{opened-still, asked-run}
use Rattle.lasp_drive.proofs.driver.Driver.report.Goals as goal

pub push_reads-requires : goal.push_reads-requires
push_reads-requires g c =
    let d = seen g.N.Node.view g.N.Node.read c.args.self.now in
    let now = map g.N.Node.view c.push_nodes.new.nodes.items in
    let reads : c.deref.result.now ≡ c.args.self.now.reads.items = search rules in
    subst (λ (rs : List (OpenRead g.row.N-Read.Denot)). AreOpened now (map (read_seen g.N.Node.read) rs)) (sym reads)
    (opened-still d.nodes now d.reads c.push_nodes.ensures.learn (opened-ready c.requires.ready.0 d c.requires.ready.1 c.requires.settled))

pub returns-clause-text : goal.returns-clause-text
returns-clause-text g c =
    let d = seen g.N.Node.view g.N.Node.read c.args.self.now in
    let run = run_of d in
    let now = map g.N.Node.view c.push_nodes.new.nodes.items in
    let reads : c.deref.result.now ≡ c.args.self.now.reads.items = search rules in
    let bytes : c.into_bytes.result.items ≡ string_bytes c.push_reads.new.text = search rules in
    let copied : string_bytes c.in_ok-text.text ≡ d.text = search rules in
    let known : string_bytes c.push_nodes.new.text ≡ d.text ++ known_lines 0 run.peers = c.in_ok-push_nodes.ensures.lines ∙ ap (λ (text : List ℕ). text ++ known_lines 0 run.peers) copied in
    let all : string_bytes c.push_reads.new.text ≡ string_bytes c.push_nodes.new.text ++ read_lines 0 run run.reads =
    c.in_ok-push_reads.ensures.lines run c.push_nodes.ensures.learn.peers (rw c.push_nodes.ensures.learn.size (learned-nodes d.graph (length d.nodes) d.nodes now c.push_nodes.ensures.learn c.requires.ready.1.nodes))
    ∙ ap (λ (rs : List (OpenRead g.row.N-Read.Denot)). string_bytes c.push_nodes.new.text ++ read_lines 0 run (map opened_of (map (read_seen g.N.Node.read) rs))) reads in
    bytes ∙ all ∙ ap (λ (text : List ℕ). text ++ read_lines 0 run run.reads) known

pub returns-clause-asked : goal.returns-clause-asked
returns-clause-asked g c =
    let d = seen g.N.Node.view g.N.Node.read c.args.self.now in
    let new = map g.N.Node.view c.push_reads.new.nodes.items in
    let learn = learning-then d.nodes (map g.N.Node.view c.push_nodes.new.nodes.items) new c.push_nodes.ensures.learn c.push_reads.ensures.learn in
    record { learn = learn; in_place = c.push_reads.ensures.place ∙ c.push_nodes.ensures.place; run = asked-run d new learn; ready = λ k ready. stands-asked k d new ready learn }

pub returns-in_err-text-clause-asked : goal.returns-in_err-text-clause-asked
returns-in_err-text-clause-asked g c = record { learn = learning-begins (map g.N.Node.view c.args.self.now.nodes.items); in_place = refl; run = refl; ready = λ k ready. ready }

pub returns-in_err-push_nodes-clause-asked : goal.returns-in_err-push_nodes-clause-asked
returns-in_err-push_nodes-clause-asked g c =
    let d = seen g.N.Node.view g.N.Node.read c.args.self.now in
    let new = map g.N.Node.view c.push_nodes.new.nodes.items in
    record { learn = c.push_nodes.ensures.learn; in_place = c.push_nodes.ensures.place; run = asked-run d new c.push_nodes.ensures.learn; ready = λ k ready. stands-asked k d new ready c.push_nodes.ensures.learn }

pub returns-in_err-push_reads-clause-asked : goal.returns-in_err-push_reads-clause-asked
returns-in_err-push_reads-clause-asked g c =
    let d = seen g.N.Node.view g.N.Node.read c.args.self.now in
    let new = map g.N.Node.view c.push_reads.new.nodes.items in
    let learn = learning-then d.nodes (map g.N.Node.view c.push_nodes.new.nodes.items) new c.push_nodes.ensures.learn c.push_reads.ensures.learn in
    record { learn = learn; in_place = c.push_reads.ensures.place ∙ c.push_nodes.ensures.place; run = asked-run d new learn; ready = λ k ready. stands-asked k d new ready learn }
