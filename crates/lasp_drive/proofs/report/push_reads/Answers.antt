use Rattle.std.proofs.Common.{◌++◌, length, map, refl, arith, ◌∙◌}
use Rattle.std.specs.Prelude.{string_bytes}
use Rattle.std.proofs.lemmas.List.{length-map}
use Rattle.std.proofs.lemmas.Option.{slice_get_read}
use Rattle.model_world.specs.Report.{read_lines}
use Rattle.lasp_drive.specs.Driver.{read_seen, opened_of}
use Rattle.lasp_drive.proofs.NodeLaws.{mapped-at}
use Rattle.lasp_drive.proofs.PointLaws.{learning-begins, learning-then, learned-nodes}
use Rattle.lasp_drive.proofs.ReportLaws.{opened-still, read-next, read-end}
use Rattle.lasp_drive.proofs.report.push_reads.Goals as goal

pub loop-k-init : goal.loop-k-init
loop-k-init g c = record { within = omega arith; place = refl; learn = learning-begins (map g.N.Node.view c.args.nodes.now.items); text = λ run peers each. refl }

pub is_met-requires : goal.is_met-requires
is_met-requires g c =
    opened-still (map g.N.Node.view c.args.nodes.now.items) (map g.N.Node.view c.loop-k.nodes.items) (map (read_seen g.N.Node.read) c.args.reads.now) c.loop-k.invariant.learn c.requires c.loop-k.k (read_seen g.N.Node.read c.index-reads-k.result)
    (mapped-at (read_seen g.N.Node.read) c.args.reads.now c.loop-k.k c.index-reads-k.result (slice_get_read c.args.reads.now (length c.args.reads.now) c.loop-k.k c.index-reads-k.result refl c.loop-k-test.true c.index-reads-k.is))

pub loop-k-preserved : goal.loop-k-preserved
loop-k-preserved g c =
    let old = map g.N.Node.view c.args.nodes.now.items in
    let now = map g.N.Node.view c.loop-k.nodes.items in
    let reads = map (read_seen g.N.Node.read) c.args.reads.now in
    let r = c.index-reads-k.result in
    let at = mapped-at opened_of reads c.loop-k.k (read_seen g.N.Node.read r) (mapped-at (read_seen g.N.Node.read) c.args.reads.now c.loop-k.k r (slice_get_read c.args.reads.now (length c.args.reads.now) c.loop-k.k r refl c.loop-k-test.true c.index-reads-k.is)) in
    record {
      within = omega (arith, c.loop-k-test.true);
      place = c.is_met.ensures.place ∙ c.loop-k.invariant.place;
      learn = learning-then old now (map g.N.Node.view c.is_met.new.nodes.items) c.loop-k.invariant.learn c.is_met.ensures.learn;
      text = λ run peers each.
          read-next c.loop-k.k run (map opened_of reads) (opened_of (read_seen g.N.Node.read r)) c.in_ok-met.met (string_bytes c.loop-k.text) (string_bytes c.push_read.new.text) (string_bytes c.args.text.now ++ read_lines 0 run (map opened_of reads)) at
          (c.in_ok-met.ensures.met run (c.loop-k.invariant.learn.peers ∙ peers) (learned-nodes run.graph (length now) old now c.loop-k.invariant.learn (rw c.loop-k.invariant.learn.size each)))
          c.in_ok-push_read.ensures (c.loop-k.invariant.text run peers each);
    }

pub returns-clause-lines : goal.returns-clause-lines
returns-clause-lines g c run peers each =
    let reads = map (read_seen g.N.Node.read) c.args.reads.now in
    read-end c.loop-k.k run (map opened_of reads) (string_bytes c.loop-k.text) (string_bytes c.args.text.now ++ read_lines 0 run (map opened_of reads))
    (omega (arith, c.loop-k-test.false, length-map reads opened_of, length-map c.args.reads.now (read_seen g.N.Node.read))) (c.loop-k.invariant.text run peers each)

pub returns-clause-learn : goal.returns-clause-learn
returns-clause-learn g c = c.loop-k.invariant.learn

pub returns-clause-place : goal.returns-clause-place
returns-clause-place g c = c.loop-k.invariant.place

pub returns-in_err-met-clause-learn : goal.returns-in_err-met-clause-learn
returns-in_err-met-clause-learn g c =
    learning-then (map g.N.Node.view c.args.nodes.now.items) (map g.N.Node.view c.loop-k.nodes.items) (map g.N.Node.view c.is_met.new.nodes.items) c.loop-k.invariant.learn c.is_met.ensures.learn

pub returns-in_err-met-clause-place : goal.returns-in_err-met-clause-place
returns-in_err-met-clause-place g c = c.is_met.ensures.place ∙ c.loop-k.invariant.place

pub returns-in_err-push_read-clause-learn : goal.returns-in_err-push_read-clause-learn
returns-in_err-push_read-clause-learn g c =
    learning-then (map g.N.Node.view c.args.nodes.now.items) (map g.N.Node.view c.loop-k.nodes.items) (map g.N.Node.view c.is_met.new.nodes.items) c.loop-k.invariant.learn c.is_met.ensures.learn

pub returns-in_err-push_read-clause-place : goal.returns-in_err-push_read-clause-place
returns-in_err-push_read-clause-place g c = c.is_met.ensures.place ∙ c.loop-k.invariant.place
