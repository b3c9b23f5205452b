use Rattle.std.proofs.Common.{◌≡◌, ◌++◌, ◌<◌, length, map, refl, arith, ◌∙◌, subst}
use Rattle.std.specs.Prelude.{List, Some, slice_get, string_bytes}
use Rattle.std.proofs.lemmas.List.{length-map, length-set}
use Rattle.model_world.specs.Report.{known_lines}
use Rattle.model_world.specs.World.{Peer}
use Rattle.lasp_drive.specs.Node.{NodeView}
use Rattle.lasp_drive.specs.Nodes.{peers_of, AllLearn}
use Rattle.lasp_drive.proofs.NodeLaws.{seen-at, seen-set, same-place, mapped-at}
use Rattle.lasp_drive.proofs.PointLaws.{learning-begins, learning-next}
use Rattle.lasp_drive.proofs.ReportLaws.{known-next, known-end}
use Rattle.lasp_drive.proofs.report.push_nodes.Goals as goal

pub loop-p-init : goal.loop-p-init
loop-p-init g c = record { within = omega arith; size = refl; place = refl; learn = learning-begins (map g.N.Node.view c.args.nodes.now.items); text = refl }

pub loop-p-preserved : goal.loop-p-preserved
loop-p-preserved g c =
    let old = map g.N.Node.view c.args.nodes.now.items in
    let now = c.loop-p.nodes.items in
    let n = g.N.Node.view c.index_mut.result.now in
    let within : c.loop-p.p < length now = omega (arith, c.loop-p-test.true, c.len-p-end.ensures, c.loop-p.invariant.size) in
    let at = seen-at g.N.Node.view now c.loop-p.p c.index_mut.result.now within c.index_mut.ensures.value in
    let peer : slice_get (peers_of old) c.loop-p.p ≡ Some n.peer = subst (λ (rs : List Peer). slice_get rs c.loop-p.p ≡ Some n.peer) c.loop-p.invariant.learn.peers (mapped-at (λ (n : NodeView). n.peer) (map g.N.Node.view now) c.loop-p.p n at) in
    let size = length-set now c.loop-p.p c.counts.new.self in
    record {
      within = omega (arith, within, size);
      size = size ∙ c.loop-p.invariant.size;
      place = same-place g.N.Node.place now c.loop-p.p c.index_mut.result.now c.counts.new.self within c.index_mut.ensures.value c.counts.ensures.place ∙ c.loop-p.invariant.place;
      learn = seen-set g.N.Node.view now c.loop-p.p c.counts.new.self (AllLearn old) (learning-next c.loop-p.p old (map g.N.Node.view now) n (g.N.Node.view c.counts.new.self) c.loop-p.invariant.learn at c.counts.ensures.learns);
      text = known-next c.loop-p.p (peers_of old) n.peer c.as_slice.result.now (string_bytes c.loop-p.text) (string_bytes c.push_known.new.text) (string_bytes c.args.text.now ++ known_lines 0 (peers_of old)) peer
          (c.as_slice.ensures ∙ c.in_ok-counts.ensures.counts) c.in_ok-push_known.ensures c.loop-p.invariant.text;
    }

pub returns-clause-lines : goal.returns-clause-lines
returns-clause-lines g c =
    let old = map g.N.Node.view c.args.nodes.now.items in
    known-end c.loop-p.p (peers_of old) (string_bytes c.loop-p.text) (string_bytes c.args.text.now ++ known_lines 0 (peers_of old))
    (omega (arith, c.loop-p-test.false, c.len-p-end.ensures, length-map old (λ (n : NodeView). n.peer), length-map c.args.nodes.now.items g.N.Node.view)) c.loop-p.invariant.text

pub returns-clause-learn : goal.returns-clause-learn
returns-clause-learn g c = c.loop-p.invariant.learn

pub returns-clause-place : goal.returns-clause-place
returns-clause-place g c = c.loop-p.invariant.place

pub returns-in_err-counts-clause-learn : goal.returns-in_err-counts-clause-learn
returns-in_err-counts-clause-learn g c =
    let old = map g.N.Node.view c.args.nodes.now.items in
    let now = c.loop-p.nodes.items in
    let within : c.loop-p.p < length now = omega (arith, c.loop-p-test.true, c.len-p-end.ensures, c.loop-p.invariant.size) in
    let at = seen-at g.N.Node.view now c.loop-p.p c.index_mut.result.now within c.index_mut.ensures.value in
    seen-set g.N.Node.view now c.loop-p.p c.counts.new.self (AllLearn old) (learning-next c.loop-p.p old (map g.N.Node.view now) (g.N.Node.view c.index_mut.result.now) (g.N.Node.view c.counts.new.self) c.loop-p.invariant.learn at c.counts.ensures.learns)

pub returns-in_err-counts-clause-place : goal.returns-in_err-counts-clause-place
returns-in_err-counts-clause-place g c =
    let now = c.loop-p.nodes.items in
    let within : c.loop-p.p < length now = omega (arith, c.loop-p-test.true, c.len-p-end.ensures, c.loop-p.invariant.size) in
    same-place g.N.Node.place now c.loop-p.p c.index_mut.result.now c.counts.new.self within c.index_mut.ensures.value c.counts.ensures.place ∙ c.loop-p.invariant.place

pub returns-in_err-push_known-clause-learn : goal.returns-in_err-push_known-clause-learn
returns-in_err-push_known-clause-learn g c =
    let old = map g.N.Node.view c.args.nodes.now.items in
    let now = c.loop-p.nodes.items in
    let within : c.loop-p.p < length now = omega (arith, c.loop-p-test.true, c.len-p-end.ensures, c.loop-p.invariant.size) in
    let at = seen-at g.N.Node.view now c.loop-p.p c.index_mut.result.now within c.index_mut.ensures.value in
    seen-set g.N.Node.view now c.loop-p.p c.counts.new.self (AllLearn old) (learning-next c.loop-p.p old (map g.N.Node.view now) (g.N.Node.view c.index_mut.result.now) (g.N.Node.view c.counts.new.self) c.loop-p.invariant.learn at c.counts.ensures.learns)

pub returns-in_err-push_known-clause-place : goal.returns-in_err-push_known-clause-place
returns-in_err-push_known-clause-place g c =
    let now = c.loop-p.nodes.items in
    let within : c.loop-p.p < length now = omega (arith, c.loop-p-test.true, c.len-p-end.ensures, c.loop-p.invariant.size) in
    same-place g.N.Node.place now c.loop-p.p c.index_mut.result.now c.counts.new.self within c.index_mut.ensures.value c.counts.ensures.place ∙ c.loop-p.invariant.place
