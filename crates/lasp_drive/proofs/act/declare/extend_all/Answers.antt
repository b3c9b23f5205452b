use Rattle.std.proofs.Common.{◌<◌, ◌+◌, ◌++◌, ◌∷◌, [], length, map, sym, ap, refl, ◌∙◌, arith}
use Rattle.std.specs.Prelude.{List}
use Rattle.std.specs.Arc.{arc_value}
use Rattle.std.proofs.lemmas.List.{length-set, length-map}
use Rattle.model_graph.specs.Graph.{Decl}
use Rattle.model_journal.specs.Entry as model
use Rattle.model_runs.specs.Calls.{fed}
use Rattle.lasp_graph.specs.Decl.{decl_of}
use Rattle.lasp_drive.specs.Calls.{GoesOnWithin}
use Rattle.lasp_drive.proofs.NodeLaws.{seen-at, seen-set, same-place}
use Rattle.lasp_drive.proofs.PointLaws.{on-stop, extending-stops, IsExtending, extending-begins, extending-next, extending-ends}
use Rattle.lasp_drive.proofs.act.declare.extend_all.Goals as goal

pub loop-p-init : goal.loop-p-init
loop-p-init g c = record { within = omega arith; size = refl; place = refl; so_far = extending-begins c.args.before.now (arc_value c.args.graph.now) (decl_of c.args.decl.now) (map g.N.Node.view c.args.nodes.now.items) c.requires.nodes }

pub extend-requires : goal.extend-requires
extend-requires g c =
    let now = c.loop-p.nodes.items in
    let at = seen-at g.N.Node.view now c.loop-p.p c.index_mut.result.now (omega (arith, c.loop-p-test.true, c.len-p-end.ensures, c.loop-p.invariant.size)) c.index_mut.ensures.value in
    let here = c.loop-p.invariant.so_far.behind c.loop-p.p (g.N.Node.view c.index_mut.result.now) at (omega arith) in
    (decl_of c.args.decl.now, c.requires.next ∙ ap (λ (h : List Decl). h ++ decl_of c.args.decl.now ∷ []) (sym here.graph))

pub loop-p-preserved : goal.loop-p-preserved
loop-p-preserved g c =
    let now = c.loop-p.nodes.items in
    let within : c.loop-p.p < length now = omega (arith, c.loop-p-test.true, c.len-p-end.ensures, c.loop-p.invariant.size) in
    let n = g.N.Node.view c.index_mut.result.now in
    let at = seen-at g.N.Node.view now c.loop-p.p c.index_mut.result.now within c.index_mut.ensures.value in
    let here = c.loop-p.invariant.so_far.behind c.loop-p.p n at (omega arith) in
    let size = length-set now c.loop-p.p c.extend.new.self in
    record {
      within = omega (arith, within, size);
      size = size ∙ c.loop-p.invariant.size;
      place = same-place g.N.Node.place now c.loop-p.p c.index_mut.result.now c.extend.new.self within c.index_mut.ensures.value c.extend.ensures.place ∙ c.loop-p.invariant.place;
      so_far = seen-set g.N.Node.view now c.loop-p.p c.extend.new.self (IsExtending (c.loop-p.p + 1) c.args.before.now (arc_value c.args.graph.now) (decl_of c.args.decl.now) (map g.N.Node.view c.args.nodes.now.items))
          (extending-next c.loop-p.p c.args.before.now (arc_value c.args.graph.now) (decl_of c.args.decl.now) (map g.N.Node.view c.args.nodes.now.items) (map g.N.Node.view now) n (g.N.Node.view c.extend.new.self) c.requires.next c.loop-p.invariant.so_far at
          (c.in_ok-extend.ensures.ok (decl_of c.args.decl.now) (c.requires.next ∙ ap (λ (h : List Decl). h ++ decl_of c.args.decl.now ∷ []) (sym here.graph))));
    }

pub returns-clause-all : goal.returns-clause-all
returns-clause-all g c =
    extending-ends c.loop-p.p c.args.before.now (arc_value c.args.graph.now) (decl_of c.args.decl.now) (map g.N.Node.view c.args.nodes.now.items) (map g.N.Node.view c.loop-p.nodes.items)
    (omega (arith, c.loop-p-test.false, c.len-p-end.ensures, c.loop-p.invariant.size, length-map c.loop-p.nodes.items g.N.Node.view)) c.loop-p.invariant.so_far

pub returns-clause-place : goal.returns-clause-place
returns-clause-place g c = c.loop-p.invariant.place

pub returns-in_err-extend-clause-calls : goal.returns-in_err-extend-clause-calls
returns-in_err-extend-clause-calls g c =
    let now = c.loop-p.nodes.items in
    let within : c.loop-p.p < length now = omega (arith, c.loop-p-test.true, c.len-p-end.ensures, c.loop-p.invariant.size) in
    let n = g.N.Node.view c.index_mut.result.now in
    let at = seen-at g.N.Node.view now c.loop-p.p c.index_mut.result.now within c.index_mut.ensures.value in
    on-stop c.from_residual.result
    (seen-set g.N.Node.view now c.loop-p.p c.extend.new.self (λ ns. GoesOnWithin (map g.N.Node.view c.args.nodes.now.items) ns (λ q. fed (model.Extend (decl_of c.args.decl.now)) ∷ []))
    (extending-stops c.loop-p.p c.args.before.now (arc_value c.args.graph.now) (decl_of c.args.decl.now) (map g.N.Node.view c.args.nodes.now.items) (map g.N.Node.view now) n (g.N.Node.view c.extend.new.self) c.loop-p.invariant.so_far at c.in_err-extend.ensures.err))

pub returns-in_err-extend-clause-place : goal.returns-in_err-extend-clause-place
returns-in_err-extend-clause-place g c =
    let now = c.loop-p.nodes.items in
    let within : c.loop-p.p < length now = omega (arith, c.loop-p-test.true, c.len-p-end.ensures, c.loop-p.invariant.size) in
    same-place g.N.Node.place now c.loop-p.p c.index_mut.result.now c.extend.new.self within c.index_mut.ensures.value c.extend.ensures.place ∙ c.loop-p.invariant.place
