use Rattle.std.proofs.Common.{◌≡◌, ◌<◌, ◌+◌, length, refl, ap, ◌∙◌, arith, map, sym}
use Rattle.std.specs.Prelude.{ℕ, Err}
use Rattle.std.proofs.lemmas.List.{length-set, length-map}
use Rattle.model_graph.specs.Evaluation.{first_large}
use Rattle.model_world.specs.World.{shown_at}
use Rattle.model_world.specs.declared.stop.Stop.TheVariants.{TooLarge}
use Rattle.lasp_graph.specs.Library.{library_of}
use Rattle.lasp_drive.specs.Nodes.{calls_of}
use Rattle.lasp_drive.proofs.NodeLaws.{seen-at, seen-set, same-place}
use Rattle.lasp_drive.proofs.PointLaws.{IsSettling, stopped-first, held-in-turn, fits-in-turn, settling-begins, settling-next, settling-stops, settling-called, settling-ends}
use Rattle.lasp_drive.proofs.act.point.settle_all.Goals as goal

pub loop-p-init : goal.loop-p-init
loop-p-init g c = record { within = omega arith; size = refl; place = refl; so_far = settling-begins c.args.c c.args.graph.now (map g.N.Node.view c.args.nodes.now.items) c.requires.nodes_are }

pub settle-requires-clause-held : goal.settle-requires-clause-held
settle-requires-clause-held g c =
    let now = c.loop-p.nodes.items in
    let at = seen-at g.N.Node.view now c.loop-p.p c.index_mut.result.now (omega (arith, c.loop-p-test.true, c.len-p-end.ensures, c.loop-p.invariant.size)) c.index_mut.ensures.value in
    held-in-turn (library_of c.args.lib.now) c.args.c c.loop-p.p c.args.graph.now (map g.N.Node.view c.args.nodes.now.items) (map g.N.Node.view now) (g.N.Node.view c.index_mut.result.now) c.requires c.loop-p.invariant.so_far at

pub settle-requires-clause-fits : goal.settle-requires-clause-fits
settle-requires-clause-fits g c =
    let now = c.loop-p.nodes.items in
    let at = seen-at g.N.Node.view now c.loop-p.p c.index_mut.result.now (omega (arith, c.loop-p-test.true, c.len-p-end.ensures, c.loop-p.invariant.size)) c.index_mut.ensures.value in
    fits-in-turn (library_of c.args.lib.now) c.args.c c.loop-p.p c.args.graph.now (map g.N.Node.view c.args.nodes.now.items) (map g.N.Node.view now) (g.N.Node.view c.index_mut.result.now) c.requires c.loop-p.invariant.so_far at

pub returns-in-Err-TooLarge-clause-settles : goal.returns-in-Err-TooLarge-clause-settles
returns-in-Err-TooLarge-clause-settles g c =
    let now = c.loop-p.nodes.items in
    let n = g.N.Node.view c.index_mut.result.now in
    let within : c.loop-p.p < length now = omega (arith, c.loop-p-test.true, c.len-p-end.ensures, c.loop-p.invariant.size) in
    let at = seen-at g.N.Node.view now c.loop-p.p c.index_mut.result.now within c.index_mut.ensures.value in
    let old = map g.N.Node.view c.args.nodes.now.items in (
      λ run graph. settling-stops c.args.c c.loop-p.p c.args.graph.now old (map g.N.Node.view now) n c.in-Err-TooLarge.x c.loop-p.invariant.so_far at
          (stopped-first (first_large 0 (shown_at n.decls n.peer)) c.in-Err-TooLarge.field-0 c.in-Err-TooLarge.x c.in-Err-TooLarge.field-0-is c.in-Err-TooLarge.ensures.done) run graph
          ∙ ap (λ (x : ℕ). Err (TooLarge c.args.c c.loop-p.p x)) (sym c.in-Err-TooLarge.x-is),
      seen-set g.N.Node.view now c.loop-p.p c.settle.new.self (λ ns. calls_of ns ≡ calls_of old) (settling-called c.args.c c.loop-p.p c.args.graph.now old (map g.N.Node.view now) n (g.N.Node.view c.settle.new.self) c.loop-p.invariant.so_far at c.settle.ensures.grew),
    )

pub returns-in-Err-TooLarge-clause-place : goal.returns-in-Err-TooLarge-clause-place
returns-in-Err-TooLarge-clause-place g c =
    let now = c.loop-p.nodes.items in
    let within : c.loop-p.p < length now = omega (arith, c.loop-p-test.true, c.len-p-end.ensures, c.loop-p.invariant.size) in
    same-place g.N.Node.place now c.loop-p.p c.index_mut.result.now c.settle.new.self within c.index_mut.ensures.value c.settle.ensures.place ∙ c.loop-p.invariant.place

pub returns-in-Err-Memory-clause-settles : goal.returns-in-Err-Memory-clause-settles
returns-in-Err-Memory-clause-settles g c =
    let now = c.loop-p.nodes.items in
    let n = g.N.Node.view c.index_mut.result.now in
    let within : c.loop-p.p < length now = omega (arith, c.loop-p-test.true, c.len-p-end.ensures, c.loop-p.invariant.size) in
    let at = seen-at g.N.Node.view now c.loop-p.p c.index_mut.result.now within c.index_mut.ensures.value in
    let old = map g.N.Node.view c.args.nodes.now.items in (
      λ run graph. tt,
      seen-set g.N.Node.view now c.loop-p.p c.settle.new.self (λ ns. calls_of ns ≡ calls_of old) (settling-called c.args.c c.loop-p.p c.args.graph.now old (map g.N.Node.view now) n (g.N.Node.view c.settle.new.self) c.loop-p.invariant.so_far at c.settle.ensures.grew),
    )

pub returns-in-Err-Memory-clause-place : goal.returns-in-Err-Memory-clause-place
returns-in-Err-Memory-clause-place g c =
    let now = c.loop-p.nodes.items in
    let within : c.loop-p.p < length now = omega (arith, c.loop-p-test.true, c.len-p-end.ensures, c.loop-p.invariant.size) in
    same-place g.N.Node.place now c.loop-p.p c.index_mut.result.now c.settle.new.self within c.index_mut.ensures.value c.settle.ensures.place ∙ c.loop-p.invariant.place

pub loop-p-preserved : goal.loop-p-preserved
loop-p-preserved g c =
    let now = c.loop-p.nodes.items in
    let within : c.loop-p.p < length now = omega (arith, c.loop-p-test.true, c.len-p-end.ensures, c.loop-p.invariant.size) in
    let at = seen-at g.N.Node.view now c.loop-p.p c.index_mut.result.now within c.index_mut.ensures.value in
    let size = length-set now c.loop-p.p c.settle.new.self in
    record {
      within = omega (arith, within, size);
      size = size ∙ c.loop-p.invariant.size;
      place = same-place g.N.Node.place now c.loop-p.p c.index_mut.result.now c.settle.new.self within c.index_mut.ensures.value c.settle.ensures.place ∙ c.loop-p.invariant.place;
      so_far = seen-set g.N.Node.view now c.loop-p.p c.settle.new.self (IsSettling c.args.c (c.loop-p.p + 1) c.args.graph.now (map g.N.Node.view c.args.nodes.now.items))
          (settling-next c.args.c c.loop-p.p c.args.graph.now (map g.N.Node.view c.args.nodes.now.items) (map g.N.Node.view now) (g.N.Node.view c.index_mut.result.now) (g.N.Node.view c.settle.new.self) c.loop-p.invariant.so_far at
          c.settle.ensures.grew c.in-Ok.ensures.settled c.in-Ok.ensures.done);
    }

pub returns-clause-settles : goal.returns-clause-settles
returns-clause-settles g c =
    settling-ends c.args.c c.loop-p.p c.args.graph.now (map g.N.Node.view c.args.nodes.now.items) (map g.N.Node.view c.loop-p.nodes.items)
    (omega (arith, c.loop-p-test.false, c.len-p-end.ensures, c.loop-p.invariant.size, length-map c.loop-p.nodes.items g.N.Node.view)) c.loop-p.invariant.so_far

pub returns-clause-place : goal.returns-clause-place
returns-clause-place g c = c.loop-p.invariant.place
