use Rattle.std.proofs.Common.{◌++◌, ◌∷◌, [], refl, sym, subst, map, ◌∙◌}
use Rattle.std.specs.Arc.{arc_value}
use Rattle.std.specs.Prelude.{List, IsTrue, slice_set}
use Rattle.model_graph.specs.Graph.{Decl, is_source, kind_at}
use Rattle.model_world.specs.World.{Keep}
use Rattle.lasp_state.specs.declared.state.State.{State}
use Rattle.lasp_drive.specs.Node.{Holds}
use Rattle.lasp_drive.specs.Driver.{seen}
use Rattle.lasp_drive.specs.Acts.{Acted, StopsWithin}
use Rattle.lasp_drive.specs.declared.driver.Mark.{Mark}
use Rattle.lasp_drive.specs.declared.halt.Halt.TheVariants as halt
use Rattle.lasp_drive.proofs.NodeLaws.{seen-at, seen-low, seen-set, same-place, var-here}
use Rattle.lasp_drive.proofs.StepLaws.{with_marks, with_nodes, acted-keep, acted-asked, keep-held}
use Rattle.std.proofs.lemmas.Result.{err_from_is_err_and}
use Rattle.lasp_drive.proofs.ActLaws.{stops-at}
use Rattle.lasp_drive.proofs.driver.Driver.keep.Goals as goal

pub source-requires-clause-var : goal.source-requires-clause-var
source-requires-clause-var g c =
    let d = seen g.N.Node.view g.N.Node.read c.args.self.now in
    let n = g.N.Node.view c.index_mut.result.now in
    let at = seen-at g.N.Node.view c.args.self.now.nodes.items c.args.p c.index_mut.result.now (seen-low g.N.Node.view c.args.self.now.nodes.items c.args.p c.requires.lawful.0.0) c.index_mut.ensures.value in
    var-here d.graph c.args.x n (c.requires.ready.nodes c.args.p n at).graph c.requires.lawful.0.1

pub source-requires-clause-source : goal.source-requires-clause-source
source-requires-clause-source g c =
    let n = g.N.Node.view c.index_mut.result.now in
    let at = seen-at g.N.Node.view c.args.self.now.nodes.items c.args.p c.index_mut.result.now (seen-low g.N.Node.view c.args.self.now.nodes.items c.args.p c.requires.lawful.0.0) c.index_mut.ensures.value in
    subst (λ (h : List Decl). IsTrue (is_source (kind_at h c.args.x))) (sym (c.requires.ready.nodes c.args.p n at).graph) c.requires.lawful.1

pub returns : goal.returns
returns g c =
    let d = seen g.N.Node.view g.N.Node.read c.args.self.now in
    let nodes = c.args.self.now.nodes.items in
    let n = g.N.Node.view c.index_mut.result.now in
    let low = seen-low g.N.Node.view nodes c.args.p c.requires.lawful.0.0 in
    let at = seen-at g.N.Node.view nodes c.args.p c.index_mut.result.now low c.index_mut.ensures.value in
    let new = c.source.new.self in
    let mark : Mark = record { var = c.args.x; state = c.in_ok-state.state; known = c.in_ok-known.known } in
    let k = g.N.Node.view c.index.result.now in
    let here = seen-at g.N.Node.view nodes c.args.p c.index.result.now low c.index.ensures in
    let e = with_marks d (d.marks ++ mark ∷ []) in
    let holds : Holds n c.args.x (arc_value c.in_ok-state.state) = subst (λ (s : State). Holds n c.args.x s) (sym (c.in_ok-state.ensures ∙ c.deref.ensures)) c.in_ok-source.ensures.holds in
    record {
      acts = subst (λ (marks : List Mark). Acted c.args.c c.args.c d (Keep c.args.p c.args.x ∷ []) (with_nodes (with_marks d marks) (map g.N.Node.view (slice_set nodes c.args.p new)))) (sym c.in_ok-push.ensures.items)
          (seen-set g.N.Node.view nodes c.args.p new (λ ns. Acted c.args.c c.args.c d (Keep c.args.p c.args.x ∷ []) (with_nodes e ns))
          (acted-asked c.args.c c.args.p d e n (g.N.Node.view new) (Keep c.args.p c.args.x) at c.source.ensures.learns
          (acted-keep c.args.c c.args.p c.args.x d n mark c.requires.ready c.requires.lawful at refl holds.shape holds.content
          (keep-held c.args.c c.args.p c.args.x d n k mark c.requires.ready c.requires.lawful c.recall.ensures here at refl holds.content c.in_ok-known.ensures.items))));
      reads = refl;
      in_place = same-place g.N.Node.place nodes c.args.p c.index_mut.result.now new low c.index_mut.ensures.value c.source.ensures.place;
    }

pub returns-in_err-source : goal.returns-in_err-source
returns-in_err-source g c =
    let d = seen g.N.Node.view g.N.Node.read c.args.self.now in
    let nodes = c.args.self.now.nodes.items in
    let low = seen-low g.N.Node.view nodes c.args.p c.requires.lawful.0.0 in
    let at = seen-at g.N.Node.view nodes c.args.p c.index_mut.result.now low c.index_mut.ensures.value in
    let p = err_from_is_err_and c.from_residual.result c.from_residual.ensures.1 in
    rw (p.1, p.2) (record {
      acts = seen-set g.N.Node.view nodes c.args.p c.source.new.self (λ ns. StopsWithin c.args.c d (Keep c.args.p c.args.x ∷ []) halt.Memory ns)
          (stops-at c.args.c c.args.p d (Keep c.args.p c.args.x) halt.Memory (g.N.Node.view c.index_mut.result.now) (g.N.Node.view c.source.new.self) at c.source.ensures.learns.learns.calls tt);
      reads = tt;
      in_place = same-place g.N.Node.place nodes c.args.p c.index_mut.result.now c.source.new.self low c.index_mut.ensures.value c.source.ensures.place;
    })

pub returns-in_err-state : goal.returns-in_err-state
returns-in_err-state g c =
    let d = seen g.N.Node.view g.N.Node.read c.args.self.now in
    let nodes = c.args.self.now.nodes.items in
    let low = seen-low g.N.Node.view nodes c.args.p c.requires.lawful.0.0 in
    let at = seen-at g.N.Node.view nodes c.args.p c.index_mut.result.now low c.index_mut.ensures.value in
    let p = err_from_is_err_and c.from_residual-in_err-state.result c.from_residual-in_err-state.ensures.1 in
    rw (p.1, p.2) (record {
      acts = seen-set g.N.Node.view nodes c.args.p c.source.new.self (λ ns. StopsWithin c.args.c d (Keep c.args.p c.args.x ∷ []) halt.Memory ns)
          (stops-at c.args.c c.args.p d (Keep c.args.p c.args.x) halt.Memory (g.N.Node.view c.index_mut.result.now) (g.N.Node.view c.source.new.self) at c.source.ensures.learns.learns.calls tt);
      reads = tt;
      in_place = same-place g.N.Node.place nodes c.args.p c.index_mut.result.now c.source.new.self low c.index_mut.ensures.value c.source.ensures.place;
    })

pub returns-in_err-known : goal.returns-in_err-known
returns-in_err-known g c =
    let d = seen g.N.Node.view g.N.Node.read c.args.self.now in
    let nodes = c.args.self.now.nodes.items in
    let low = seen-low g.N.Node.view nodes c.args.p c.requires.lawful.0.0 in
    let at = seen-at g.N.Node.view nodes c.args.p c.index_mut.result.now low c.index_mut.ensures.value in
    let p = err_from_is_err_and c.from_residual-in_err-known.result c.from_residual-in_err-known.ensures.1 in
    rw (p.1, p.2) (record {
      acts = seen-set g.N.Node.view nodes c.args.p c.source.new.self (λ ns. StopsWithin c.args.c d (Keep c.args.p c.args.x ∷ []) halt.Memory ns)
          (stops-at c.args.c c.args.p d (Keep c.args.p c.args.x) halt.Memory (g.N.Node.view c.index_mut.result.now) (g.N.Node.view c.source.new.self) at c.source.ensures.learns.learns.calls tt);
      reads = tt;
      in_place = same-place g.N.Node.place nodes c.args.p c.index_mut.result.now c.source.new.self low c.index_mut.ensures.value c.source.ensures.place;
    })

pub returns-in_err-push : goal.returns-in_err-push
returns-in_err-push g c =
    let d = seen g.N.Node.view g.N.Node.read c.args.self.now in
    let nodes = c.args.self.now.nodes.items in
    let low = seen-low g.N.Node.view nodes c.args.p c.requires.lawful.0.0 in
    let at = seen-at g.N.Node.view nodes c.args.p c.index_mut.result.now low c.index_mut.ensures.value in
    let p = err_from_is_err_and c.from_residual-in_err-push.result c.from_residual-in_err-push.ensures.1 in
    rw (p.1, p.2) (record {
      acts = seen-set g.N.Node.view nodes c.args.p c.source.new.self (λ ns. StopsWithin c.args.c d (Keep c.args.p c.args.x ∷ []) halt.Memory ns)
          (stops-at c.args.c c.args.p d (Keep c.args.p c.args.x) halt.Memory (g.N.Node.view c.index_mut.result.now) (g.N.Node.view c.source.new.self) at c.source.ensures.learns.learns.calls tt);
      reads = tt;
      in_place = same-place g.N.Node.place nodes c.args.p c.index_mut.result.now c.source.new.self low c.index_mut.ensures.value c.source.ensures.place;
    })
