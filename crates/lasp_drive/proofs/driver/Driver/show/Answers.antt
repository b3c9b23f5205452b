use Rattle.model_world.specs.World.{Show}
use Rattle.std.proofs.Common.{rules, ◌≡◌, refl, ◌∷◌, [], ap, ◌∙◌}
use Rattle.std.specs.Prelude.{Some, slice_get, string_bytes}
use Rattle.lasp_graph.specs.Decl.{decl_of}
use Rattle.lasp_state.specs.State.{shown_state}
use Rattle.lasp_drive.specs.Driver.{seen}
use Rattle.lasp_drive.specs.Acts.{Acted, StopsWithin}
use Rattle.lasp_drive.specs.declared.halt.Halt.TheVariants as halt
use Rattle.lasp_drive.proofs.NodeLaws.{seen-at, seen-low, seen-set, same-place, var-here}
use Rattle.lasp_drive.proofs.StepLaws.{with_text, with_nodes, show-done, acted-show, acted-asked}
use Rattle.std.proofs.lemmas.Result.{err_from_is_err_and}
use Rattle.lasp_drive.proofs.ActLaws.{stops-at}
use Rattle.lasp_drive.proofs.driver.Driver.show.Goals as goal

pub state-requires-clause-settled : goal.state-requires-clause-settled
state-requires-clause-settled g c =
    c.requires.lawful.1 c.args.p (g.N.Node.view c.index_mut.result.now) (seen-at g.N.Node.view c.args.self.now.nodes.items c.args.p c.index_mut.result.now (seen-low g.N.Node.view c.args.self.now.nodes.items c.args.p c.requires.lawful.0.0) c.index_mut.ensures.value)

pub state-requires-clause-var : goal.state-requires-clause-var
state-requires-clause-var g c =
    let d = seen g.N.Node.view g.N.Node.read c.args.self.now in
    let n = g.N.Node.view c.index_mut.result.now in
    let at = seen-at g.N.Node.view c.args.self.now.nodes.items c.args.p c.index_mut.result.now (seen-low g.N.Node.view c.args.self.now.nodes.items c.args.p c.requires.lawful.0.0) c.index_mut.ensures.value in
    var-here d.graph c.args.x n (c.requires.ready.nodes c.args.p n at).graph c.requires.lawful.0.1

pub returns : goal.returns
returns g c =
    let d = seen g.N.Node.view g.N.Node.read c.args.self.now in
    let nodes = c.args.self.now.nodes.items in
    let n = g.N.Node.view c.index_mut.result.now in
    let new = c.state.new.self in
    let low = seen-low g.N.Node.view nodes c.args.p c.requires.lawful.0.0 in
    let at = seen-at g.N.Node.view nodes c.args.p c.index_mut.result.now low c.index_mut.ensures.value in
    let there : slice_get d.graph c.args.x ≡ Some (decl_of c.at.result.now) = search rules in
    let named : c.as_str.result.now ≡ c.at.result.now.name = c.as_str.ensures.exact in
    let e = with_text d (string_bytes c.print_line.new.text) in
    record {
      acts = seen-set g.N.Node.view nodes c.args.p new (λ ns. Acted c.args.c c.args.c d (Show c.args.p c.args.x ∷ []) (with_nodes e ns))
          (acted-asked c.args.c c.args.p d e n (g.N.Node.view new) (Show c.args.p c.args.x) at c.state.ensures.learns
          (acted-show c.args.c c.args.p c.args.x d e.text c.requires.ready
          (show-done c.args.c c.args.p c.args.x d n (decl_of c.at.result.now) c.as_str.result.now _ _ c.requires.ready c.requires.lawful.1 at there named (ap shown_state c.deref-2.ensures ∙ c.in_ok-state.ensures.shows.text) c.in_ok-print_line.ensures)));
      reads = refl;
      in_place = same-place g.N.Node.place nodes c.args.p c.index_mut.result.now new low c.index_mut.ensures.value c.state.ensures.place;
    }

pub returns-in_err-state : goal.returns-in_err-state
returns-in_err-state g c =
    let d = seen g.N.Node.view g.N.Node.read c.args.self.now in
    let nodes = c.args.self.now.nodes.items in
    let new = c.state.new.self in
    let low = seen-low g.N.Node.view nodes c.args.p c.requires.lawful.0.0 in
    let at = seen-at g.N.Node.view nodes c.args.p c.index_mut.result.now low c.index_mut.ensures.value in
    let p = err_from_is_err_and c.from_residual.result c.from_residual.ensures.1 in
    rw (p.1, p.2) (record {
      acts = seen-set g.N.Node.view nodes c.args.p new (λ ns. StopsWithin c.args.c d (Show c.args.p c.args.x ∷ []) halt.Memory ns)
          (stops-at c.args.c c.args.p d (Show c.args.p c.args.x) halt.Memory (g.N.Node.view c.index_mut.result.now) (g.N.Node.view new) at c.state.ensures.learns.learns.calls tt);
      reads = tt;
      in_place = same-place g.N.Node.place nodes c.args.p c.index_mut.result.now new low c.index_mut.ensures.value c.state.ensures.place;
    })

pub returns-in_err-print_line : goal.returns-in_err-print_line
returns-in_err-print_line g c =
    let d = seen g.N.Node.view g.N.Node.read c.args.self.now in
    let nodes = c.args.self.now.nodes.items in
    let new = c.state.new.self in
    let low = seen-low g.N.Node.view nodes c.args.p c.requires.lawful.0.0 in
    let at = seen-at g.N.Node.view nodes c.args.p c.index_mut.result.now low c.index_mut.ensures.value in
    let p = err_from_is_err_and c.from_residual-in_err-print_line.result c.from_residual-in_err-print_line.ensures.1 in
    rw (p.1, p.2) (record {
      acts = seen-set g.N.Node.view nodes c.args.p new (λ ns. StopsWithin c.args.c d (Show c.args.p c.args.x ∷ []) halt.Memory ns)
          (stops-at c.args.c c.args.p d (Show c.args.p c.args.x) halt.Memory (g.N.Node.view c.index_mut.result.now) (g.N.Node.view new) at c.state.ensures.learns.learns.calls tt);
      reads = tt;
      in_place = same-place g.N.Node.place nodes c.args.p c.index_mut.result.now new low c.index_mut.ensures.value c.state.ensures.place;
    })
