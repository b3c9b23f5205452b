use Rattle.std.proofs.Common.{◌≡◌, ◌+◌, ◌∷◌, [], ℕ, List, length, map, Some, slice_get, refl, sym, ap, subst, ◌∙◌, arith}
use Rattle.std.specs.List.{Contains}
use Rattle.std.specs.Arc.{arc_value}
use Rattle.std.proofs.lemmas.List.{length-map}
use Rattle.std.proofs.lemmas.Option.{slice_get_read}
use Rattle.std.proofs.lemmas.Result.{err_from_is_err_and}
use Rattle.model_states.specs.Update.{Op, Join}
use Rattle.model_world.specs.Command as plain
use Rattle.model_world.specs.World.{Marked, Update, acts, mark_at, no_mark}
use Rattle.lasp_state.specs.State.{content_of, shape_of, op_of}
use Rattle.lasp_state.specs.declared.state.State.{State}
use Rattle.lasp_state.specs.declared.op.Op.TheVariants as rust_op
use Rattle.lasp_drive.specs.Node.{ShowsNoMore}
use Rattle.lasp_drive.specs.Marks.{marked_of}
use Rattle.lasp_drive.specs.Driver.{seen, run_of}
use Rattle.lasp_drive.specs.Acts.{Acted}
use Rattle.lasp_drive.specs.declared.driver.Mark.{Mark}
use Rattle.lasp_drive.proofs.NodeLaws.{mapped-or, seen-at, seen-low}
use Rattle.lasp_drive.proofs.MarkLaws.{mark-var, found-contained}
use Rattle.lasp_drive.proofs.ActLaws.{stops-early}
use Rattle.lasp_drive.proofs.StepLaws.{with_marks, same-node, mark-suits, mark-may, mark-idle, acted-bound}
use Rattle.lasp_drive.proofs.driver.Driver.bind.Goals as goal

pub returns-in_err-state : goal.returns-in_err-state
returns-in_err-state g c =
    let p = err_from_is_err_and c.from_residual.result c.from_residual.ensures.1 in
    rw (p.1, p.2) (record { acts = stops-early c.args.c (seen g.N.Node.view g.N.Node.read c.args.self.now) (acts (run_of (seen g.N.Node.view g.N.Node.read c.args.self.now)) (plain.Bind c.args.p c.args.x c.args.mark)); in_place = refl })

pub update_with-requires-clause-suits : goal.update_with-requires-clause-suits
update_with-requires-clause-suits g c =
    let d = seen g.N.Node.view g.N.Node.read c.args.self.now in
    let m = c.index-marked.result.now in
    let there : slice_get d.marks c.args.mark ≡ Some m = slice_get_read d.marks (length d.marks) c.args.mark m refl (omega (arith, c.requires.lawful.2.0, length-map d.marks (λ (m : Mark). m.var))) c.index-marked.ensures in
    let suits = mark-suits c.args.c c.args.p c.args.x c.args.mark d m c.requires.ready c.requires.lawful there in
    (ap shape_of c.in_ok-state.ensures ∙ suits.0, suits.1)

pub update_with-requires-clause-known : goal.update_with-requires-clause-known
update_with-requires-clause-known g c is_held n at =
    let d = seen g.N.Node.view g.N.Node.read c.args.self.now in
    let nodes = c.args.self.now.nodes.items in
    let m = c.index-marked.result.now in
    let there : slice_get d.marks c.args.mark ≡ Some m = slice_get_read d.marks (length d.marks) c.args.mark m refl (omega (arith, c.requires.lawful.2.0, length-map d.marks (λ (m : Mark). m.var))) c.index-marked.ensures in
    let op = rust_op.Join c.in_ok-state.state in
    let joins : op_of op ≡ Join (content_of (arc_value m.state)) = ap (λ (s : State). Join (content_of s)) c.in_ok-state.ensures in
    let kept : content_of (arc_value m.state) ≡ (mark_at (map marked_of d.marks) c.args.mark).content = sym (ap (λ (w : Marked). w.content) (mapped-or marked_of d.marks c.args.mark m no_mark there)) in
    let may = mark-may c.args.c c.args.p c.args.x c.args.mark d (op_of op) c.requires.ready c.requires.lawful c.requires.few (joins ∙ ap Join kept) in
    let here = seen-at g.N.Node.view nodes c.args.p c.index.result.now (seen-low g.N.Node.view nodes c.args.p c.requires.lawful.0.0) c.index.ensures in
    let shows = subst ShowsNoMore (same-node d.nodes c.args.p (g.N.Node.view c.index.result.now) n here at) c.recall.ensures in
    let known : Contains m.known.items c.args.p = subst (λ (xs : List ℕ). Contains xs c.args.p) c.deref.ensures.value (found-contained c.deref.result.now c.args.p (sym c.contains-is_held.ensures.value ∙ is_held)) in
    mark-idle c.args.c c.args.p c.args.x c.args.mark d n m op c.requires.ready may shows at there (mark-var d.marks c.args.mark c.args.x m c.requires.lawful.2.1 there) known joins

pub returns-in-Ok : goal.returns-in-Ok
returns-in-Ok g c =
    let d = seen g.N.Node.view g.N.Node.read c.args.self.now in
    let e = seen g.N.Node.view g.N.Node.read c.update_with.new.self in
    let nodes = c.update_with.new.self.nodes.items in
    let m = c.index-marked.result.now in
    let there : slice_get d.marks c.args.mark ≡ Some m = slice_get_read d.marks (length d.marks) c.args.mark m refl (omega (arith, c.requires.lawful.2.0, length-map d.marks (λ (m : Mark). m.var))) c.index-marked.ensures in
    let op = rust_op.Join c.in_ok-state.state in
    let joins : op_of op ≡ Join (mark_at (map marked_of d.marks) c.args.mark).content =
    ap (λ (s : State). Join (content_of s)) c.in_ok-state.ensures ∙ ap (λ (w : Marked). Join w.content) (sym (mapped-or marked_of d.marks c.args.mark m no_mark there)) in
    let may = mark-may c.args.c c.args.p c.args.x c.args.mark d (op_of op) c.requires.ready c.requires.lawful c.requires.few joins in
    let done : Acted c.args.c (c.args.c + 1) d (Update c.args.p c.args.x (op_of op) ∷ []) e = c.in-Ok.ensures.acts.acts in
    let at = seen-at g.N.Node.view nodes c.args.p c.index-in-Ok.result.now (seen-low g.N.Node.view nodes c.args.p (omega (arith, c.requires.lawful.0.0, done.size))) c.index-in-Ok.ensures in
    record {
      acts = subst (λ (o : Op). Acted c.args.c (c.args.c + 1) d (Update c.args.p c.args.x o ∷ []) (with_marks e c.note.new.marks.items)) joins
          (acted-bound c.args.c c.args.p c.args.x c.args.mark d e (g.N.Node.view c.index-in-Ok.result.now) op c.note.new.marks.items c.requires.ready may c.requires.lawful.2.1 joins done c.recall-in-Ok.ensures at c.note.ensures);
      in_place = c.in-Ok.ensures.acts.in_place;
    }
