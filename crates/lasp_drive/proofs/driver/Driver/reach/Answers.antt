use Rattle.std.proofs.Common.{rules, arith, ◌≡◌, ◌+◌, ◌∷◌, [], refl, map, length, sym, subst, ap, ◌∙◌}
use Rattle.std.specs.Prelude.{List}
use Rattle.std.proofs.lemmas.List.{map-set}
use Rattle.model_states.specs.Threshold.{Threshold, meets}
use Rattle.model_graph.specs.Evaluation.{content_at}
use Rattle.model_world.specs.World as world
use Rattle.model_world.specs.World.{Reach, act}
use Rattle.model_core.specs.Known.{HasLeast}
use Rattle.lasp_state.specs.Threshold.{threshold_of}
use Rattle.lasp_script.specs.Command.{until_of}
use Rattle.lasp_drive.specs.Node.{NodeView, LearnsAnd}
use Rattle.lasp_drive.specs.Reads.{looks_once}
use Rattle.lasp_drive.specs.Marks.{marked_of}
use Rattle.lasp_drive.specs.Driver.{seen}
use Rattle.lasp_drive.specs.Acts.{Acted, StopsWithin}
use Rattle.lasp_drive.specs.Play.{IsUntilWithin, IsLeastHeld}
use Rattle.lasp_drive.specs.declared.driver.Mark.{Mark}
use Rattle.lasp_drive.specs.declared.halt.Halt.TheVariants as halt
use Rattle.lasp_drive.proofs.NodeLaws.{seen-at, seen-low, seen-set, same-place}
use Rattle.lasp_drive.proofs.ActLaws.{stops-at, stops-early}
use Rattle.lasp_drive.proofs.MarkLaws.{least-held}
use Rattle.lasp_drive.proofs.StepLaws.{with_nodes, may-read, until-within, reach-met, reach-unmet, acted-reach, same-node}
use Rattle.std.proofs.lemmas.Result.{err_from_is_err_and}
use Rattle.lasp_drive.proofs.driver.Driver.reach.Goals as goal

pub threshold_of-requires : goal.threshold_of-requires
threshold_of-requires g c =
    let marks : c.deref.result.now ≡ c.args.self.now.marks.items = search rules in
    subst (λ (ms : List Mark). IsUntilWithin (length ms) c.args.until.now) (sym marks) (until-within (seen g.N.Node.view g.N.Node.read c.args.self.now) c.args.x c.args.until.now c.requires.lawful.1)

pub reached-requires-clause-settled : goal.reached-requires-clause-settled
reached-requires-clause-settled g c =
    c.requires.lawful.2 c.args.p (g.N.Node.view c.index_mut.result.now) (seen-at g.N.Node.view c.args.self.now.nodes.items c.args.p c.index_mut.result.now (seen-low g.N.Node.view c.args.self.now.nodes.items c.args.p c.requires.lawful.0.0) c.index_mut.ensures.value)

pub reached-requires-clause-may : goal.reached-requires-clause-may
reached-requires-clause-may g c =
    let d = seen g.N.Node.view g.N.Node.read c.args.self.now in
    let marks : c.deref.result.now ≡ c.args.self.now.marks.items = search rules in
    let at = seen-at g.N.Node.view c.args.self.now.nodes.items c.args.p c.index_mut.result.now (seen-low g.N.Node.view c.args.self.now.nodes.items c.args.p c.requires.lawful.0.0) c.index_mut.ensures.value in
    may-read c.args.c c.args.p c.args.x (until_of c.args.until.now) d (g.N.Node.view c.index_mut.result.now) (threshold_of c.in_ok-threshold.threshold) c.requires.ready (c.requires.lawful.0, c.requires.lawful.1) at
    (c.in_ok-threshold.ensures ∙ ap (λ (ms : List Mark). world.threshold_of (map marked_of ms) (until_of c.args.until.now)) marks)

pub is_least_held-is_known-requires : goal.is_least_held-is_known-requires
is_least_held-is_known-requires g c =
    let marks : c.deref-2.result.now ≡ c.args.self.now.marks.items = search rules in
    subst (λ (ms : List Mark). IsUntilWithin (length ms) c.args.until.now) (sym marks) (until-within (seen g.N.Node.view g.N.Node.read c.args.self.now) c.args.x c.args.until.now c.requires.lawful.1)

pub reached-requires-clause-known : goal.reached-requires-clause-known
reached-requires-clause-known g c is_known =
    let d = seen g.N.Node.view g.N.Node.read c.args.self.now in
    let until = until_of c.args.until.now in
    let marks : c.deref.result.now ≡ c.args.self.now.marks.items = search rules in
    let others : c.deref-2.result.now ≡ c.args.self.now.marks.items = search rules in
    let at = seen-at g.N.Node.view c.args.self.now.nodes.items c.args.p c.index_mut.result.now (seen-low g.N.Node.view c.args.self.now.nodes.items c.args.p c.requires.lawful.0.0) c.index_mut.ensures.value in
    subst (λ (t : Threshold). HasLeast t (content_at (g.N.Node.view c.index_mut.result.now).shown c.args.x)) (sym (c.in_ok-threshold.ensures ∙ ap (λ (ms : List Mark). world.threshold_of (map marked_of ms) until) marks))
    (least-held d (length d.nodes) c.args.p c.args.x (g.N.Node.view c.index_mut.result.now) c.args.until.now c.requires.ready.marked at c.requires.lawful.1
    (subst (λ (ms : List Mark). IsLeastHeld ms c.args.until.now c.args.p) others (c.is_least_held-is_known.ensures is_known)))

pub returns-then-branch-clause-acts : goal.returns-then-branch-clause-acts
returns-then-branch-clause-acts g c =
    let d = seen g.N.Node.view g.N.Node.read c.args.self.now in
    let nodes = c.args.self.now.nodes.items in
    let until = until_of c.args.until.now in
    let n = g.N.Node.view c.index_mut.result.now in
    let marks : c.deref.result.now ≡ c.args.self.now.marks.items = search rules in
    let same : threshold_of c.in_ok-threshold.threshold ≡ world.threshold_of (map marked_of d.marks) until = c.in_ok-threshold.ensures ∙ ap (λ (ms : List Mark). world.threshold_of (map marked_of ms) until) marks in
    let at = seen-at g.N.Node.view nodes c.args.p c.index_mut.result.now (seen-low g.N.Node.view nodes c.args.p c.requires.lawful.0.0) c.index_mut.ensures.value in
    record {
      acts = seen-set g.N.Node.view nodes c.args.p c.reached.new.self (λ ns. Acted c.args.c (c.args.c + 1) d (Reach c.args.p c.args.x until ∷ []) (with_nodes d ns))
          (acted-reach c.args.c c.args.p c.args.x until d n (g.N.Node.view c.reached.new.self) c.requires.ready at (omega arith) c.in_ok-reached.ensures.looked
          (reach-met c.args.c c.args.p c.args.x until d n (threshold_of c.in_ok-threshold.threshold) c.in_ok-reached.field-0 c.requires.ready c.requires.lawful.2 at same c.in_ok-reached.ensures.reached c.if-branch.true));
      in_place = same-place g.N.Node.place nodes c.args.p c.index_mut.result.now c.reached.new.self (seen-low g.N.Node.view nodes c.args.p c.requires.lawful.0.0) c.index_mut.ensures.value c.reached.ensures.place;
    }

pub returns-else-branch-clause-acts : goal.returns-else-branch-clause-acts
returns-else-branch-clause-acts g c =
    let d = seen g.N.Node.view g.N.Node.read c.args.self.now in
    let nodes = c.args.self.now.nodes.items in
    let until = until_of c.args.until.now in
    let n = g.N.Node.view c.index_mut.result.now in
    let marks : c.deref.result.now ≡ c.args.self.now.marks.items = search rules in
    let same : threshold_of c.in_ok-threshold.threshold ≡ world.threshold_of (map marked_of d.marks) until = c.in_ok-threshold.ensures ∙ ap (λ (ms : List Mark). world.threshold_of (map marked_of ms) until) marks in
    let at = seen-at g.N.Node.view nodes c.args.p c.index_mut.result.now (seen-low g.N.Node.view nodes c.args.p c.requires.lawful.0.0) c.index_mut.ensures.value in
    record {
      acts = seen-set g.N.Node.view nodes c.args.p c.reached.new.self (λ ns. StopsWithin c.args.c d (Reach c.args.p c.args.x until ∷ []) (halt.NotReached c.args.c) ns)
          (stops-at c.args.c c.args.p d (Reach c.args.p c.args.x until) (halt.NotReached c.args.c) n (g.N.Node.view c.reached.new.self) at c.reached.ensures.learns.calls
          (reach-unmet c.args.c c.args.p c.args.x until d n (threshold_of c.in_ok-threshold.threshold) c.in_ok-reached.field-0 c.requires.ready c.requires.lawful.2 at same c.in_ok-reached.ensures.reached c.if-branch.false));
      in_place = same-place g.N.Node.place nodes c.args.p c.index_mut.result.now c.reached.new.self (seen-low g.N.Node.view nodes c.args.p c.requires.lawful.0.0) c.index_mut.ensures.value c.reached.ensures.place;
    }

pub returns-then-branch-clause-reached : goal.returns-then-branch-clause-reached
returns-then-branch-clause-reached g c m there =
    let d = seen g.N.Node.view g.N.Node.read c.args.self.now in
    let nodes = c.args.self.now.nodes.items in
    let until = until_of c.args.until.now in
    let n = g.N.Node.view c.index_mut.result.now in
    let marks : c.deref.result.now ≡ c.args.self.now.marks.items = search rules in
    let same : threshold_of c.in_ok-threshold.threshold ≡ world.threshold_of (map marked_of d.marks) until = c.in_ok-threshold.ensures ∙ ap (λ (ms : List Mark). world.threshold_of (map marked_of ms) until) marks in
    let at = seen-at g.N.Node.view nodes c.args.p c.index_mut.result.now (seen-low g.N.Node.view nodes c.args.p c.requires.lawful.0.0) c.index_mut.ensures.value in
    ap (λ (k : NodeView). meets (world.threshold_of (map marked_of d.marks) until) (content_at k.shown c.args.x)) (sym (same-node d.nodes c.args.p n m at there))
    ∙ ap (λ (u : Threshold). meets u (content_at n.shown c.args.x)) (sym same) ∙ sym c.in_ok-reached.ensures.reached ∙ c.if-branch.true

pub returns-else-branch-clause-reached : goal.returns-else-branch-clause-reached
returns-else-branch-clause-reached g c m there =
    let d = seen g.N.Node.view g.N.Node.read c.args.self.now in
    let nodes = c.args.self.now.nodes.items in
    let until = until_of c.args.until.now in
    let n = g.N.Node.view c.index_mut.result.now in
    let marks : c.deref.result.now ≡ c.args.self.now.marks.items = search rules in
    let same : threshold_of c.in_ok-threshold.threshold ≡ world.threshold_of (map marked_of d.marks) until = c.in_ok-threshold.ensures ∙ ap (λ (ms : List Mark). world.threshold_of (map marked_of ms) until) marks in
    let at = seen-at g.N.Node.view nodes c.args.p c.index_mut.result.now (seen-low g.N.Node.view nodes c.args.p c.requires.lawful.0.0) c.index_mut.ensures.value in (
      refl,
      ap (λ (k : NodeView). meets (world.threshold_of (map marked_of d.marks) until) (content_at k.shown c.args.x)) (sym (same-node d.nodes c.args.p n m at there))
          ∙ ap (λ (u : Threshold). meets u (content_at n.shown c.args.x)) (sym same) ∙ sym c.in_ok-reached.ensures.reached ∙ c.if-branch.false,
    )

pub returns-then-branch-clause-reads : goal.returns-then-branch-clause-reads
returns-then-branch-clause-reads g c =
    let d = seen g.N.Node.view g.N.Node.read c.args.self.now in
    let nodes = c.args.self.now.nodes.items in
    let n = g.N.Node.view c.index_mut.result.now in
    let new = g.N.Node.view c.reached.new.self in
    let at = seen-at g.N.Node.view nodes c.args.p c.index_mut.result.now (seen-low g.N.Node.view nodes c.args.p c.requires.lawful.0.0) c.index_mut.ensures.value in
    record {
      now = new;
      is = map-set g.N.Node.view nodes c.args.p c.reached.new.self;
      learns = λ m there. subst (λ (k : NodeView). LearnsAnd looks_once k new) (same-node d.nodes c.args.p n m at there) c.in_ok-reached.ensures.looked;
    }

pub returns-else-branch-clause-reads : goal.returns-else-branch-clause-reads
returns-else-branch-clause-reads g c =
    let d = seen g.N.Node.view g.N.Node.read c.args.self.now in
    let nodes = c.args.self.now.nodes.items in
    let n = g.N.Node.view c.index_mut.result.now in
    let new = g.N.Node.view c.reached.new.self in
    let at = seen-at g.N.Node.view nodes c.args.p c.index_mut.result.now (seen-low g.N.Node.view nodes c.args.p c.requires.lawful.0.0) c.index_mut.ensures.value in
    record {
      now = new;
      is = map-set g.N.Node.view nodes c.args.p c.reached.new.self;
      learns = λ m there. subst (λ (k : NodeView). LearnsAnd looks_once k new) (same-node d.nodes c.args.p n m at there) c.in_ok-reached.ensures.looked;
    }

pub returns-in_err-threshold-clause-acts : goal.returns-in_err-threshold-clause-acts
returns-in_err-threshold-clause-acts g c =
    let p = err_from_is_err_and c.from_residual.result c.from_residual.ensures.1 in
    rw (p.1, p.2) (record { acts = stops-early c.args.c (seen g.N.Node.view g.N.Node.read c.args.self.now) (Reach c.args.p c.args.x (until_of c.args.until.now) ∷ []); in_place = refl })

pub returns-in_err-reached-clause-acts : goal.returns-in_err-reached-clause-acts
returns-in_err-reached-clause-acts g c =
    let d = seen g.N.Node.view g.N.Node.read c.args.self.now in
    let nodes = c.args.self.now.nodes.items in
    let low = seen-low g.N.Node.view nodes c.args.p c.requires.lawful.0.0 in
    let at = seen-at g.N.Node.view nodes c.args.p c.index_mut.result.now low c.index_mut.ensures.value in
    let a = Reach c.args.p c.args.x (until_of c.args.until.now) in
    let p = err_from_is_err_and c.from_residual-in_err-reached.result c.from_residual-in_err-reached.ensures.1 in
    rw (p.1, p.2) (record {
      acts = seen-set g.N.Node.view nodes c.args.p c.reached.new.self (λ ns. StopsWithin c.args.c d (a ∷ []) halt.Memory ns)
          (stops-at c.args.c c.args.p d a halt.Memory (g.N.Node.view c.index_mut.result.now) (g.N.Node.view c.reached.new.self) at c.reached.ensures.learns.calls tt);
      in_place = same-place g.N.Node.place nodes c.args.p c.index_mut.result.now c.reached.new.self low c.index_mut.ensures.value c.reached.ensures.place;
    })
