use Rattle.std.proofs.Common.{refl, ◌+◌, ◌<◌, length, take, ◌∙◌, arith, subst, sym, ap, map}
use Rattle.std.specs.Prelude.{List}
use Rattle.std.specs.List.{range_with_len}
use Rattle.std.proofs.lemmas.List.{length-map}
use Rattle.model_world.specs.Lawful.{Stage}
use Rattle.model_world.specs.World.{Act}
use Rattle.lasp_drive.specs.Driver.{seen, stage_of}
use Rattle.lasp_drive.specs.Acts.{Acted, StopsWithin}
use Rattle.lasp_drive.specs.declared.driver.Driver.{Driver}
use Rattle.lasp_drive.proofs.ActLaws.{takes_of, AreDone, acted-none, done-next, done-stops, done-all, takes-parts, takes-other, takes-own, other-node, own-node, taken-stage}
use Rattle.lasp_drive.proofs.driver.Driver.take_others.Goals as goal
use Rattle.lasp_drive.proofs.driver.Driver.take_others.Goals.{then-q-p+in-Ok, else-q-p}

pub loop-q-init : goal.loop-q-init
loop-q-init g c = record { within = omega arith; done = acted-none c.args.c (seen g.N.Node.view g.N.Node.read c.args.self.now) c.requires.ready; reads = refl; in_place = refl }

pub take-requires : goal.take-requires
take-requires g c =
    let old = stage_of (seen g.N.Node.view g.N.Node.read c.args.self.now) in
    record {
      ready = c.loop-q.invariant.done.ready;
      lawful = (
        omega (arith, c.requires.node, c.loop-q.invariant.done.size, length-map c.args.self.now.nodes.items g.N.Node.view),
        omega (arith, c.loop-q-test.true, c.len-q-end.ensures, c.requires.messages, ap (λ (s : Stage). s.sent) (c.loop-q.invariant.done.stage ∙ taken-stage old c.args.i c.args.p (take c.loop-q.q (range_with_len 0 (length c.args.self.now.nodes.items))))),
      );
    }

pub loop-q-preserved : goal.loop-q-preserved
loop-q-preserved g c =
    let many = length c.args.self.now.nodes.items in
    let within : c.loop-q.q < many = omega (arith, c.loop-q-test.true, c.len-q-end.ensures) in
    let old = seen g.N.Node.view g.N.Node.read c.args.self.now in
    let now = seen g.N.Node.view g.N.Node.read c.loop-q.self in
    elim c.if-q-p.branch [
      | then-q-p+in-Ok w ↦ record {
        within = omega (arith, within);
        done = subst (λ (d : Driver g.row.N.Denot g.row.N-Read.Denot). AreDone (takes_of c.args.i c.args.p) c.args.c many old (c.loop-q.q + 1) (seen g.N.Node.view g.N.Node.read d)) (sym w.self-is)
            (done-next (takes_of c.args.i c.args.p) (takes-parts c.args.i c.args.p) c.args.c many old c.loop-q.q now (seen g.N.Node.view g.N.Node.read w.take.new.self) within c.loop-q.invariant.done
            (subst (λ (all : List Act). Acted c.args.c c.args.c now all (seen g.N.Node.view g.N.Node.read w.take.new.self)) (sym (takes-other c.args.i c.args.p c.loop-q.q (other-node c.loop-q.q c.args.p w.if-q-p.true))) w.in-Ok.ensures.acts));
        reads = ap (λ (d : Driver g.row.N.Denot g.row.N-Read.Denot). d.reads) w.self-is ∙ w.in-Ok.ensures.reads ∙ c.loop-q.invariant.reads;
        in_place = ap (λ (d : Driver g.row.N.Denot g.row.N-Read.Denot). map g.N.Node.place d.nodes.items) w.self-is ∙ w.in-Ok.ensures.in_place ∙ c.loop-q.invariant.in_place;
      }
      | else-q-p w ↦ record {
        within = omega (arith, within);
        done = subst (λ (d : Driver g.row.N.Denot g.row.N-Read.Denot). AreDone (takes_of c.args.i c.args.p) c.args.c many old (c.loop-q.q + 1) (seen g.N.Node.view g.N.Node.read d)) (sym w.self-is)
            (done-next (takes_of c.args.i c.args.p) (takes-parts c.args.i c.args.p) c.args.c many old c.loop-q.q now now within c.loop-q.invariant.done
            (subst (λ (all : List Act). Acted c.args.c c.args.c now all now) (sym (takes-own c.args.i c.args.p c.loop-q.q (own-node c.loop-q.q c.args.p w.if-q-p.false))) (acted-none c.args.c now c.loop-q.invariant.done.ready)));
        reads = ap (λ (d : Driver g.row.N.Denot g.row.N-Read.Denot). d.reads) w.self-is ∙ c.loop-q.invariant.reads;
        in_place = ap (λ (d : Driver g.row.N.Denot g.row.N-Read.Denot). map g.N.Node.place d.nodes.items) w.self-is ∙ c.loop-q.invariant.in_place;
      }
    ]

pub returns-in-Err : goal.returns-in-Err
returns-in-Err g c =
    let many = length c.args.self.now.nodes.items in
    let now = seen g.N.Node.view g.N.Node.read c.loop-q.self in
    record {
      acts = done-stops (takes_of c.args.i c.args.p) (takes-parts c.args.i c.args.p) c.args.c many (seen g.N.Node.view g.N.Node.read c.args.self.now) c.loop-q.q now c.in-Err.halt (map g.N.Node.view c.take.new.self.nodes.items)
          (omega (arith, c.loop-q-test.true, c.len-q-end.ensures)) c.loop-q.invariant.done
          (subst (λ (all : List Act). StopsWithin c.args.c now all c.in-Err.halt (map g.N.Node.view c.take.new.self.nodes.items)) (sym (takes-other c.args.i c.args.p c.loop-q.q (other-node c.loop-q.q c.args.p c.if-q-p.true))) c.in-Err.ensures.acts);
      reads = tt;
      in_place = c.in-Err.ensures.in_place ∙ c.loop-q.invariant.in_place;
    }

pub returns : goal.returns
returns g c =
    let many = length c.args.self.now.nodes.items in
    record {
      acts = done-all (takes_of c.args.i c.args.p) (takes-parts c.args.i c.args.p) c.args.c many (seen g.N.Node.view g.N.Node.read c.args.self.now) c.loop-q.q (seen g.N.Node.view g.N.Node.read c.loop-q.self)
          (omega (arith, c.loop-q-test.false, c.len-q-end.ensures)) c.loop-q.invariant.done;
      reads = c.loop-q.invariant.reads;
      in_place = c.loop-q.invariant.in_place;
    }

pub overflow_add-i : goal.overflow_add-i
overflow_add-i g c = omega (arith, c.loop-q-test.true, c.len-q-end.ensures, c.requires.messages, c.len.ensures.few, c.requires.ready.limit)
