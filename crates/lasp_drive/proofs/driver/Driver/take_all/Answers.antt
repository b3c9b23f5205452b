use Rattle.std.proofs.Common.{refl, ◌≡◌, ◌<◌, length, take, ◌∙◌, append-nil, arith, subst, sym, ap, map}
use Rattle.std.specs.Prelude.{ℕ, List, flat_map}
use Rattle.std.specs.List.{range_with_len}
use Rattle.std.proofs.lemmas.List.{length-map}
use Rattle.model_world.specs.Lawful.{Stage}
use Rattle.model_world.specs.World.{Act, takes}
use Rattle.lasp_drive.specs.Driver.{seen, stage_of}
use Rattle.lasp_drive.specs.Acts.{Acted, StopsWithin}
use Rattle.lasp_drive.proofs.ActLaws.{acted-none, done-next, done-stops, done-all, all-parts, all-taken-stage}
use Rattle.lasp_drive.proofs.driver.Driver.take_all.Goals as goal

pub loop-p-init : goal.loop-p-init
loop-p-init g c = record { within = omega arith; done = acted-none c.args.c (seen g.N.Node.view g.N.Node.read c.args.self.now) c.requires.ready; reads = refl; in_place = refl }

pub take_others-requires-clause-node : goal.take_others-requires-clause-node
take_others-requires-clause-node g c =
    omega (arith, c.loop-p-test.true, c.len-p-end.ensures, c.loop-p.invariant.done.size, length-map c.args.self.now.nodes.items g.N.Node.view, length-map c.loop-p.self.nodes.items g.N.Node.view)

pub take_others-requires-clause-messages : goal.take_others-requires-clause-messages
take_others-requires-clause-messages g c =
    let old = stage_of (seen g.N.Node.view g.N.Node.read c.args.self.now) in
    omega (
      arith,
      c.requires.messages,
      c.loop-p.invariant.done.size,
      length-map c.args.self.now.nodes.items g.N.Node.view,
      length-map c.loop-p.self.nodes.items g.N.Node.view,
      ap (λ (s : Stage). s.sent) (c.loop-p.invariant.done.stage ∙ all-taken-stage old (length c.args.self.now.nodes.items) c.args.i (take c.loop-p.p (range_with_len 0 (length c.args.self.now.nodes.items)))),
    )

pub loop-p-preserved : goal.loop-p-preserved
loop-p-preserved g c =
    let many = length c.args.self.now.nodes.items in
    let within : c.loop-p.p < many = omega (arith, c.loop-p-test.true, c.len-p-end.ensures) in
    let size : length c.loop-p.self.nodes.items ≡ many = omega (arith, c.loop-p.invariant.done.size, length-map c.args.self.now.nodes.items g.N.Node.view, length-map c.loop-p.self.nodes.items g.N.Node.view) in
    let now = seen g.N.Node.view g.N.Node.read c.loop-p.self in
    let next = seen g.N.Node.view g.N.Node.read c.take_others.new.self in
    record {
      within = omega (arith, within);
      done = done-next (flat_map (takes many c.args.i)) (all-parts many c.args.i) c.args.c many (seen g.N.Node.view g.N.Node.read c.args.self.now) c.loop-p.p now next within c.loop-p.invariant.done
          (subst (λ (all : List Act). Acted c.args.c c.args.c now all next) (sym (append-nil (takes many c.args.i c.loop-p.p)))
          (subst (λ (k : ℕ). Acted c.args.c c.args.c now (takes k c.args.i c.loop-p.p) next) size c.in-Ok.ensures.acts));
      reads = c.in-Ok.ensures.reads ∙ c.loop-p.invariant.reads;
      in_place = c.in-Ok.ensures.in_place ∙ c.loop-p.invariant.in_place;
    }

pub returns-in-Err : goal.returns-in-Err
returns-in-Err g c =
    let many = length c.args.self.now.nodes.items in
    let size : length c.loop-p.self.nodes.items ≡ many = omega (arith, c.loop-p.invariant.done.size, length-map c.args.self.now.nodes.items g.N.Node.view, length-map c.loop-p.self.nodes.items g.N.Node.view) in
    let now = seen g.N.Node.view g.N.Node.read c.loop-p.self in
    record {
      acts = done-stops (flat_map (takes many c.args.i)) (all-parts many c.args.i) c.args.c many (seen g.N.Node.view g.N.Node.read c.args.self.now) c.loop-p.p now c.in-Err.halt (map g.N.Node.view c.take_others.new.self.nodes.items)
          (omega (arith, c.loop-p-test.true, c.len-p-end.ensures)) c.loop-p.invariant.done
          (subst (λ (all : List Act). StopsWithin c.args.c now all c.in-Err.halt (map g.N.Node.view c.take_others.new.self.nodes.items)) (sym (append-nil (takes many c.args.i c.loop-p.p)))
          (subst (λ (k : ℕ). StopsWithin c.args.c now (takes k c.args.i c.loop-p.p) c.in-Err.halt (map g.N.Node.view c.take_others.new.self.nodes.items)) size c.in-Err.ensures.acts));
      reads = tt;
      in_place = c.in-Err.ensures.in_place ∙ c.loop-p.invariant.in_place;
    }

pub returns : goal.returns
returns g c =
    let many = length c.args.self.now.nodes.items in
    record {
      acts = done-all (flat_map (takes many c.args.i)) (all-parts many c.args.i) c.args.c many (seen g.N.Node.view g.N.Node.read c.args.self.now) c.loop-p.p (seen g.N.Node.view g.N.Node.read c.loop-p.self)
          (omega (arith, c.loop-p-test.false, c.len-p-end.ensures)) c.loop-p.invariant.done;
      reads = c.loop-p.invariant.reads;
      in_place = c.loop-p.invariant.in_place;
    }
