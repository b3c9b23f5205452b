use Rattle.std.proofs.Common.{refl, ◌<◌, length, map, ◌∙◌, arith}
use Rattle.std.proofs.lemmas.List.{length-map}
use Rattle.model_world.specs.World.{Post}
use Rattle.lasp_drive.specs.Driver.{seen}
use Rattle.lasp_drive.proofs.ActLaws.{acted-none, done-next, done-stops, done-all, posts-parts}
use Rattle.lasp_drive.proofs.driver.Driver.post_all.Goals as goal

pub loop-p-init : goal.loop-p-init
loop-p-init g c = record { within = omega arith; done = acted-none c.args.c (seen g.N.Node.view g.N.Node.read c.args.self.now) c.requires.ready; reads = refl; in_place = refl }

pub post-requires : goal.post-requires
post-requires g c = record {
  ready = c.loop-p.invariant.done.ready;
  lawful = (omega (arith, c.loop-p-test.true, c.len-p-end.ensures, c.loop-p.invariant.done.size, length-map c.args.self.now.nodes.items g.N.Node.view), c.requires.number);
}

pub loop-p-preserved : goal.loop-p-preserved
loop-p-preserved g c =
    let within : c.loop-p.p < length c.args.self.now.nodes.items = omega (arith, c.loop-p-test.true, c.len-p-end.ensures) in
    record {
      within = omega (arith, within);
      done = done-next (map Post) posts-parts c.args.c (length c.args.self.now.nodes.items) (seen g.N.Node.view g.N.Node.read c.args.self.now) c.loop-p.p (seen g.N.Node.view g.N.Node.read c.loop-p.self) (seen g.N.Node.view g.N.Node.read c.post.new.self) within c.loop-p.invariant.done c.in-Ok.ensures.acts;
      reads = c.in-Ok.ensures.reads ∙ c.loop-p.invariant.reads;
      in_place = c.in-Ok.ensures.in_place ∙ c.loop-p.invariant.in_place;
    }

pub returns-in-Err : goal.returns-in-Err
returns-in-Err g c = record {
  acts = done-stops (map Post) posts-parts c.args.c (length c.args.self.now.nodes.items) (seen g.N.Node.view g.N.Node.read c.args.self.now) c.loop-p.p (seen g.N.Node.view g.N.Node.read c.loop-p.self) c.in-Err.halt (map g.N.Node.view c.post.new.self.nodes.items)
      (omega (arith, c.loop-p-test.true, c.len-p-end.ensures)) c.loop-p.invariant.done c.in-Err.ensures.acts;
  reads = tt;
  in_place = c.in-Err.ensures.in_place ∙ c.loop-p.invariant.in_place;
}

pub returns : goal.returns
returns g c = record {
  acts = done-all (map Post) posts-parts c.args.c (length c.args.self.now.nodes.items) (seen g.N.Node.view g.N.Node.read c.args.self.now) c.loop-p.p (seen g.N.Node.view g.N.Node.read c.loop-p.self)
      (omega (arith, c.loop-p-test.false, c.len-p-end.ensures)) c.loop-p.invariant.done;
  reads = c.loop-p.invariant.reads;
  in_place = c.loop-p.invariant.in_place;
}
