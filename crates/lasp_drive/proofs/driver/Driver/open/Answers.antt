use Rattle.std.proofs.Common.{rules, arith, ◌≡◌, ◌+◌, ◌++◌, ◌∷◌, [], map, length, sym, subst, ap, ◌∙◌, refl}
use Rattle.std.specs.Prelude.{List, Option, None, slice_set}
use Rattle.std.proofs.lemmas.List.{map-append, map-set}
use Rattle.model_core.specs.Core.{Read}
use Rattle.model_states.specs.Threshold.{Threshold}
use Rattle.model_world.specs.World as world
use Rattle.model_world.specs.World.{Open}
use Rattle.lasp_state.specs.Threshold.{threshold_of}
use Rattle.lasp_script.specs.Command.{until_of}
use Rattle.lasp_drive.specs.Node.{NodeView, LearnsAnd}
use Rattle.lasp_drive.specs.Reads.{Reads, IsNextRead, opens_next}
use Rattle.lasp_drive.specs.Marks.{marked_of}
use Rattle.lasp_drive.specs.Driver.{read_seen, seen}
use Rattle.lasp_drive.specs.Acts.{Acted, StopsWithin}
use Rattle.lasp_drive.specs.Play.{IsUntilWithin}
use Rattle.lasp_drive.specs.declared.driver.Mark.{Mark}
use Rattle.lasp_drive.specs.declared.driver.OpenRead.{OpenRead}
use Rattle.lasp_drive.specs.declared.halt.Halt.TheVariants as halt
use Rattle.lasp_drive.proofs.NodeLaws.{seen-at, seen-low, seen-set, mapped-or, same-place}
use Rattle.lasp_drive.proofs.StepLaws.{with_both, open_read, may-read, until-within, acted-open, same-node}
use Rattle.std.proofs.lemmas.Result.{err_from_is_err_and}
use Rattle.lasp_drive.proofs.ActLaws.{stops-early, stops-at}
use Rattle.lasp_drive.proofs.driver.Driver.open.Goals as goal

pub threshold_of-requires : goal.threshold_of-requires
threshold_of-requires g c =
    let marks : c.deref.result.now ≡ c.args.self.now.marks.items = search rules in
    subst (λ (ms : List Mark). IsUntilWithin (length ms) c.args.until.now) (sym marks) (until-within (seen g.N.Node.view g.N.Node.read c.args.self.now) c.args.x c.args.until.now c.requires.lawful.1)

pub open_read-requires : goal.open_read-requires
open_read-requires g c =
    let d = seen g.N.Node.view g.N.Node.read c.args.self.now in
    let marks : c.deref.result.now ≡ c.args.self.now.marks.items = search rules in
    let at = seen-at g.N.Node.view c.args.self.now.nodes.items c.args.p c.index_mut.result.now (seen-low g.N.Node.view c.args.self.now.nodes.items c.args.p c.requires.lawful.0.0) c.index_mut.ensures.value in
    may-read c.args.c c.args.p c.args.x (until_of c.args.until.now) d (g.N.Node.view c.index_mut.result.now) (threshold_of c.in_ok-threshold.threshold) c.requires.ready c.requires.lawful at
    (c.in_ok-threshold.ensures ∙ ap (λ (ms : List Mark). world.threshold_of (map marked_of ms) (until_of c.args.until.now)) marks)

pub returns-clause-acts : goal.returns-clause-acts
returns-clause-acts g c =
    let d = seen g.N.Node.view g.N.Node.read c.args.self.now in
    let nodes = c.args.self.now.nodes.items in
    let until = until_of c.args.until.now in
    let t = world.threshold_of (map marked_of d.marks) until in
    let n = g.N.Node.view c.index_mut.result.now in
    let new = g.N.Node.view c.open_read.new.self in
    let r = g.N.Node.read c.in_ok-read.read in
    let marks : c.deref.result.now ≡ c.args.self.now.marks.items = search rules in
    let same : threshold_of c.in_ok-threshold.threshold ≡ t = c.in_ok-threshold.ensures ∙ ap (λ (ms : List Mark). world.threshold_of (map marked_of ms) until) marks in
    let low = seen-low g.N.Node.view nodes c.args.p c.requires.lawful.0.0 in
    let at = seen-at g.N.Node.view nodes c.args.p c.index_mut.result.now low c.index_mut.ensures.value in
    let reads : map (read_seen g.N.Node.read) c.push.new.self.items ≡ d.reads ++ open_read c.args.p r ∷ [] =
    ap (map (read_seen g.N.Node.read)) c.in_ok-push.ensures.items ∙ map-append (read_seen g.N.Node.read) c.args.self.now.reads.items _ in
    record {
      acts = subst (λ (rs : List (OpenRead Read)). Acted c.args.c (c.args.c + 1) d (Open c.args.p c.args.x until ∷ []) (with_both d (map g.N.Node.view (slice_set nodes c.args.p c.open_read.new.self)) rs)) (sym reads)
          (seen-set g.N.Node.view nodes c.args.p c.open_read.new.self (λ ns. Acted c.args.c (c.args.c + 1) d (Open c.args.p c.args.x until ∷ []) (with_both d ns (d.reads ++ open_read c.args.p r ∷ [])))
          (acted-open c.args.c c.args.p c.args.x until d n new r c.requires.ready c.requires.lawful at (omega arith)
          (subst (λ (u : Threshold). IsNextRead n.reads c.args.x u r) same c.in_ok-read.ensures.read) (subst (λ (u : Threshold). LearnsAnd (opens_next c.args.x u) n new) same c.in_ok-read.ensures.ok)));
      in_place = same-place g.N.Node.place nodes c.args.p c.index_mut.result.now c.open_read.new.self low c.index_mut.ensures.value c.open_read.ensures.place;
    }

pub returns-clause-reads : goal.returns-clause-reads
returns-clause-reads g c =
    let d = seen g.N.Node.view g.N.Node.read c.args.self.now in
    let nodes = c.args.self.now.nodes.items in
    let until = until_of c.args.until.now in
    let t = world.threshold_of (map marked_of d.marks) until in
    let n = g.N.Node.view c.index_mut.result.now in
    let new = g.N.Node.view c.open_read.new.self in
    let marks : c.deref.result.now ≡ c.args.self.now.marks.items = search rules in
    let same : threshold_of c.in_ok-threshold.threshold ≡ t = c.in_ok-threshold.ensures ∙ ap (λ (ms : List Mark). world.threshold_of (map marked_of ms) until) marks in
    let at = seen-at g.N.Node.view nodes c.args.p c.index_mut.result.now (seen-low g.N.Node.view nodes c.args.p c.requires.lawful.0.0) c.index_mut.ensures.value in
    record {
      now = new;
      is = map-set g.N.Node.view nodes c.args.p c.open_read.new.self;
      learns = λ m there. subst (λ (k : NodeView). LearnsAnd (opens_next c.args.x t) k new) (same-node d.nodes c.args.p n m at there) (subst (λ (u : Threshold). LearnsAnd (opens_next c.args.x u) n new) same c.in_ok-read.ensures.ok);
    }

pub returns-clause-opened : goal.returns-clause-opened
returns-clause-opened g c =
    let d = seen g.N.Node.view g.N.Node.read c.args.self.now in
    let nodes = c.args.self.now.nodes.items in
    let until = until_of c.args.until.now in
    let t = world.threshold_of (map marked_of d.marks) until in
    let n = g.N.Node.view c.index_mut.result.now in
    let r = g.N.Node.read c.in_ok-read.read in
    let marks : c.deref.result.now ≡ c.args.self.now.marks.items = search rules in
    let same : threshold_of c.in_ok-threshold.threshold ≡ t = c.in_ok-threshold.ensures ∙ ap (λ (ms : List Mark). world.threshold_of (map marked_of ms) until) marks in
    let at = seen-at g.N.Node.view nodes c.args.p c.index_mut.result.now (seen-low g.N.Node.view nodes c.args.p c.requires.lawful.0.0) c.index_mut.ensures.value in
    record {
      handle = c.in_ok-read.read;
      reads_are = c.in_ok-push.ensures.items;
      is = subst (λ (o : Option Reads). IsNextRead o c.args.x t r) (sym (mapped-or (λ (k : NodeView). k.reads) d.nodes c.args.p n None at)) (subst (λ (u : Threshold). IsNextRead n.reads c.args.x u r) same c.in_ok-read.ensures.read);
    }

pub returns-in_err-threshold-clause-acts : goal.returns-in_err-threshold-clause-acts
returns-in_err-threshold-clause-acts g c =
    let p = err_from_is_err_and c.from_residual.result c.from_residual.ensures.1 in
    rw (p.1, p.2) (record { acts = stops-early c.args.c (seen g.N.Node.view g.N.Node.read c.args.self.now) (Open c.args.p c.args.x (until_of c.args.until.now) ∷ []); in_place = refl })

pub returns-in_err-read-clause-acts : goal.returns-in_err-read-clause-acts
returns-in_err-read-clause-acts g c =
    let d = seen g.N.Node.view g.N.Node.read c.args.self.now in
    let nodes = c.args.self.now.nodes.items in
    let low = seen-low g.N.Node.view nodes c.args.p c.requires.lawful.0.0 in
    let at = seen-at g.N.Node.view nodes c.args.p c.index_mut.result.now low c.index_mut.ensures.value in
    let a = Open c.args.p c.args.x (until_of c.args.until.now) in
    let p = err_from_is_err_and c.from_residual-in_err-read.result c.from_residual-in_err-read.ensures.1 in
    rw (p.1, p.2) (record {
      acts = seen-set g.N.Node.view nodes c.args.p c.open_read.new.self (λ ns. StopsWithin c.args.c d (a ∷ []) halt.Memory ns)
          (stops-at c.args.c c.args.p d a halt.Memory (g.N.Node.view c.index_mut.result.now) (g.N.Node.view c.open_read.new.self) at c.in_err-read.ensures.err.learns.calls tt);
      in_place = same-place g.N.Node.place nodes c.args.p c.index_mut.result.now c.open_read.new.self low c.index_mut.ensures.value c.open_read.ensures.place;
    })

pub returns-in_err-push-clause-acts : goal.returns-in_err-push-clause-acts
returns-in_err-push-clause-acts g c =
    let d = seen g.N.Node.view g.N.Node.read c.args.self.now in
    let nodes = c.args.self.now.nodes.items in
    let low = seen-low g.N.Node.view nodes c.args.p c.requires.lawful.0.0 in
    let at = seen-at g.N.Node.view nodes c.args.p c.index_mut.result.now low c.index_mut.ensures.value in
    let a = Open c.args.p c.args.x (until_of c.args.until.now) in
    let p = err_from_is_err_and c.from_residual-in_err-push.result c.from_residual-in_err-push.ensures.1 in
    rw (p.1, p.2) (record {
      acts = seen-set g.N.Node.view nodes c.args.p c.open_read.new.self (λ ns. StopsWithin c.args.c d (a ∷ []) halt.Memory ns)
          (stops-at c.args.c c.args.p d a halt.Memory (g.N.Node.view c.index_mut.result.now) (g.N.Node.view c.open_read.new.self) at c.in_ok-read.ensures.ok.learns.calls tt);
      in_place = same-place g.N.Node.place nodes c.args.p c.index_mut.result.now c.open_read.new.self low c.index_mut.ensures.value c.open_read.ensures.place;
    })
