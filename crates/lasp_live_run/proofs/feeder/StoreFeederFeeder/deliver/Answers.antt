use Rattle.std.proofs.Common.{◌≡◌, ◌≤◌, ◌∷◌, [], refl, subst}
use Rattle.std.specs.Arc.{arc_value}
use Rattle.model_journal.specs.Entry.{Deliver, entry}
use Rattle.lasp_live.specs.Turns.{Adds, Delivers}
use Rattle.lasp_store.specs.Turn.{Knows, frame_of}
use Rattle.lasp_store_node.specs.View.{place_of}
use Rattle.lasp_live_run.proofs.FeederLaws.{call-stays, delivers-by, own-by, told-by, found-by}
use Rattle.lasp_live_run.proofs.feeder.StoreFeederFeeder.deliver.Goals as goal

pub returns-clause-place : goal.returns-clause-place
returns-clause-place g c = subst (λ (p : Knows). place_of c.deliver-delivered.new.f ≡ place_of p) c.self.view_is (call-stays (g.S.Settles.library c.self.inside.lib.now) c.self.inside.store.now (entry 0 (Deliver c.args.number (arc_value c.args.m.now)) ∷ []) c.deliver-delivered.result c.self.inside.feed c.deliver-delivered.new.f refl (record { own = c.known.ensures.own; allowed = c.known.ensures.allowed }) (record { own = c.known-2.ensures.own; allowed = c.known-2.ensures.allowed }) (record { feed = c.self.invariant.0; fits = c.self.invariant.1 }) c.deliver-delivered.ensures.ok c.deliver-delivered.ensures.err).place

pub returns-clause-frame : goal.returns-clause-frame
returns-clause-frame g c = subst (λ (p : Knows). frame_of c.deliver-delivered.new.f ≡ frame_of p) c.self.view_is (call-stays (g.S.Settles.library c.self.inside.lib.now) c.self.inside.store.now (entry 0 (Deliver c.args.number (arc_value c.args.m.now)) ∷ []) c.deliver-delivered.result c.self.inside.feed c.deliver-delivered.new.f refl (record { own = c.known.ensures.own; allowed = c.known.ensures.allowed }) (record { own = c.known-2.ensures.own; allowed = c.known-2.ensures.allowed }) (record { feed = c.self.invariant.0; fits = c.self.invariant.1 }) c.deliver-delivered.ensures.ok c.deliver-delivered.ensures.err).frame

pub returns-clause-answer : goal.returns-clause-answer
returns-clause-answer g c =
    subst (λ (p : Knows). Delivers (frame_of p) c.args.number (arc_value c.args.m.now) p.seen c.deliver-delivered.result c.deliver-delivered.new.f.seen) c.self.view_is
    (delivers-by c.deliver-delivered.result c.args.number (arc_value c.args.m.now) c.self.inside.feed c.deliver-delivered.new.f (record { own = c.known.ensures.own; allowed = c.known.ensures.allowed }) (record { own = c.known-2.ensures.own; allowed = c.known-2.ensures.allowed }) c.self.invariant.0.first c.deliver-delivered.ensures.ok c.deliver-delivered.ensures.err c.deliver-delivered.ensures.answer)

pub returns-clause-own : goal.returns-clause-own
returns-clause-own g c = subst (λ (p : Knows). Adds (Deliver c.args.number (arc_value c.args.m.now)) p.own c.deliver-delivered.result c.deliver-delivered.new.f.own) c.self.view_is (own-by (Deliver c.args.number (arc_value c.args.m.now)) c.deliver-delivered.result c.self.inside.feed c.deliver-delivered.new.f c.deliver-delivered.ensures.ok c.deliver-delivered.ensures.err)

pub returns-clause-told : goal.returns-clause-told
returns-clause-told g c = subst (λ (p : Knows). p.told ≤ c.deliver-delivered.new.f.told) c.self.view_is (told-by (entry 0 (Deliver c.args.number (arc_value c.args.m.now)) ∷ []) c.deliver-delivered.result c.self.inside.feed c.deliver-delivered.new.f c.deliver-delivered.ensures.ok c.deliver-delivered.ensures.err)

pub returns-clause-found : goal.returns-clause-found
returns-clause-found g c = found-by (Deliver c.args.number (arc_value c.args.m.now)) c.deliver-delivered.result c.self.inside.feed c.deliver-delivered.new.f c.deliver-delivered.ensures.ok c.deliver-delivered.ensures.err

pub invariant_of-self : goal.invariant_of-self
invariant_of-self g c = let held = (call-stays (g.S.Settles.library c.self.inside.lib.now) c.self.inside.store.now (entry 0 (Deliver c.args.number (arc_value c.args.m.now)) ∷ []) c.deliver-delivered.result c.self.inside.feed c.deliver-delivered.new.f refl (record { own = c.known.ensures.own; allowed = c.known.ensures.allowed }) (record { own = c.known-2.ensures.own; allowed = c.known-2.ensures.allowed }) (record { feed = c.self.invariant.0; fits = c.self.invariant.1 }) c.deliver-delivered.ensures.ok c.deliver-delivered.ensures.err).held in (held.feed, held.fits)
