use Rattle.std.proofs.Common.{◌≡◌, ◌≤◌, [], refl, subst}
use Rattle.lasp_live.specs.Turns.{Learns}
use Rattle.lasp_store.specs.Turn.{Knows, frame_of}
use Rattle.lasp_store_node.specs.View.{place_of}
use Rattle.lasp_live_run.proofs.FeederLaws.{turn-stays, turn-learned, own-stays, found-all}
use Rattle.lasp_live_run.proofs.feeder.StoreFeederFeeder.message.Goals as goal

pub returns-clause-place : goal.returns-clause-place
returns-clause-place g c = subst (λ (p : Knows). place_of c.message-message.new.f ≡ place_of p) c.self.view_is (turn-stays (g.S.Settles.library c.self.inside.lib.now) c.self.inside.store.now [] c.self.inside.feed c.message-message.new.f refl (record { own = c.known.ensures.own; allowed = c.known.ensures.allowed }) (record { own = c.known-2.ensures.own; allowed = c.known-2.ensures.allowed }) (record { feed = c.self.invariant.0; fits = c.self.invariant.1 }) c.message-message.ensures.turn).place

pub returns-clause-frame : goal.returns-clause-frame
returns-clause-frame g c = subst (λ (p : Knows). frame_of c.message-message.new.f ≡ frame_of p) c.self.view_is (turn-stays (g.S.Settles.library c.self.inside.lib.now) c.self.inside.store.now [] c.self.inside.feed c.message-message.new.f refl (record { own = c.known.ensures.own; allowed = c.known.ensures.allowed }) (record { own = c.known-2.ensures.own; allowed = c.known-2.ensures.allowed }) (record { feed = c.self.invariant.0; fits = c.self.invariant.1 }) c.message-message.ensures.turn).frame

pub returns-clause-learns : goal.returns-clause-learns
returns-clause-learns g c =
    subst (λ (p : Knows). Learns p.seen c.message-message.new.f.seen) c.self.view_is
    (turn-learned c.self.inside.feed c.message-message.new.f (record { own = c.known.ensures.own; allowed = c.known.ensures.allowed }) (record { own = c.known-2.ensures.own; allowed = c.known-2.ensures.allowed }) c.self.invariant.0.first c.message-message.ensures.turn)

pub returns-clause-own : goal.returns-clause-own
returns-clause-own g c = subst (λ (p : Knows). c.message-message.new.f.own ≡ p.own) c.self.view_is (own-stays c.self.inside.feed c.message-message.new.f c.message-message.ensures.turn)

pub returns-clause-told : goal.returns-clause-told
returns-clause-told g c = subst (λ (p : Knows). p.told ≤ c.message-message.new.f.told) c.self.view_is c.message-message.ensures.turn.told

pub returns-clause-found : goal.returns-clause-found
returns-clause-found g c = found-all c.self.inside.feed c.message-message.new.f c.message-message.ensures.turn

pub invariant_of-self : goal.invariant_of-self
invariant_of-self g c = let held = (turn-stays (g.S.Settles.library c.self.inside.lib.now) c.self.inside.store.now [] c.self.inside.feed c.message-message.new.f refl (record { own = c.known.ensures.own; allowed = c.known.ensures.allowed }) (record { own = c.known-2.ensures.own; allowed = c.known-2.ensures.allowed }) (record { feed = c.self.invariant.0; fits = c.self.invariant.1 }) c.message-message.ensures.turn).held in (held.feed, held.fits)
