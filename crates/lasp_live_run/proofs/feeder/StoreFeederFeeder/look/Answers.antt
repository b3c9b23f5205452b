use Rattle.std.proofs.Common.{◌≡◌, ◌≤◌, [], refl, subst}
use Rattle.lasp_live.specs.Turns.{Learns}
use Rattle.lasp_store.specs.Turn.{Knows, frame_of}
use Rattle.lasp_store_node.specs.View.{place_of}
use Rattle.lasp_live_run.proofs.FeederLaws.{turn-stays, turn-learned, own-stays, found-all}
use Rattle.lasp_live_run.proofs.feeder.StoreFeederFeeder.look.Goals as goal

pub returns-clause-place : goal.returns-clause-place
returns-clause-place g c = subst (λ (p : Knows). place_of c.look-state.new.h ≡ place_of p) c.self.view_is (turn-stays (g.S.Settles.library c.self.inside.lib.now) c.self.inside.store.now [] c.self.inside.feed c.look-state.new.h refl (record { own = c.known.ensures.own; allowed = c.known.ensures.allowed }) (record { own = c.known-2.ensures.own; allowed = c.known-2.ensures.allowed }) (record { feed = c.self.invariant.0; fits = c.self.invariant.1 }) c.look-state.ensures.turn).place

pub returns-clause-frame : goal.returns-clause-frame
returns-clause-frame g c = subst (λ (p : Knows). frame_of c.look-state.new.h ≡ frame_of p) c.self.view_is (turn-stays (g.S.Settles.library c.self.inside.lib.now) c.self.inside.store.now [] c.self.inside.feed c.look-state.new.h refl (record { own = c.known.ensures.own; allowed = c.known.ensures.allowed }) (record { own = c.known-2.ensures.own; allowed = c.known-2.ensures.allowed }) (record { feed = c.self.invariant.0; fits = c.self.invariant.1 }) c.look-state.ensures.turn).frame

pub returns-clause-learns : goal.returns-clause-learns
returns-clause-learns g c =
    subst (λ (p : Knows). Learns p.seen c.look-state.new.h.seen) c.self.view_is
    (turn-learned c.self.inside.feed c.look-state.new.h (record { own = c.known.ensures.own; allowed = c.known.ensures.allowed }) (record { own = c.known-2.ensures.own; allowed = c.known-2.ensures.allowed }) c.self.invariant.0.first c.look-state.ensures.turn)

pub returns-clause-own : goal.returns-clause-own
returns-clause-own g c = subst (λ (p : Knows). c.look-state.new.h.own ≡ p.own) c.self.view_is (own-stays c.self.inside.feed c.look-state.new.h c.look-state.ensures.turn)

pub returns-clause-told : goal.returns-clause-told
returns-clause-told g c = subst (λ (p : Knows). p.told ≤ c.look-state.new.h.told) c.self.view_is c.look-state.ensures.turn.told

pub returns-clause-found : goal.returns-clause-found
returns-clause-found g c = found-all c.self.inside.feed c.look-state.new.h c.look-state.ensures.turn

pub invariant_of-self : goal.invariant_of-self
invariant_of-self g c = let held = (turn-stays (g.S.Settles.library c.self.inside.lib.now) c.self.inside.store.now [] c.self.inside.feed c.look-state.new.h refl (record { own = c.known.ensures.own; allowed = c.known.ensures.allowed }) (record { own = c.known-2.ensures.own; allowed = c.known-2.ensures.allowed }) (record { feed = c.self.invariant.0; fits = c.self.invariant.1 }) c.look-state.ensures.turn).held in (held.feed, held.fits)
