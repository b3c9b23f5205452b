use Rattle.std.proofs.Common.{◌≡◌, ◌≤◌, ◌+◌, length, subst}
use Rattle.lasp_live.specs.Turns.{Learns, PassesOnce}
use Rattle.lasp_store.specs.Turn.{Knows, frame_of, graph_seen}
use Rattle.lasp_store_node.specs.View.{place_of}
use Rattle.lasp_live_run.proofs.FeederLaws.{settled-stays, settled-learned, settles-by, passed-own}
use Rattle.lasp_live_run.proofs.feeder.StoreFeederFeeder.settle_all.Goals as goal

pub returns-clause-place : goal.returns-clause-place
returns-clause-place g c = subst (λ (p : Knows). place_of c.settle-settled.new.f ≡ place_of p) c.self.view_is (settled-stays (g.S.Settles.library c.self.inside.lib.now) c.self.inside.store.now c.self.inside.feed c.settle-settled.new.f (record { feed = c.self.invariant.0; fits = c.self.invariant.1 }) c.settle-settled.ensures.seated c.settle-settled.ensures.graph c.settle-settled.ensures.pass).place

pub returns-clause-frame : goal.returns-clause-frame
returns-clause-frame g c = subst (λ (p : Knows). frame_of c.settle-settled.new.f ≡ frame_of p) c.self.view_is (settled-stays (g.S.Settles.library c.self.inside.lib.now) c.self.inside.store.now c.self.inside.feed c.settle-settled.new.f (record { feed = c.self.invariant.0; fits = c.self.invariant.1 }) c.settle-settled.ensures.seated c.settle-settled.ensures.graph c.settle-settled.ensures.pass).frame

pub returns-clause-learns : goal.returns-clause-learns
returns-clause-learns g c =
    subst (λ (p : Knows). Learns p.seen c.settle-settled.new.f.seen) c.self.view_is (settled-learned c.self.inside.feed c.settle-settled.new.f c.settle-settled.ensures.pass)

pub returns-clause-settles : goal.returns-clause-settles
returns-clause-settles g c = settles-by c.settle-settled.result (frame_of c.settle-settled.new.f) c.settle-settled.new.f.seen c.settle-settled.ensures.settled c.settle-settled.ensures.done

pub returns-clause-own : goal.returns-clause-own
returns-clause-own g c = subst (λ (p : Knows). PassesOnce (frame_of c.settle-settled.new.f) c.settle-settled.new.f.seen p.own c.settle-settled.new.f.own) c.self.view_is (passed-own (length (graph_seen c.settle-settled.new.f) + 3) c.self.inside.feed c.settle-settled.new.f c.settle-settled.ensures.once)

pub returns-clause-told : goal.returns-clause-told
returns-clause-told g c = subst (λ (p : Knows). p.told ≤ c.settle-settled.new.f.told) c.self.view_is c.settle-settled.ensures.pass.told

pub invariant_of-self : goal.invariant_of-self
invariant_of-self g c = let held = (settled-stays (g.S.Settles.library c.self.inside.lib.now) c.self.inside.store.now c.self.inside.feed c.settle-settled.new.f (record { feed = c.self.invariant.0; fits = c.self.invariant.1 }) c.settle-settled.ensures.seated c.settle-settled.ensures.graph c.settle-settled.ensures.pass).held in (held.feed, held.fits)
