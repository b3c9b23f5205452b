use Rattle.std.proofs.Common.{◌≡◌, ◌≤◌, ◌∷◌, [], refl, subst}
use Rattle.model_journal.specs.Entry.{Update, entry}
use Rattle.lasp_live.specs.Turns.{Adds, Updates}
use Rattle.lasp_state.specs.State.{op_of}
use Rattle.lasp_store.specs.Turn.{Knows, frame_of}
use Rattle.lasp_store_node.specs.View.{place_of}
use Rattle.lasp_live_run.proofs.FeederLaws.{call-stays, updates-by, own-by, told-by, found-by}
use Rattle.lasp_live_run.proofs.feeder.StoreFeederFeeder.update.Goals as goal

pub returns-clause-place : goal.returns-clause-place
returns-clause-place g c = subst (λ (p : Knows). place_of c.update-updated.new.f ≡ place_of p) c.self.view_is (call-stays (g.S.Settles.library c.self.inside.lib.now) c.self.inside.store.now (entry 0 (Update c.args.var (op_of c.args.op.now)) ∷ []) c.update-updated.result c.self.inside.feed c.update-updated.new.f refl (record { own = c.known.ensures.own; allowed = c.known.ensures.allowed }) (record { own = c.known-2.ensures.own; allowed = c.known-2.ensures.allowed }) (record { feed = c.self.invariant.0; fits = c.self.invariant.1 }) c.update-updated.ensures.ok c.update-updated.ensures.err).place

pub returns-clause-frame : goal.returns-clause-frame
returns-clause-frame g c = subst (λ (p : Knows). frame_of c.update-updated.new.f ≡ frame_of p) c.self.view_is (call-stays (g.S.Settles.library c.self.inside.lib.now) c.self.inside.store.now (entry 0 (Update c.args.var (op_of c.args.op.now)) ∷ []) c.update-updated.result c.self.inside.feed c.update-updated.new.f refl (record { own = c.known.ensures.own; allowed = c.known.ensures.allowed }) (record { own = c.known-2.ensures.own; allowed = c.known-2.ensures.allowed }) (record { feed = c.self.invariant.0; fits = c.self.invariant.1 }) c.update-updated.ensures.ok c.update-updated.ensures.err).frame

pub returns-clause-answer : goal.returns-clause-answer
returns-clause-answer g c =
    subst (λ (p : Knows). Updates (frame_of p) c.args.var c.args.op.now p.seen c.update-updated.result c.update-updated.new.f.seen) c.self.view_is
    (updates-by c.update-updated.result c.args.var c.args.op.now c.self.inside.feed c.update-updated.new.f (record { own = c.known.ensures.own; allowed = c.known.ensures.allowed }) (record { own = c.known-2.ensures.own; allowed = c.known-2.ensures.allowed }) c.self.invariant.0.first c.update-updated.ensures.ok c.update-updated.ensures.err c.update-updated.ensures.answer)

pub returns-clause-own : goal.returns-clause-own
returns-clause-own g c = subst (λ (p : Knows). Adds (Update c.args.var (op_of c.args.op.now)) p.own c.update-updated.result c.update-updated.new.f.own) c.self.view_is (own-by (Update c.args.var (op_of c.args.op.now)) c.update-updated.result c.self.inside.feed c.update-updated.new.f c.update-updated.ensures.ok c.update-updated.ensures.err)

pub returns-clause-told : goal.returns-clause-told
returns-clause-told g c = subst (λ (p : Knows). p.told ≤ c.update-updated.new.f.told) c.self.view_is (told-by (entry 0 (Update c.args.var (op_of c.args.op.now)) ∷ []) c.update-updated.result c.self.inside.feed c.update-updated.new.f c.update-updated.ensures.ok c.update-updated.ensures.err)

pub returns-clause-found : goal.returns-clause-found
returns-clause-found g c = found-by (Update c.args.var (op_of c.args.op.now)) c.update-updated.result c.self.inside.feed c.update-updated.new.f c.update-updated.ensures.ok c.update-updated.ensures.err

pub invariant_of-self : goal.invariant_of-self
invariant_of-self g c = let held = (call-stays (g.S.Settles.library c.self.inside.lib.now) c.self.inside.store.now (entry 0 (Update c.args.var (op_of c.args.op.now)) ∷ []) c.update-updated.result c.self.inside.feed c.update-updated.new.f refl (record { own = c.known.ensures.own; allowed = c.known.ensures.allowed }) (record { own = c.known-2.ensures.own; allowed = c.known-2.ensures.allowed }) (record { feed = c.self.invariant.0; fits = c.self.invariant.1 }) c.update-updated.ensures.ok c.update-updated.ensures.err).held in (held.feed, held.fits)
