use Rattle.std.proofs.Common.{◌≡◌, subst}
use Rattle.model_journal.specs.Callers.{AreMadeByTheirCallers, made_by}
use Rattle.model_journal.specs.Legal.{IsLegal}
use Rattle.lasp_store.specs.Turn.{Knows, frame_of}
use Rattle.lasp_live_run.proofs.FeederLaws.{made-all, own-made}
use Rattle.lasp_live_run.proofs.feeder.StoreFeederFeeder.recall.Goals as goal

pub returns-clause-legal : goal.returns-clause-legal
returns-clause-legal g c = subst (λ (p : Knows). IsLegal (frame_of p) p.seen) c.self.view_is c.self.invariant.0.seated.legal

pub returns-clause-made : goal.returns-clause-made
returns-clause-made g c = subst (λ (p : Knows). AreMadeByTheirCallers p.seen) c.self.view_is (made-all c.self.inside.feed.seen c.known.ensures.allowed)

pub returns-clause-own : goal.returns-clause-own
returns-clause-own g c = subst (λ (p : Knows). p.own ≡ made_by 0 p.seen) c.self.view_is (own-made c.self.inside.feed c.self.invariant.0.first (record { own = c.known.ensures.own; allowed = c.known.ensures.allowed }))
