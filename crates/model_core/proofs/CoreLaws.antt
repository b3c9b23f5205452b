-- What each entry leaves of a core.
use Rattle.std.proofs.Common.{◌≡◌, ℕ, ◌+◌, ◌≤◌, ◌<◌, Bool, true, not, IsTrue, IsFalse, List, [], ◌∷◌, ◌++◌, length, map, take, filter, None, ap, ◌∙◌, arith}
use Rattle.std.specs.List.{AllByRecursion}
use Rattle.std.proofs.lemmas.Bool.{not-true, not_from_false}
use Rattle.model_values.proofs.ListLaws.{each-weaker}
use Rattle.model_states.specs.Counts.{count_at}
use Rattle.model_states.specs.Content.{Content, join_contents, size_of, row_limit}
use Rattle.model_states.specs.Threshold.{meets}
use Rattle.model_states.specs.Update.{Op, delta}
use Rattle.model_graph.specs.Graph.{Decl, kind_at}
use Rattle.model_graph.specs.Evaluation.{equation, first_large}
use Rattle.model_graph.specs.Lawful.{variable_limit, IsDerived, sources_among}
use Rattle.model_graph.specs.Message.{Message}
use Rattle.model_readings.specs.Lawful as readings
use Rattle.model_wire.specs.Lawful.{IsMessage}
use Rattle.model_world.specs.World.{delivered}
use Rattle.model_runs.specs.Held.{IsHeld, IsUpdate}
use Rattle.model_runs.proofs.EachLaws.{each-append}
use Rattle.model_journal.specs.Entry.{Update, Deliver, Bind, Extend, Entry, Frame}
use Rattle.model_journal.specs.Journal.{graph, vals, val, counts}
use Rattle.model_journal.specs.Legal.{IsLegal}
use Rattle.model_core.specs.Peer.{peer_of}
use Rattle.model_core.specs.Core.{Read, Core, is_met, entered, released, IsParked, IsCore}
use Rattle.model_core.proofs.BaseLaws.{graph-longer, derived-take}
use Rattle.model_core.proofs.LegalLaws.{legal-start, legal-update, legal-deliver, legal-bind, legal-bind-now, legal-extend}
use Rattle.model_core.proofs.HeldLaws.{held-start, held-update, held-deliver, held-bind, held-extend}
use Rattle.model_core.proofs.ReadLaws.{suits-stays, each-kept, all-kept, none-kept}

parked-later : (X : Frame) (h more : List Entry) (r : Read) → not (is_met X (h ++ more) r) ≡ true → IsParked X h r → IsParked X (h ++ more) r
parked-later X h more r unmet p = record {
  declared = omega (arith, p.declared, graph-longer X h more);
  suits_it = suits-stays X h more r.var r.threshold p.declared p.suits_it;
  unmet = not-true (is_met X (h ++ more) r) unmet;
}

pub entered-core : (c : Core) (e : Entry) → IsCore c → IsLegal c.frame (c.entries ++ e ∷ []) → IsHeld c.frame.nodes (graph c.frame (c.entries ++ e ∷ [])) (peer_of c.frame (c.entries ++ e ∷ [])) → IsCore (entered e c)
entered-core c e core legal held = record {
  legal = legal;
  held = held;
  few = core.few;
  parked = each-kept (IsParked c.frame c.entries) (IsParked c.frame (c.entries ++ e ∷ [])) (λ r. not (is_met c.frame (c.entries ++ e ∷ []) r)) (λ r unmet p. parked-later c.frame c.entries (e ∷ []) r unmet p) c.parked core.parked;
}

-- ---- a core at its start, and each entry that code may make

pub core-start : (X : Frame) (busy : List ℕ) (opened owed : ℕ) → readings.IsGraph X.opening → X.replica < X.nodes → X.nodes ≤ 8 → IsCore (record { frame = X; entries = []; parked = []; busy = busy; opened = opened; owed = owed })
core-start X busy opened owed ok member few = record { legal = legal-start X ok member; held = held-start X; few = few; parked = tt }

pub core-update : (c : Core) → IsCore c → (e : Entry) (y : ℕ) (op : Op) → e.act ≡ Update y op → y < length (graph c.frame c.entries) → IsUpdate c.frame.nodes (graph c.frame c.entries) y op
    → count_at (counts c.frame c.entries) c.frame.replica < 100000
    → size_of (join_contents (val c.frame c.entries y) (delta op (val c.frame c.entries y) c.frame.replica (count_at (counts c.frame c.entries) c.frame.replica + 1))) ≤ row_limit → IsCore (entered e c)
core-update c core e y op is low update room small =
    entered-core c e core (legal-update c.frame c.entries core.legal e y op is low update room small) (held-update c.frame c.entries core.legal core.held e y op is low update room small)

pub core-deliver : (c : Core) → IsCore c → (e : Entry) (i : ℕ) (m : Message) → e.act ≡ Deliver i m → IsMessage m → length m.counts ≡ c.frame.nodes
    → ((more : List Decl) × (map (λ s. s.decl) m.sources ++ more ≡ sources_among (graph c.frame c.entries)))
    → first_large 0 (delivered (graph c.frame c.entries) m (peer_of c.frame c.entries)).contents ≡ None → IsCore (entered e c)
core-deliver c core e i m is message wide first fits =
    entered-core c e core (legal-deliver c.frame c.entries core.legal e i m is message wide first fits) (held-deliver c.frame c.entries core.legal core.held e i m is message wide first fits)

pub core-bind : (c : Core) → IsCore c → (e : Entry) (y n : ℕ) → e.act ≡ Bind y n → n ≤ length c.entries → IsDerived (graph c.frame (take n c.entries)) y
    → size_of (equation (kind_at (graph c.frame c.entries) y) (vals c.frame (take n c.entries))) ≤ row_limit → IsCore (entered e c)
core-bind c core e y n is low was fits =
    entered-core c e core (legal-bind c.frame c.entries core.legal e y n is low was fits) (held-bind c.frame c.entries core.legal core.held e y n is (derived-take c.frame c.entries n y was))

pub core-extend : (c : Core) → IsCore c → (e : Entry) (d : Decl) → e.act ≡ Extend d → readings.IsNext (graph c.frame c.entries) d → length (graph c.frame c.entries) < variable_limit → IsCore (entered e c)
core-extend c core e d is next room = entered-core c e core (legal-extend c.frame c.entries core.legal e d is next room) (held-extend c.frame c.entries core.legal core.held e d is)

-- a bind that reads what stands
pub core-bind-now : (c : Core) → IsCore c → (e : Entry) (y : ℕ) → e.act ≡ Bind y (length c.entries) → IsDerived (graph c.frame c.entries) y
    → size_of (equation (kind_at (graph c.frame c.entries) y) (vals c.frame c.entries)) ≤ row_limit → IsCore (entered e c)
core-bind-now c core e y is d fits =
    entered-core c e core (legal-bind-now c.frame c.entries core.legal e y is d fits) (held-bind c.frame c.entries core.legal core.held e y (length c.entries) is d)

-- ---- what is no entry: other reads, callers and numbers

pub core-with : (c : Core) → IsCore c → (parked : List Read) (busy : List ℕ) (opened owed : ℕ) → AllByRecursion (IsParked c.frame c.entries) parked
    → IsCore (record { frame = c.frame; entries = c.entries; parked = parked; busy = busy; opened = opened; owed = owed })
core-with c core parked busy opened owed each = record { legal = core.legal; held = core.held; few = core.few; parked = each }

-- one read more waits
pub each-parked : (c : Core) → IsCore c → (r : Read) → IsParked c.frame c.entries r → AllByRecursion (IsParked c.frame c.entries) (c.parked ++ r ∷ [])
each-parked c core r waits = each-append (IsParked c.frame c.entries) c.parked (r ∷ []) core.parked (waits, tt)

-- some of the reads go on waiting
pub some-parked : (c : Core) → IsCore c → (p : Read → Bool) → AllByRecursion (IsParked c.frame c.entries) (filter p c.parked)
some-parked c core p = each-kept (IsParked c.frame c.entries) (IsParked c.frame c.entries) p (λ r e waits. waits) c.parked core.parked

-- ---- which reads an entry releases

-- no variable that is waited for changed
abbrev pub IsStill : Entry → Core → Read → Type 0
IsStill e c r = val c.frame (c.entries ++ e ∷ []) r.var ≡ val c.frame c.entries r.var

still-unmet : (c : Core) (e : Entry) (reads : List Read) → AllByRecursion (IsParked c.frame c.entries) reads → AllByRecursion (IsStill e c) reads → AllByRecursion (λ r. IsFalse (is_met c.frame (c.entries ++ e ∷ []) r)) reads
still-unmet c e [] parked still = tt
still-unmet c e (r ∷ reads) parked still = (ap (λ (s : Content). meets r.threshold s) still.0 ∙ parked.0.unmet, still-unmet c e reads parked.1 still.1)

pub parked-still : (c : Core) (e : Entry) → IsCore c → AllByRecursion (IsStill e c) c.parked → (entered e c).parked ≡ c.parked
parked-still c e core still =
    all-kept (λ r. not (is_met c.frame (c.entries ++ e ∷ []) r)) c.parked
    (each-weaker (λ r. IsFalse (is_met c.frame (c.entries ++ e ∷ []) r)) (λ r. IsTrue (not (is_met c.frame (c.entries ++ e ∷ []) r))) (λ r unmet. not_from_false (is_met c.frame (c.entries ++ e ∷ []) r) unmet) c.parked
    (still-unmet c e c.parked core.parked still))

pub released-still : (c : Core) (e : Entry) → IsCore c → AllByRecursion (IsStill e c) c.parked → released e c ≡ []
released-still c e core still = none-kept (is_met c.frame (c.entries ++ e ∷ [])) c.parked (still-unmet c e c.parked core.parked still)

-- each read that is released is met
pub released-met : (c : Core) (e : Entry) → IsCore c → AllByRecursion (λ r. IsTrue (is_met c.frame (c.entries ++ e ∷ []) r)) (released e c)
released-met c e core =
    each-kept (IsParked c.frame c.entries) (λ r. IsTrue (is_met c.frame (c.entries ++ e ∷ []) r)) (is_met c.frame (c.entries ++ e ∷ [])) (λ r met p. met) c.parked core.parked

pub ruleset cores = (entered-core, core-start, core-update, core-deliver, core-bind, core-bind-now, core-extend, core-with, each-parked, some-parked)

pub ruleset releases = (parked-still, released-still, released-met)
