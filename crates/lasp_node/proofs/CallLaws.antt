-- The calls and the reads that a node's core has after a call.
use Rattle.std.proofs.Common.{ℕ, ◌≡◌, ◌+◌, ◌≤◌, Bool, false, not, if◌then◌else◌, refl, sym, ap, subst, ◌∙◌, arith}
use Rattle.std.specs.Prelude.{List, [], ◌∷◌, ◌++◌, length, take, Option, Some, None, Result, Ok, Err, OnOk, OnErr, IsTrue}
use Rattle.std.specs.Option.{option_map}
use Rattle.std.specs.List.{AllByRecursion}
use Rattle.model_states.specs.Content.{Content}
use Rattle.model_states.specs.Threshold.{Threshold, meets}
use Rattle.model_graph.specs.Graph.{Decl}
use Rattle.model_graph.specs.Evaluation.{content_at}
use Rattle.model_journal.specs.Entry.{Act, Entry, Extend, Frame, entry}
use Rattle.model_journal.specs.Journal.{graph, vals, val}
use Rattle.model_journal.specs.Legal.{IsLegal}
use Rattle.model_journal.proofs.JournalLaws.{journal-later}
use Rattle.model_journal.proofs.LegalLaws.{legal-first}
use Rattle.model_journal.proofs.PlaceLaws.{take-front, take-whole}
use Rattle.model_core.specs.Core.{Core, Read, IsCore, IsParked, entered}
use Rattle.model_core.specs.Peer.{peer_of}
use Rattle.model_core.proofs.ReadLaws.{meets-grows}
use Rattle.model_core.proofs.ValidLaws.{val-ordered}
use Rattle.model_runs.specs.Calls.{fed, is_bind, unbound}
use Rattle.model_runs.proofs.MatchLaws.{append-nothing}
use Rattle.model_runs.proofs.FedLaws.{unbound-append}
use Rattle.model_core.proofs.PeerLaws.{peer-fresh}
use Rattle.model_world.specs.World.{shown_at}
use Rattle.lasp_core.specs.Core.{fresh_core, declared, opened_read, opened, closed, looked}
use Rattle.lasp_drive.specs.Node.{TakesIn, LearnsAnd, OnlyLearns, Grew, OnlyGrew, Sends, IsFresh, IsSettled}
use Rattle.lasp_drive.specs.Reads.{Reads, as_they_are, opens_next, closes_one, looks_once, releases, unmet, Grows}
use Rattle.lasp_drive.specs.declared.node.NodeStop.{NodeStop}
use Rattle.lasp_node.specs.View.{node_of, reads_of, posted_at, entries_sent}
use Rattle.lasp_node.specs.declared.node.LastSent.{LastSent}
use Rattle.lasp_node.specs.Settling.{AreBinds, HasBound}

-- one entry more that is no result
pub entered-calls : (old new : Core) (a : Act) → is_bind a ≡ false → new ≡ entered (entry 0 a) old → unbound new.entries ≡ unbound old.entries ++ fed a ∷ []
entered-calls old new a free is =
    ap (λ (c : Core). unbound c.entries) is ∙ unbound-append old.entries (entry 0 a ∷ []) ∙ ap (λ (b : Bool). unbound old.entries ++ (if not b then fed a ∷ [] else [])) free

pub declared-calls : (old new : Core) (e d : Decl) → e ≡ d → new ≡ declared (entry 0 (Extend e)) old → unbound new.entries ≡ unbound old.entries ++ fed (Extend d) ∷ []
declared-calls old new e d same is =
    ap (λ (c : Core). unbound c.entries) is ∙ unbound-append old.entries (entry 0 (Extend e) ∷ []) ∙ ap (λ (g : Decl). unbound old.entries ++ fed (Extend g) ∷ []) same

pub entered-reads : (old new : Core) (e : Entry) → new ≡ entered e old → reads_of new ≡ releases (vals new.frame new.entries) (reads_of old)
entered-reads old new e is = subst (λ (c : Core). reads_of c ≡ releases (vals c.frame c.entries) (reads_of old)) (sym is) refl

-- results alone
none-called : (low high place : ℕ) (more : List Entry) → AreBinds low high place more → unbound more ≡ []
none-called low high place [] all = refl
none-called low high place (e ∷ more) all =
    ap (λ (d : Entry). if not (is_bind d.act) then e ∷ unbound more else unbound more) all.3 ∙ none-called (all.0 + 1) high (place + 1) more all.4

pub settled-calls : (old new : Core) → HasBound old new → unbound new.entries ≡ unbound old.entries
settled-calls old new bound =
    ap unbound bound.binds.1 ∙ unbound-append old.entries bound.binds.0 ∙ ap (λ (h : List Entry). unbound old.entries ++ h) (none-called 0 (length (graph old.frame old.entries)) (length old.entries) bound.binds.0 bound.binds.2) ∙ append-nothing (unbound old.entries)

pub settled-reads : (old new : Core) → HasBound old new → reads_of new ≡ releases (vals new.frame new.entries) (reads_of old)
settled-reads old new bound = λ i. record { waiting = bound.parked i; opened = bound.opened i }

-- ---- what it shows

-- more entries, and each variable holds at least what it held
pub grows-behind : (X : Frame) (h more : List Entry) → IsLegal X (h ++ more) → Grows (vals X h) (vals X (h ++ more))
grows-behind X h more legal x threshold met =
    meets-grows threshold (val X h x) (val X (h ++ more) x) (val-ordered X h (legal-first X h more legal) x) (val-ordered X (h ++ more) legal x) ((journal-later X h more).grown x) met

pub core-grows : (old new : Core) (more : List Entry) → new.frame ≡ old.frame → new.entries ≡ old.entries ++ more → IsLegal new.frame new.entries → Grows (vals old.frame old.entries) (vals new.frame new.entries)
core-grows old new more frame entries legal =
    subst (λ (X : Frame). Grows (vals old.frame old.entries) (vals X new.entries)) (sym frame)
    (subst (λ (h : List Entry). Grows (vals old.frame old.entries) (vals old.frame h)) (sym entries)
    (grows-behind old.frame old.entries more (subst (λ (h : List Entry). IsLegal old.frame h) entries (subst (λ (X : Frame). IsLegal X new.entries) frame legal))))

pub entered-grows : (old new : Core) (e : Entry) → new ≡ entered e old → IsLegal new.frame new.entries → Grows (vals old.frame old.entries) (vals new.frame new.entries)
entered-grows old new e is = core-grows old new (e ∷ []) (ap (λ (c : Core). c.frame) is) (ap (λ (c : Core). c.entries) is)

pub declared-grows : (old new : Core) (e : Entry) → new ≡ declared e old → IsLegal new.frame new.entries → Grows (vals old.frame old.entries) (vals new.frame new.entries)
declared-grows old new e is = core-grows old new (e ∷ []) (ap (λ (c : Core). c.frame) is) (ap (λ (c : Core). c.entries) is)

pub settled-grows : (old new : Core) → HasBound old new → IsLegal new.frame new.entries → Grows (vals old.frame old.entries) (vals new.frame new.entries)
settled-grows old new bound = core-grows old new bound.binds.0 bound.frame bound.binds.1

-- no parked read is met
pub parked-unmet : (X : Frame) (h : List Entry) (rs : List Read) → AllByRecursion (IsParked X h) rs → rs ≡ unmet (vals X h) rs
parked-unmet X h [] all = refl
parked-unmet X h (r ∷ rs) all =
    ap (λ (more : List Read). r ∷ more) (parked-unmet X h rs all.1) ∙ sym (ap (λ (b : Bool). if not b then r ∷ unmet (vals X h) rs else unmet (vals X h) rs) all.0.unmet)

-- a core has released the reads that are met
pub reads-released : (c : Core) → IsCore c → reads_of c ≡ releases (vals c.frame c.entries) (reads_of c)
reads-released c core = ap (λ (rs : List Read). record { waiting = rs; opened = c.opened }) (parked-unmet c.frame c.entries c.parked core.parked)

-- ---- what it last sent

-- entries that come behind leave what it held then
pub posted-kept : (sent : Option LastSent) (old new : Core) (more : List Entry) → entries_sent sent ≤ length old.entries → new.frame ≡ old.frame → new.entries ≡ old.entries ++ more → option_map (posted_at new) sent ≡ option_map (posted_at old) sent
posted-kept None old new more early frame entries = refl
posted-kept (Some s) old new more early frame entries =
    let first : take s.entries new.entries ≡ take s.entries old.entries = ap (take s.entries) entries ∙ take-front old.entries more s.entries early in
    λ i. Some (record { number = s.number; contents = (peer_of (frame i) (first i)).contents })

-- all that it holds
pub posted-now : (s : LastSent) (c : Core) → s.entries ≡ length c.entries → posted_at c s ≡ record { number = s.number; contents = (peer_of c.frame c.entries).contents }
posted-now s c all =
    let whole : take s.entries c.entries ≡ c.entries = take-whole c.entries s.entries (omega (arith, all)) in
    λ i. record { number = s.number; contents = (peer_of c.frame (whole i)).contents }

pub declared-grew : (sent : Option LastSent) (old new : Core) (e : Entry) → entries_sent sent ≤ length old.entries → new ≡ declared e old → IsCore new → Grew (node_of old sent) (node_of new sent)
declared-grew sent old new e early is core = record {
  more = declared-grows old new e is core.legal;
  released = ap (λ (s : Reads). Some s) (reads-released new core ∙ ap (releases (vals new.frame new.entries)) (ap reads_of is));
  sent = posted-kept sent old new (e ∷ []) early (ap (λ (c : Core). c.frame) is) (ap (λ (c : Core). c.entries) is);
}

-- ---- a core that was asked

-- its journal is as it was, and a call made this of its reads
only-reads : (change : List Content → Reads → Reads) (sent : Option LastSent) (old new : Core) → IsCore old → new.frame ≡ old.frame → new.entries ≡ old.entries → reads_of new ≡ change (vals old.frame old.entries) (reads_of old)
    → LearnsAnd change (node_of old sent) (node_of new sent)
only-reads change sent old new core frame entries reads = record {
  learns = record {
    still = record { graph = (λ i. graph (frame i) (entries i)); replica = ap (λ (X : Frame). X.replica) frame; nodes = ap (λ (X : Frame). X.nodes) frame };
    peer = (λ i. peer_of (frame i) (entries i));
    calls = ap unbound entries;
    more = λ x threshold met. subst (λ (cs : List Content). IsTrue (meets threshold (content_at cs x))) (sym shown) met;
    settled = λ settled. shown;
  };
  reads = ap (λ (s : Reads). Some s) (reads ∙ ap (change (vals old.frame old.entries)) (reads-released old core) ∙ (λ i. change (sym shown i) (releases (sym shown i) (reads_of old))));
  sent = (λ i. option_map (λ (s : LastSent). record { number = s.number; contents = (peer_of (frame i) (take s.entries (entries i))).contents }) sent);
} where
  shown : vals new.frame new.entries ≡ vals old.frame old.entries
  shown = (λ i. vals (frame i) (entries i))

pub learned-none : (sent : Option LastSent) (old new : Core) → IsCore old → new ≡ old → OnlyLearns (node_of old sent) (node_of new sent)
learned-none sent old new core is = only-reads as_they_are sent old new core (ap (λ (c : Core). c.frame) is) (ap (λ (c : Core). c.entries) is) (ap reads_of is)

pub learned-opened : (sent : Option LastSent) (old new : Core) (x : ℕ) (t : Threshold) → IsCore old → new ≡ opened (opened_read old x t) old → LearnsAnd (opens_next x t) (node_of old sent) (node_of new sent)
learned-opened sent old new x t core is = only-reads (opens_next x t) sent old new core (ap (λ (c : Core). c.frame) is) (ap (λ (c : Core). c.entries) is) (ap reads_of is)

pub learned-closed : (sent : Option LastSent) (old new : Core) (number : ℕ) → IsCore old → new ≡ closed number old → LearnsAnd (closes_one number) (node_of old sent) (node_of new sent)
learned-closed sent old new number core is = only-reads (closes_one number) sent old new core (ap (λ (c : Core). c.frame) is) (ap (λ (c : Core). c.entries) is) (ap reads_of is)

pub learned-looked : (sent : Option LastSent) (old new : Core) → IsCore old → new ≡ looked old → LearnsAnd looks_once (node_of old sent) (node_of new sent)
learned-looked sent old new core is = only-reads looks_once sent old new core (ap (λ (c : Core). c.frame) is) (ap (λ (c : Core). c.entries) is) (ap reads_of is)

-- ---- where it is

-- an entry more, or none, leaves the frame
pub frame-stays : {A E : Type 0} (r : Result A E) (old new next : Core) → next.frame ≡ old.frame → OnOk r (new ≡ next) → OnErr r (new ≡ old) → new.frame ≡ old.frame
frame-stays (Ok a) old new next same is none = ap (λ (c : Core). c.frame) is ∙ same
frame-stays (Err e) old new next same none is = ap (λ (c : Core). c.frame) is

-- ---- a node after a call

-- it is the node that it was, and has sent what it holds
pub sends-all : (before : Option LastSent) (s : LastSent) (c : Core) (i : ℕ) → IsCore c → s.number ≡ i → s.entries ≡ length c.entries → Sends i (node_of c before) (node_of c (Some s))
sends-all before s c i core number all = record {
  learns = record { still = record { graph = refl; replica = refl; nodes = refl }; peer = refl; calls = refl; more = λ x threshold met. met; settled = λ settled. refl };
  reads = ap (λ (rs : Reads). Some rs) (reads-released c core);
  sent = posted-now s c all ∙ ap (λ (n : ℕ). record { number = n; contents = (peer_of c.frame c.entries).contents }) number;
}

-- one entry more, which leaves the graph
pub takes-ok : (sent : Option LastSent) (old new : Core) (a : Act) → entries_sent sent ≤ length old.entries → is_bind a ≡ false → graph old.frame (old.entries ++ entry 0 a ∷ []) ≡ graph old.frame old.entries → new ≡ entered (entry 0 a) old → IsLegal new.frame new.entries
    → TakesIn {A = Unit {0}} {E = NodeStop} a (node_of old sent) (Ok tt) (node_of new sent)
takes-ok sent old new a early free kept is legal = record {
  still = record {
    graph = ap (λ (c : Core). graph c.frame c.entries) is ∙ kept;
    replica = ap (λ (c : Core). c.frame.replica) is;
    nodes = ap (λ (c : Core). c.frame.nodes) is;
  };
  calls = entered-calls old new a free is;
  grew = record { more = entered-grows old new (entry 0 a) is legal; released = ap (λ (s : Reads). Some s) (entered-reads old new (entry 0 a) is); sent = posted-kept sent old new (entry 0 a ∷ []) early (ap (λ (c : Core). c.frame) is) (ap (λ (c : Core). c.entries) is) };
  refused = tt;
}

-- a core that is as it was
pub takes-none : (sent : Option LastSent) (old new : Core) (a : Act) (why : NodeStop) → IsCore old → new ≡ old → TakesIn {A = Unit {0}} {E = NodeStop} a (node_of old sent) (Err why) (node_of new sent)
takes-none sent old new a why core same = let learned = learned-none sent old new core same in record { still = learned.learns.still; calls = tt; grew = tt; refused = learned }

pub settled-grew : (sent : Option LastSent) (old new : Core) → entries_sent sent ≤ length old.entries → HasBound old new → IsLegal new.frame new.entries → OnlyGrew (node_of old sent) (node_of new sent)
settled-grew sent old new early bound legal = record {
  still = record { graph = bound.graph_is; replica = ap (λ (X : Frame). X.replica) bound.frame; nodes = ap (λ (X : Frame). X.nodes) bound.frame };
  peer = bound.peer;
  calls = settled-calls old new bound;
  grew = record { more = settled-grows old new bound legal; released = ap (λ (s : Reads). Some s) (settled-reads old new bound); sent = posted-kept sent old new bound.binds.0 early bound.frame bound.binds.1 };
}

-- what it shows is what its graph gives on its sources as they are
pub settled-shown : (sent : Option LastSent) (old new : Core) → HasBound old new → vals new.frame new.entries ≡ shown_at (graph old.frame old.entries) (peer_of old.frame old.entries) → IsSettled (node_of new sent)
settled-shown sent old new bound shown =
    shown ∙ ap (λ (g : List Decl). shown_at g (peer_of old.frame old.entries)) (sym bound.graph_is) ∙ ap (shown_at (graph new.frame new.entries)) (sym bound.peer)

pub fresh-node : (g : List Decl) (me nodes : ℕ) (c : Core) → c ≡ fresh_core g me nodes → IsFresh g nodes me (node_of c None)
fresh-node g me nodes c is = subst (λ (k : Core). IsFresh g nodes me (node_of k None)) (sym is) (record {
  node = record { graph = refl; replica = refl; nodes = refl };
  peer = peer-fresh (record { opening = g; replica = me; nodes = nodes });
  calls = refl;
  reads = refl;
  sent = refl;
})

pub on-err : {A E P Q : Type 0} (r : Result A E) → (P → Q) → OnErr r P → OnErr r Q
on-err (Ok a) f p = tt
on-err (Err e) f p = f p

pub if-err : {A E Q : Type 0} (r : Result A E) → Q → OnErr r Q
if-err (Ok a) q = tt
if-err (Err e) q = q
