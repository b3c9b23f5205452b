-- The message of what came to a core since its first entries is a tail of the core's message.
use Rattle.std.proofs.Common.{◌≡◌, ℕ, suc, pos, ◌<◌, ◌≤◌, ◌⊎◌, inl, inr, IsTrue, List, [], ◌∷◌, length, take, drop, refl, sym, ap, subst, ◌∙◌, arith}
use Rattle.std.specs.Prelude.{Result, Ok, Err, IfOk}
use Rattle.model_states.specs.Content.{Content, least, join_contents, IsOrdered, IsContentAtMost}
use Rattle.model_states.specs.Counts.{count_at}
use Rattle.model_states.specs.Threshold.{set}
use Rattle.model_states.proofs.ContentLaws.{join-above}
use Rattle.model_graph.specs.Graph.{Decl, Kind, OrSet, GSet, Counter, MaxReg, Union, Product, Intersection, Map, Filter, Fold, is_source, kind_at}
use Rattle.model_graph.specs.Evaluation.{content_at}
use Rattle.model_graph.specs.Lawful.{shape_of}
use Rattle.model_graph.proofs.PlaceLaws.{below-or-not, at-past, at-map}
use Rattle.model_graph.specs.Message.{Message, Sent, message_of, content_since}
use Rattle.model_graph.proofs.MessageLaws.{sent-is, sent-among}
use Rattle.model_readings.specs.Lawful.{IsGraph}
use Rattle.model_wire.specs.Lawful.{IsMessage, IsSource}
use Rattle.model_deltas.proofs.DeltaLaws.{changed-lawful}
use Rattle.model_deltas.proofs.ChangeLaws.{changed-joined}
use Rattle.model_world.specs.World.{Peer, message_at}
use Rattle.model_runs.specs.Held.{AreBelow, IsHeld}
use Rattle.model_runs.specs.Part.{IsTail}
use Rattle.model_runs.proofs.HeldLaws.{held-message}
use Rattle.model_journal.specs.Entry.{Entry, Frame}
use Rattle.model_journal.specs.Journal.{journal, graph, vals, val, counts, sources, sources_from}
use Rattle.model_journal.specs.Legal.{IsLegal}
use Rattle.model_journal.proofs.CleanLaws.{take-and-drop, vals-length}
use Rattle.model_journal.proofs.GainLaws.{least_of-derived}
use Rattle.model_journal.proofs.JournalLaws.{journal-later}
use Rattle.model_journal.proofs.LegalLaws.{legal-first}
use Rattle.model_journal.proofs.StandLaws.{journal-valid}
use Rattle.model_journal.proofs.StepLaws.{IsLater}
use Rattle.model_core.specs.Core.{Core, IsCore}
use Rattle.model_core.specs.Peer.{peer_of}
use Rattle.model_core.proofs.SourceLaws.{sources-length, sources-source, sources-derived, sources-sent}
use Rattle.model_core.proofs.ValidLaws.{val-ordered}
use Rattle.lasp_graph.specs.States.{Held, contents_of, AreSourcesOfKind}
use Rattle.lasp_graph.proofs.Evaluation.{length-contents}
use Rattle.lasp_core.specs.Since.{AreStatesSince, IsTailSince}

-- ---- the counts

-- those of a legal journal are within the format
below-each : (cs : List ℕ) (most : ℕ) → ((q : ℕ) → count_at cs q < most) → AreBelow most cs
below-each [] most low = tt
below-each (n ∷ cs) most low = (low 0, below-each cs most (λ q. low (suc q)))

pub counts-below : (c : Core) → IsCore c → AreBelow 100001 (counts c.frame c.entries)
counts-below c core = below-each (counts c.frame c.entries) 100001 (λ q. omega (arith, (journal-valid c.frame c.entries core.legal).counts q))

-- ---- one source

-- what came since may be sent
tail-source : (nodes : ℕ) (k : Kind) (s t : Content) → IsSource nodes k t → IsSource nodes k (content_since k s t)
tail-source nodes OrSet s t is = let changed = changed-lawful nodes OrSet s t is in subst (IsSource nodes OrSet) changed.1 changed
tail-source nodes GSet s t is = is
tail-source nodes Counter s t is = is
tail-source nodes MaxReg s t is = is
tail-source nodes (Union x y) s t is = absurd is
tail-source nodes (Product x y) s t is = absurd is
tail-source nodes (Intersection x y) s t is = absurd is
tail-source nodes (Map x place ops) s t is = absurd is
tail-source nodes (Filter x place ops) s t is = absurd is
tail-source nodes (Fold x op place lift) s t is = absurd is

-- joined behind what stood before, it is what stands now
tail-joined : (nodes : ℕ) (k : Kind) (s t : Content) → IsSource nodes k t → IsOrdered t → length s.counts ≤ length t.counts → IsContentAtMost s t → join_contents s (content_since k s t) ≡ t
tail-joined nodes OrSet s t is up wide low = ap (join_contents s) (sym (changed-lawful nodes OrSet s t is).1) ∙ changed-joined s t up wide low
tail-joined nodes GSet s t is up wide low = join-above s t up wide low
tail-joined nodes Counter s t is up wide low = join-above s t up wide low
tail-joined nodes MaxReg s t is up wide low = join-above s t up wide low
tail-joined nodes (Union x y) s t is up wide low = absurd is
tail-joined nodes (Product x y) s t is up wide low = absurd is
tail-joined nodes (Intersection x y) s t is up wide low = absurd is
tail-joined nodes (Map x place ops) s t is up wide low = absurd is
tail-joined nodes (Filter x place ops) s t is up wide low = absurd is
tail-joined nodes (Fold x op place lift) s t is up wide low = absurd is

-- ---- earlier entries

module _ (X : Frame) (h : List Entry) (legal : IsLegal X h) (n : ℕ) where
  abbrev first : List Entry
  first = take n h

  later : IsLater (journal X first).now (journal X h).now
  later = subst (λ (k : List Entry). IsLater (journal X first).now (journal X k).now) (take-and-drop h n) (journal-later X first (drop n h))

  legal-then : IsLegal X first
  legal-then = legal-first X first (drop n h) (subst (IsLegal X) (sym (take-and-drop h n)) legal)

  -- a source held then what its variable did, or it wasn't declared
  pub earlier-source : (x : ℕ) → IsTrue (is_source (kind_at (graph X h) x)) → content_at (sources X first) x ≡ val X first x
  earlier-source x source = choose (below-or-not x (length (graph X first))) where
    long : length (vals X first) ≡ length (graph X first)
    long = vals-length X first legal-then

    choose : (x < length (graph X first)) ⊎ (length (graph X first) ≤ x) → content_at (sources X first) x ≡ val X first x
    choose (inl low) = sources-source (graph X first) (vals X first) x low (ap (λ (d : Decl). is_source d.kind) (sym (later.kept x low)) ∙ source)
    choose (inr past) =
        at-past (sources X first) x least (omega (arith, past, long, sources-length (graph X first) (vals X first) long))
        ∙ sym (at-past (vals X first) x least (omega (arith, past, long)))

-- ---- the states

module _ (X : Frame) (h : List Entry) (n : ℕ) (states : List Held) (since : AreStatesSince X h n states) where
  pub contents-long : length (contents_of states) ≡ length (graph X h)
  contents-long = length-contents states ∙ since.long

  pub told : (x : ℕ) → x < length (graph X h) → content_at (contents_of states) x ≡ content_since (kind_at (graph X h) x) (val X (take n h) x) (val X h x)
  told x low = at-map (λ (s : Held). s.content) states x (record { shape = set; content = least; number = pos 0 }) ∙ since.contents x low

-- ---- the message

module _ (c : Core) (core : IsCore c) (n : ℕ) (states : List Held) (since : AreStatesSince c.frame c.entries n states) where
  abbrev g : List Decl
  g = graph c.frame c.entries

  abbrev before : ℕ → Content
  before x = val c.frame (take n c.entries) x

  abbrev now : ℕ → Content
  now x = val c.frame c.entries x

  source-now : (x : ℕ) → x < length g → IsTrue (is_source (kind_at g x)) → IsSource c.frame.nodes (kind_at g x) (now x)
  source-now x low source = subst (IsSource c.frame.nodes (kind_at g x)) (sources-source g (vals c.frame c.entries) x low source) (core.held.sources x low source)

  -- a replica that holds these states
  abbrev tail-peer : Peer
  tail-peer = record { contents = sources_from g (contents_of states); counts = counts c.frame c.entries }

  tail-held : IsHeld c.frame.nodes g tail-peer
  tail-held = record {
    long = sources-length g (contents_of states) (contents-long c.frame c.entries n states since);
    wide = core.held.wide;
    sources = λ x low source. subst (IsSource c.frame.nodes (kind_at g x)) (sym (sources-source g (contents_of states) x low source ∙ told c.frame c.entries n states since x low))
        (tail-source c.frame.nodes (kind_at g x) (before x) (now x) (source-now x low source));
    derived = λ x low process. sources-derived g (contents_of states) x low process ∙ sym (least_of-derived c.frame.nodes (kind_at g x) process);
  }

  -- it may be sent
  pub tail-lawful : IsGraph g → IsMessage (message_of g (contents_of states) (counts c.frame c.entries))
  tail-lawful lawful =
      subst (λ (sent : List Sent). IsMessage (record { counts = counts c.frame c.entries; sources = sent })) (sources-sent g (contents_of states))
      (held-message c.frame.nodes g tail-peer lawful (omega (arith, core.legal.member)) core.few tail-held (counts-below c core))

  pub tail-is : IsTail g (peer_of c.frame (take n c.entries)).contents (peer_of c.frame c.entries).contents (message_at g (peer_of c.frame c.entries)) (message_of g (contents_of states) (counts c.frame c.entries))
  tail-is = record {
    counts = refl;
    named = sent-among g (contents_of states) (contents-long c.frame c.entries n states since) ∙ sym (sent-among g (sources c.frame c.entries) (sources-length g (vals c.frame c.entries) (vals-length c.frame c.entries core.legal)));
    joins = λ x low source.
        ap (join_contents (content_at (sources c.frame (take n c.entries)) x)) (sent-is g (contents_of states) x low (contents-long c.frame c.entries n states since) source ∙ told c.frame c.entries n states since x low)
        ∙ ap (λ (s : Content). join_contents s (content_since (kind_at g x) (before x) (now x))) (earlier-source c.frame c.entries core.legal n x source)
        ∙ tail-joined c.frame.nodes (kind_at g x) (before x) (now x) (source-now x low source) (val-ordered c.frame c.entries core.legal x)
        ((later c.frame c.entries core.legal n).wider x) ((later c.frame c.entries core.legal n).grown x)
        ∙ sym (sources-source g (vals c.frame c.entries) x low source);
  }

  -- ---- the message as it is put together: of this graph and these counts

  module _ (ds : List Decl) (cs : List ℕ) (decls : ds ≡ g) (known : cs ≡ counts c.frame c.entries) where
    same : message_of ds (contents_of states) cs ≡ message_of g (contents_of states) (counts c.frame c.entries)
    same i = message_of (decls i) (contents_of states) (known i)

    pub sent-lawful : IsGraph g → IsMessage (message_of ds (contents_of states) cs)
    sent-lawful lawful = subst IsMessage (sym same) (tail-lawful lawful)

    pub sent-long : length states ≡ length ds
    sent-long = since.long ∙ sym (ap length decls)

    pub sent-kinds : AreSourcesOfKind (length cs) ds states
    sent-kinds x low source =
        since.shapes x (subst (λ (g : List Decl). x < length g) decls low)
        ∙ (λ i. shape_of (sym wide i) (kind_at (sym decls i) x))
      where
        wide : length cs ≡ c.frame.nodes
        wide = ap length known ∙ core.held.wide

    pub sent-tail : {E : Type 0} (r : Result Message E) → IfOk r (λ m. m ≡ message_of ds (contents_of states) cs) → IfOk r (IsTailSince c.frame c.entries n)
    sent-tail (Ok m) is = record { states = states; since = since; message = is ∙ same; tail = subst (IsTail g (peer_of c.frame (take n c.entries)).contents (peer_of c.frame c.entries).contents (message_at g (peer_of c.frame c.entries))) (sym (is ∙ same)) tail-is }
    sent-tail (Err e) is = tt
