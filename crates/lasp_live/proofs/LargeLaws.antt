-- What replicas hold that do the updates of a script before any node runs.
use Rattle.std.proofs.Common.{◌≡◌, ℕ, suc, ◌+◌, ◌<◌, ◌≤◌, Bool, true, false, if◌then◌else◌, IsTrue, List, [], ◌∷◌, ◌++◌, length, Option, Some, None, Result, Ok, Err, refl, sym, ap, subst, ◌∙◌, append-nil, arith}
use Rattle.std.specs.Prelude.{IfOk, drop, nat_lt, slice_get}
use Rattle.std.specs.List.{range_with_len}
use Rattle.std.proofs.lemmas.Bool.Decides.{nat_tests}
use Rattle.std.proofs.lemmas.List.{take_all}
use Rattle.model_core.specs.Core.{Core, entered}
use Rattle.lasp_core.specs.Core.{AreOfKind, fresh_core}
use Rattle.model_core.specs.Peer.{peer_of}
use Rattle.model_core.proofs.PeerLaws.{peer-fresh}
use Rattle.model_core.proofs.SourceLaws.{sources-length, sources-source}
use Rattle.model_graph.specs.Evaluation.{content_at, eval, first_large, least_of}
use Rattle.model_graph.specs.Graph.{Kind, OrSet, GSet, Counter, MaxReg, Union, Product, Intersection, Map, Filter, Fold, Decl, is_set, is_source, kind_at}
use Rattle.model_graph.specs.Lawful.{shape_of}
use Rattle.model_graph.proofs.EvalLaws.{eval-sources}
use Rattle.model_graph.proofs.PlaceLaws.{map-length}
use Rattle.model_journal.specs.Entry.{Deliver, Update, Entry, Frame, entry}
use Rattle.model_journal.specs.Journal.{declared, graph, vals}
use Rattle.model_journal.specs.Legal.{IsLegal}
use Rattle.model_journal.proofs.CleanLaws.{vals-length}
use Rattle.model_journal.proofs.LegalLaws.{legal-first, legal-last}
use Rattle.model_graph.specs.Message.{Message, brought, sent_at, source_number, with_gain}
use Rattle.model_graph.proofs.MessageLaws.{gained-at, sent-is}
use Rattle.model_runs.specs.Calls.{fed, frame_of}
use Rattle.model_states.specs.Content.{Content, join_contents, row_limit, size_of}
use Rattle.model_states.specs.Threshold.{set}
use Rattle.model_states.specs.Update.{Op}
use Rattle.model_world.specs.Command.{Command, Script}
use Rattle.model_world.specs.Lawful.{IsLawful, opening_stage}
use Rattle.model_world.specs.World.{Peer, delivered, fresh_peer, message_at, updated}
use Rattle.model_live.specs.Steps.{Prints, Sends, Updates, Step, Does, Waits, step_at, steps}
use Rattle.model_live.specs.Words.{AreLive}
use Rattle.model_live.specs.Together.{after_steps, alone, together, too_large}
use Rattle.model_live.proofs.AloneLaws.{joined-at, later-steps, steps-suited, suited-among, together-length}
use Rattle.model_live.proofs.HearLaws.{delivered-peer, graph-opens, updated-peer}
use Rattle.model_live.proofs.StoryLaws.{declared-append}
use Rattle.model_live.proofs.WithinLaws.{source-suits}
use Rattle.lasp_graph.specs.Evaluated.{AreSets, AreSmall, Evaluates, seen}
use Rattle.lasp_graph.specs.States.{Held, contents_of}
use Rattle.lasp_graph.specs.declared.inputs.EvalAll.{EvalAll}
use Rattle.lasp_graph.specs.declared.inputs.EvalAll.TheVariants as evals
use Rattle.lasp_script.specs.Command.{command_of, until_of}
use Rattle.lasp_script.specs.declared.command.Command as written
use Rattle.lasp_state.specs.State.{op_of}
use Rattle.lasp_live.specs.Did.{IsStepAt}
use Rattle.lasp_live.specs.Large.{HasStepped, IsAlone, IsAloneAt, IsLargeOf, IsSmallStep, IsTogether, IsTogetherFrom}
use Rattle.lasp_live.specs.Own.{steps_before}
use Rattle.lasp_live.specs.Step.{IsStepOf}
use Rattle.lasp_live.specs.declared.step.Step as code
use Rattle.lasp_live.specs.declared.step.Step.TheVariants as variant
use Rattle.lasp_live.proofs.CommandLaws.{command-may, small-op}
use Rattle.lasp_live.proofs.DeadLaws.{dead-large}
use Rattle.lasp_live.proofs.OwnStepLaws.{all-around, before-skip, peer-still, peer-updates}

-- ---- one node

pub alone-begins : (g : List Decl) (script : Script) (p : ℕ) → IsAloneAt g script p 0 (fresh_core g p script.nodes)
unfolding after_steps steps
alone-begins g script p = record { frame = refl; undeclared = refl; peer = peer-fresh (frame_of g script.nodes p) }

pub alone-updates : (g : List Decl) (script : Script) (p i x : ℕ) (o : Op) (core : Core) → IsLawful g script → IsAloneAt g script p i core → IsStepAt script p i (Does (Updates x o)) → IsLegal core.frame (core.entries ++ entry 0 (Update x o) ∷ [])
    → IsAloneAt g script p (i + 1) (entered (entry 0 (Update x o)) core)
alone-updates g script p i x o core lawful at step legal = record {
  frame = at.frame;
  undeclared = declared-append core.entries (fed (Update x o) ∷ []) ∙ append-nil (declared core.entries) ∙ at.undeclared;
  peer =
      updated-peer core.frame core.entries x o legal (subst (λ (l : List Decl). x < length l) (sym opens) low) (subst (λ (l : List Decl). IsTrue (is_source (kind_at l x))) (sym opens) source)
      ∙ ap (λ (X : Frame). updated X.replica x o (peer_of core.frame core.entries)) at.frame
      ∙ ap (updated p x o) at.peer
      ∙ sym (peer-updates g script p i x o step);
} where
  opens : graph core.frame core.entries ≡ g
  opens = graph-opens core.frame core.entries at.undeclared ∙ ap (λ (X : Frame). X.opening) at.frame

  low : x < length g
  low = subst (λ (l : List Decl). x < length l) opens (legal-last core.frame core.entries (fed (Update x o)) legal).0

  source : IsTrue (is_source (kind_at g x))
  source =
      source-suits g script o (kind_at g x)
      (suited-among g (steps p 1 script.commands) (steps_before script p i) (Does (Updates x o)) (steps p (i + 2) (drop (i + 1) script.commands)) (all-around script p i (Does (Updates x o)) step)
      (steps-suited g [] script.nodes p 1 (opening_stage g) (sym (append-nil g)) script.commands lawful.each) low)

pub alone-still : (g : List Decl) (script : Script) (p i : ℕ) (s : Step) (core : Core) → IsAloneAt g script p i core → IsStepAt script p i s → ((r : Peer) → after_steps p (s ∷ []) r ≡ r) → IsAloneAt g script p (i + 1) core
alone-still g script p i s core at step still = record { frame = at.frame; undeclared = at.undeclared; peer = at.peer ∙ sym (peer-still g script p i s step still) }

pub alone-skips : (g : List Decl) (script : Script) (p i : ℕ) (k : Command) (core : Core) → IsAloneAt g script p i core → slice_get script.commands i ≡ Some k → step_at p (i + 1) k ≡ [] → IsAloneAt g script p (i + 1) core
alone-skips g script p i k core at there none = record {
  frame = at.frame;
  undeclared = at.undeclared;
  peer = at.peer ∙ ap (λ (l : List Step). after_steps p l (fresh_peer g script.nodes)) (sym (before-skip script p i k there none));
}

-- what a step of the code made of it
pub alone-next : (g : List Decl) (script : Script) (p i : ℕ) (k : written.Command) (step : Option code.Step) (core new : Core) → IsLawful g script → IsAloneAt g script p i core → slice_get script.commands i ≡ Some (command_of k) → IsStepOf p k step → HasStepped step core new
    → IsAloneAt g script p (i + 1) new
unfolding after_steps
alone-next g script p i k None core new lawful at there is did = subst (IsAloneAt g script p (i + 1)) (sym did) (alone-skips g script p i (command_of k) core at there (is (i + 1)))
alone-next g script p i k (Some (variant.Update x op)) core new lawful at there is did =
    subst (IsAloneAt g script p (i + 1)) (sym did.0)
    (alone-updates g script p i x (op_of op) core lawful at (record { command = command_of k; at = there; step = is (i + 1) }) (subst (λ (c : Core). IsLegal c.frame c.entries) did.0 did.1))
alone-next g script p i k (Some variant.Send) core new lawful at there is did =
    subst (IsAloneAt g script p (i + 1)) (sym did) (alone-still g script p i (Does Sends) core at (record { command = command_of k; at = there; step = is (i + 1) }) (λ r. refl))
alone-next g script p i k (Some (variant.Print x)) core new lawful at there is did =
    subst (IsAloneAt g script p (i + 1)) (sym did) (alone-still g script p i (Does (Prints x)) core at (record { command = command_of k; at = there; step = is (i + 1) }) (λ r. refl))
alone-next g script p i k (Some (variant.Await x until)) core new lawful at there is did =
    subst (IsAloneAt g script p (i + 1)) (sym did) (alone-still g script p i (Waits (i + 1) x (until_of until.now)) core at (record { command = command_of k; at = there; step = is (i + 1) }) (λ r. refl))

-- the operations of a script are small
pub small-step : (g : List Decl) (script : Script) (p i nodes : ℕ) (k : written.Command) (step : Option code.Step) → IsLawful g script → AreLive script.commands → slice_get script.commands i ≡ Some (command_of k) → IsStepOf p k step → IsSmallStep nodes step
small-step g script p i nodes k None lawful live there is = tt
small-step g script p i nodes k (Some (variant.Update x op)) lawful live there is = small-op nodes op (command-may g script p (i + 1) i (command_of k) (Does (Updates x (op_of op))) lawful live there (is (i + 1)))
small-step g script p i nodes k (Some variant.Send) lawful live there is = tt
small-step g script p i nodes k (Some (variant.Print x)) lawful live there is = tt
small-step g script p i nodes k (Some (variant.Await x until)) lawful live there is = tt

pub alone-ends : (g : List Decl) (script : Script) (p i : ℕ) (core : Core) → IsAloneAt g script p i core → length script.commands ≤ i → IsAlone g script p core
alone-ends g script p i core at past = record {
  frame = at.frame;
  undeclared = at.undeclared;
  peer = at.peer ∙ ap (λ (ks : List Command). after_steps p (steps p 1 ks) (fresh_peer g script.nodes)) (take_all i script.commands past);
}

-- ---- all nodes

pub together-begins : (g : List Decl) (script : Script) → IsTogetherFrom g script script.nodes 0 (fresh_core g 0 script.nodes)
unfolding together
together-begins g script = record {
  all = omega arith;
  frame = refl;
  undeclared = refl;
  contents = λ x low source. ap (λ (r : Peer). content_at r.contents x) (peer-fresh (frame_of g script.nodes 0));
}

alone-size : (g : List Decl) (script : Script) (p : ℕ) → length (alone g script p).contents ≡ length g
alone-size g script p = (later-steps p (steps p 1 script.commands) (fresh_peer g script.nodes)).size ∙ map-length (λ (d : Decl). least_of script.nodes d.kind) g

-- what a source gains by a message
gains : (g : List Decl) (m : Message) (r : Peer) (x : ℕ) → x < length r.contents → IsTrue (is_source (kind_at g x)) → content_at (delivered g m r).contents x ≡ join_contents (content_at r.contents x) (sent_at m.sources (source_number g x))
gains g m r x low source =
    gained-at (brought g m) 0 r.contents x low
    ∙ ap (λ (n : ℕ). with_gain (content_at r.contents x) (brought g m n)) (let here : 0 + x ≡ x = omega arith in here)
    ∙ ap (λ (b : Bool). with_gain (content_at r.contents x) (if b then Some (sent_at m.sources (source_number g x)) else None)) source

pub together-next : (g : List Decl) (script : Script) (p many number : ℕ) (core other : Core) (m : Message) → IsTogetherFrom g script (p + 1) many core → IsAlone g script p other
    → m ≡ message_at (graph other.frame other.entries) (peer_of other.frame other.entries) → IsLegal core.frame (core.entries ++ entry 0 (Deliver number m) ∷ []) → IsTogetherFrom g script p (many + 1) (entered (entry 0 (Deliver number m)) core)
unfolding together
together-next g script p many number core other m at one is legal = record {
  all = omega (arith, at.all);
  frame = at.frame;
  undeclared = declared-append core.entries (fed (Deliver number m) ∷ []) ∙ append-nil (declared core.entries) ∙ at.undeclared;
  contents = λ x low source. each x low source;
} where
  X : Frame
  X = core.frame

  h : List Entry
  h = core.entries

  opens : graph X h ≡ g
  opens = graph-opens X h at.undeclared ∙ ap (λ (X : Frame). X.opening) at.frame

  sends : m ≡ message_at g (alone g script p)
  sends = is ∙ (λ i. message_at ((graph-opens other.frame other.entries one.undeclared ∙ ap (λ (X : Frame). X.opening) one.frame) i) (one.peer i))

  size : length (peer_of X h).contents ≡ length g
  size = sources-length (graph X h) (vals X h) (vals-length X h (legal-first X h (fed (Deliver number m) ∷ []) legal)) ∙ ap (λ (l : List Decl). length l) opens

  rest : List Content
  rest = together g script (range_with_len (p + 1) many)

  each : (x : ℕ) → x < length g → IsTrue (is_source (kind_at g x)) → content_at (peer_of X (h ++ entry 0 (Deliver number m) ∷ [])).contents x ≡ content_at (together g script (range_with_len p (many + 1))) x
  each x low source =
      ap (λ (r : Peer). content_at r.contents x) (delivered-peer X h number m legal ∙ ap (λ (l : List Decl). delivered l m (peer_of X h)) opens)
      ∙ gains g m (peer_of X h) x (omega (arith, low, size)) source
      ∙ (λ i. join_contents (at.contents x low source i) (sent_at (sends i).sources (source_number g x)))
      ∙ ap (join_contents (content_at rest x)) (sent-is g (alone g script p).contents x low (alone-size g script p) source)
      ∙ sym (joined-at (alone g script p).contents rest x (omega (arith, low, together-length g script (range_with_len (p + 1) many))))
      ∙ ap (λ (n : ℕ). content_at (together g script (range_with_len p n)) x) (let next : suc many ≡ many + 1 = omega arith in next)

pub together-ends : (g : List Decl) (script : Script) (many : ℕ) (core : Core) → IsTogetherFrom g script 0 many core → IsTogether g script core
together-ends g script many core at = record {
  frame = at.frame;
  undeclared = at.undeclared;
  contents = λ x low source. at.contents x low source ∙ ap (λ (n : ℕ). content_at (together g script (range_with_len 0 n)) x) (let all : many ≡ script.nodes = omega (arith, at.all) in all);
}

-- ---- what is too large

-- what follows from what all hold together is too large where what follows from all rows, removed, is
pub large-together : (g : List Decl) (script : Script) (core : Core) → IsTogether g script core → IsLegal core.frame core.entries → first_large 0 (eval g (vals core.frame core.entries)) ≡ too_large g script
large-together g script core at legal =
    ap (first_large 0) (eval-sources g (vals X h) all (λ x low source. sym (sources-source (graph X h) (vals X h) x (subst (λ (l : List Decl). x < length l) (sym opens) low) (subst (λ (l : List Decl). IsTrue (is_source (kind_at l x))) (sym opens) source)) ∙ at.contents x low source))
    ∙ sym (dead-large g all) where
      X : Frame
      X = core.frame

      h : List Entry
      h = core.entries

      all : List Content
      all = together g script (range_with_len 0 script.nodes)

      opens : graph X h ≡ g
      opens = graph-opens X h at.undeclared ∙ ap (λ (X : Frame). X.opening) at.frame

-- ---- that a core's sources may be evaluated

-- the sets among the sources are held as sets
set-shape : (nodes : ℕ) (k : Kind) → IsTrue (is_source k) → IsTrue (is_set k) → shape_of nodes k ≡ set
set-shape nodes OrSet source is = refl
set-shape nodes GSet source is = absurd (let no : false ≡ true = is in cc)
set-shape nodes Counter source is = absurd (let no : false ≡ true = is in cc)
set-shape nodes MaxReg source is = absurd (let no : false ≡ true = is in cc)
set-shape nodes (Union x y) source is = absurd (let no : false ≡ true = source in cc)
set-shape nodes (Product x y) source is = absurd (let no : false ≡ true = source in cc)
set-shape nodes (Intersection x y) source is = absurd (let no : false ≡ true = source in cc)
set-shape nodes (Map x place ops) source is = absurd (let no : false ≡ true = source in cc)
set-shape nodes (Filter x place ops) source is = absurd (let no : false ≡ true = source in cc)
set-shape nodes (Fold x o place lift) source is = absurd (let no : false ≡ true = source in cc)

pub sets-of : (nodes : ℕ) (g h : List Decl) (states : List Held) → g ≡ h → AreOfKind nodes h states → AreSets g states
sets-of nodes g h states is kinds x low source sets =
    subst (λ (ds : List Decl). AreOfKind nodes ds states) (sym is) kinds x low ∙ set-shape nodes (kind_at g x) source sets

-- ---- what evaluation tells

none-large : (n : ℕ) (cs : List Content) → AreSmall cs → first_large n cs ≡ None
none-large n [] small = refl
none-large n (s ∷ cs) small =
    ap (λ (b : Bool). if b then Some n else first_large (n + 1) cs) (let fits : nat_lt row_limit (size_of s) ≡ false = grind (arith, nat_tests, small.0) in fits)
    ∙ none-large (n + 1) cs small.1

told-large : (r : Result (List Held) EvalAll) (cs : List Content) (large : Option ℕ) → Evaluates (seen contents_of r) cs → IsLargeOf r large → large ≡ first_large 0 cs
told-large (Ok states) cs large exact is = is ∙ sym (none-large 0 cs exact.1)
told-large (Err (evals.TooLarge x)) cs large exact is = is ∙ sym exact
told-large (Err evals.Memory) cs large exact is = absurd is

-- the variable that is told is the first that comes to be too large
pub same-large : {E : Type 0} (g : List Decl) (script : Script) (core : Core) (contents : List Content) (r : Result (List Held) EvalAll) (result : Result (Option ℕ) E) → IsTogether g script core → IsLegal core.frame core.entries
    → contents ≡ vals core.frame core.entries → Evaluates (seen contents_of r) (eval g contents) → IfOk result (IsLargeOf r) → IfOk result (λ large. large ≡ too_large g script)
same-large g script core contents r (Ok large) at legal held exact is =
    told-large r (eval g contents) large exact is ∙ ap (λ (cs : List Content). first_large 0 (eval g cs)) held ∙ large-together g script core at legal
same-large g script core contents r (Err why) at legal held exact is = tt

pub ruleset larges = (alone-begins, alone-next, alone-ends, small-step, together-begins, together-next, together-ends, large-together)
