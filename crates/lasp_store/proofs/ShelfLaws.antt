-- A version after more entries may be published behind one after fewer.
use Rattle.std.proofs.Common.{◌≡◌, ℕ, zero, suc, ◌<◌, ◌≤◌, List, [], ◌∷◌, ◌++◌, length, take, drop, refl, sym, ap, ◌∙◌, subst, le_trans, arith, append_assoc, take-append-drop, length-append}
use Rattle.std.proofs.lemmas.List.{length-map, take_all}
use Rattle.model_states.specs.Content.{IsContentAtMost}
use Rattle.model_graph.specs.Evaluation.{content_at}
use Rattle.model_graph.specs.Graph.{kind_at}
use Rattle.model_graph.specs.Lawful as lawful
use Rattle.model_graph.specs.Lawful.{IsDerived}
use Rattle.model_journal.specs.Entry.{Entry, Frame}
use Rattle.model_journal.specs.Journal.{graph, vals}
use Rattle.model_journal.specs.Legal.{IsLegal}
use Rattle.model_journal.proofs.CleanLaws.{vals-length}
use Rattle.model_journal.proofs.JournalLaws.{vals-grow}
use Rattle.model_core.proofs.BaseLaws.{graph-longer, kind-later}
use Rattle.model_versions.specs.Versions.{IsLater, AreAtMost}
use Rattle.model_versions.proofs.VersionLaws.{newest-last}
use Rattle.lasp_graph.specs.Evaluated.{number_by}
use Rattle.lasp_graph.specs.States.{Held, contents_of, held_at}
use Rattle.lasp_core.specs.Core.{AreOfKind}
use Rattle.lasp_core.specs.Listed.{GoesOn}
use Rattle.lasp_histlock.proofs.Prefixes.{prefix-length}
use Rattle.lasp_snap.proofs.Watching.{take_more}
use mathlib.Core.List.{IsPrefix}
use Rattle.lasp_snap.specs.Version.{Version, version, IsHeldAtMost, MayFollow, last_of}
use Rattle.lasp_snap.specs.Views.{ShelfView}
use Rattle.lasp_store.specs.Shelves.{IsVersionAt, IsShelfOf}
use Rattle.lasp_store.specs.Turn.{Knows, HadTurn, frame_of}
use Rattle.lasp_store.proofs.TurnLaws.{turn-frame, turn-seen}

pub content-of : (states : List Held) (x : ℕ) → content_at (contents_of states) x ≡ (held_at states x).content
content-of [] x = refl
content-of (h ∷ states) zero = refl
content-of (h ∷ states) (suc x) = content-of states x

-- lists whose states are at most those at the same places
at_most_each : (s t : List Held) → length s ≤ length t → ((x : ℕ) → x < length s → IsHeldAtMost (held_at s x) (held_at t x)) → AreAtMost IsHeldAtMost s t
at_most_each [] t le each = tt
at_most_each (h ∷ s) [] le each = absurd (omega arith)
at_most_each (h ∷ s) (k ∷ t) le each = (each 0 (omega arith), at_most_each s t (omega arith) (λ x lt. each (suc x) (omega arith)))

-- as many states as there are variables
states-many : (X : Frame) (entries : List Entry) (states : List Held) → IsLegal X entries → contents_of states ≡ vals X entries → length states ≡ length (graph X entries)
states-many X entries states legal is = sym (length-map states (λ (h : Held). h.content)) ∙ (ap length is ∙ vals-length X entries legal)

-- each derived variable's state has the number that its fold gives
abbrev AreNumbered : Frame → List Entry → List Held → Type 0
AreNumbered X entries states = (x : ℕ) → IsDerived (graph X entries) x → (held_at states x).number ≡ number_by (kind_at (graph X entries) x) (held_at states x).content

-- shares of a core's states are a version
pub is-version : (X : Frame) (entries : List Entry) (n : ℕ) (states held : List Held) → states ≡ held → IsLegal X entries → n ≡ length entries → contents_of held ≡ vals X entries → AreOfKind X.nodes (graph X entries) held → AreNumbered X entries held → length (graph X entries) ≤ 64 → IsVersionAt X entries (version n states)
is-version X entries n states held same legal count contents kinds numbers few =
    let many = states-many X entries held legal contents in
    subst (λ s. IsVersionAt X entries (version n s)) (sym same) (record { n = count; states = contents; kinds = kinds; numbers = numbers; many = many; small = omega (arith, many, few) })

module _ (X : Frame) (h k : List Entry) (u v : Version) (a : IsVersionAt X h u) (b : IsVersionAt X (h ++ k) v) where
  held-grows : (x : ℕ) → x < length u.states → IsHeldAtMost (held_at u.states x) (held_at v.states x)
  held-grows x lt =
      let low : x < length (graph X h) = omega (arith, a.many, lt) in
      let high : x < length (graph X (h ++ k)) = omega (arith, low, graph-longer X h k) in record {
        shape = a.kinds x low ∙ (ap (lawful.shape_of X.nodes) (sym (kind-later X h k x low)) ∙ sym (b.kinds x high));
        content = subst (λ c. IsContentAtMost c (held_at v.states x).content) (ap (λ cs. content_at cs x) (sym a.states) ∙ content-of u.states x)
            (subst (λ c. IsContentAtMost (content_at (vals X h) x) c) (ap (λ cs. content_at cs x) (sym b.states) ∙ content-of v.states x) (vals-grow X h k x));
      }

  pub version-later : IsLater IsHeldAtMost u v
  version-later = record {
    n = omega (arith, a.n, b.n, length-append h k);
    states = at_most_each u.states v.states (omega (arith, a.many, b.many, graph-longer X h k)) held-grows;
  }

-- what a feed has seen after a turn goes on from the entries of the version that was published last
module _ (old new : Knows) (s : ShelfView) (is : IsShelfOf old s) (frame : frame_of new ≡ frame_of old) (on : GoesOn old.seen new.seen) where
  abbrev taken : List Entry
  taken = take is.last.n old.seen

  abbrev rest : List Entry
  rest = drop is.last.n old.seen ++ on.0

  seen-is : new.seen ≡ taken ++ rest
  seen-is = on.1 ∙ (ap (λ l. l ++ on.0) (sym (take-append-drop is.last.n old.seen)) ∙ append_assoc taken (drop is.last.n old.seen) on.0)

  pub version-follows : (v : Version) → IsVersionAt (frame_of new) new.seen v → MayFollow (last_of s.published) v
  version-follows v at =
      let here : IsVersionAt (frame_of old) (taken ++ rest) v = subst (λ (z : Frame × List Entry). IsVersionAt z.0 z.1 v) (λ i. (frame i, seen-is i)) at in
      subst (λ o. MayFollow o v) (sym is.last_is) (version-later (frame_of old) taken rest is.last v is.version here)

-- a shelf whose last version is the one after all that the feed has seen is the feed's
pub shelf-published : (p : Knows) (s : ShelfView) (all : List Version) (v : Version) → s.published ≡ all ++ v ∷ [] → IsVersionAt (frame_of p) p.seen v → IsShelfOf p s
shelf-published p s all v published at = record {
  last = v;
  last_is = ap last_of published ∙ newest-last all v;
  seen = omega (arith, at.n);
  version = subst (λ l. IsVersionAt (frame_of p) l v) (sym (take_all v.n p.seen (omega (arith, at.n)))) at;
}

-- a shelf of a feed stays the feed's where what it has seen goes on
pub shelf-goes-on : (old new : Knows) (s : ShelfView) → frame_of new ≡ frame_of old → GoesOn old.seen new.seen → IsShelfOf old s → IsShelfOf new s
shelf-goes-on old new s frame on is =
    let longer : IsPrefix old.seen new.seen = (on.0, sym on.1) in
    let same : take is.last.n new.seen ≡ take is.last.n old.seen = take_more is.last.n old.seen new.seen longer is.seen in record {
      last = is.last;
      last_is = is.last_is;
      seen = le_trans is.seen (prefix-length old.seen new.seen longer);
      version = subst (λ (z : Frame × List Entry). IsVersionAt z.0 z.1 is.last) (λ i. (sym frame i, sym same i)) is.version;
    }

-- so it stays in the feed's turns
pub shelf-stays : (more : List Entry) (old new : Knows) (s : ShelfView) → HadTurn more old new → IsShelfOf old s → IsShelfOf new s
shelf-stays more old new s t is = shelf-goes-on old new s (turn-frame more old new t) (turn-seen more old new t) is

pub ruleset shelves = (version-later, version-follows, shelf-stays)
