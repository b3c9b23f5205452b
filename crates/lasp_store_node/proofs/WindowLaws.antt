-- A node's shelf stays its feed's, and what its spy shows is the state that the feed has seen.
use Rattle.std.proofs.Common.{◌≡◌, ℕ, ◌<◌, ◌≤◌, inl, inr, List, length, take, Option, Some, None, refl, sym, ap, subst, ◌∙◌, arith}
use Rattle.std.specs.Prelude.{IfSome, slice_get}
use Rattle.std.proofs.lemmas.List.{take_all}
use mathlib.Core.List.{IsPrefix}
use Rattle.model_journal.specs.Entry.{Entry, Frame}
use Rattle.model_journal.specs.Journal.{graph}
use Rattle.model_graph.specs.Graph.{Decl, kind_at}
use Rattle.model_graph.specs.Evaluation.{content_at}
use Rattle.model_world.specs.World.{shown_at}
use Rattle.model_versions.specs.Versions.{entries_in, states_in}
use Rattle.lasp_state.specs.declared.state.State.{State}
use Rattle.lasp_graph.specs.Evaluated.{number_by}
use Rattle.lasp_graph.specs.States.{Held, held_of, held_at}
use Rattle.lasp_graph.proofs.SourceLists.{held_found}
use Rattle.lasp_core.specs.Core.{state_after}
use Rattle.lasp_core.proofs.JobLaws.{state-told}
use Rattle.lasp_histlock.proofs.Prefixes.{prefix_trans, prefix_whole}
use Rattle.lasp_drive.specs.Node.{IsSettled, OnlyGrew, OnlyLearns}
use Rattle.lasp_drive.specs.Reads.{as_they_are}
use Rattle.lasp_snap.specs.Version.{Version, entries_last, states_last}
use Rattle.lasp_snap.specs.Views.{ShelfView, SpyView, Looked}
use Rattle.lasp_store.specs.Shelves.{IsVersionAt, IsShelfOf}
use Rattle.lasp_store.specs.Settled.{HasSettled}
use Rattle.lasp_store.specs.Turn.{Knows, HadTurn, frame_in, frame_of, graph_seen}
use Rattle.lasp_store.proofs.ShelfLaws.{shelf-goes-on, shelf-stays, content-of}
use Rattle.lasp_store_node.specs.Lent.{IsLent}
use Rattle.lasp_store_node.specs.View.{Seen, Place, core_at, node_seen}
use Rattle.lasp_store_node.specs.Window.{IsShownLast}
use Rattle.lasp_store_node.proofs.LentLaws.{learns-chain}

-- ---- the shelf

pub window-turn : (more : List Entry) (old new : Knows) (w : Option ShelfView) → HadTurn more old new → IfSome w (IsShelfOf old) → IfSome w (IsShelfOf new)
window-turn more old new None t is = tt
window-turn more old new (Some s) t is = shelf-stays more old new s t is

pub window-settled : (old new : Knows) (w : Option ShelfView) → HasSettled old new → IfSome w (IsShelfOf old) → IfSome w (IsShelfOf new)
window-settled old new None h is = tt
window-settled old new (Some s) h is = shelf-goes-on old new s (ap frame_of h.pass) (h.seen.0, h.seen.1) is

pub window-lent : (old new : Knows) (w : Option ShelfView) → IsLent old new → IfSome w (IsShelfOf old) → IfSome w (IsShelfOf new)
window-lent old new None l is = tt
window-lent old new (Some s) l is = shelf-goes-on old new s (ap (λ (q : Place). frame_in q.frame) l.place) l.goes_on is

pub ruleset windows = (window-turn, window-settled, window-lent)

-- ---- the spy

-- where a reading was taken, and as much is seen as the shelf told of, that is what is seen
pub shown-last : (told : List Version) (old new : SpyView) (entries x : ℕ) (h : Held) → IsPrefix told old.heard → Looked old new → old.looks < new.looks → length new.seen ≡ length told → entries_last new.seen ≡ entries → slice_get (states_last new.seen) x ≡ Some h → IsShownLast told entries x h
shown-last told old new entries x h heard looked more long last state = elim looked.look [
  | inl taken ↦ let same : told ≡ new.seen = prefix_whole told new.seen (prefix_trans told old.heard new.seen heard taken.2) (omega (arith, long)) in
      subst (λ l. IsShownLast l entries x h) (sym same) (record { entries_is = last; state = state })
  | inr none ↦ absurd (omega (arith, more, none.0))
]

-- the state in a version after all that the pass has seen
version-state : (X : Frame) (entries : List Entry) (v : Version) (x : ℕ) (s : State) → IsVersionAt X entries v → x < length (graph X entries) → slice_get v.states x ≡ Some (held_of s) → held_of s ≡ state_after X entries x
version-state X entries v x s is low at =
    let there : held_at v.states x ≡ held_of s = sym (held_found v.states x (held_of s) at) in
    state-told (core_at X entries) x s low (record {
      content = sym (ap (λ (h : Held). h.content) there) ∙ sym (content-of v.states x) ∙ ap (λ cs. content_at cs x) is.states;
      shape = sym (ap (λ (h : Held). h.shape) there) ∙ is.kinds x low;
      number = λ derived. subst (λ (h : Held). h.number ≡ number_by (kind_at (graph X entries) x) h.content) there (is.numbers x derived);
    })

-- what is shown last is what the pass has seen, where it has seen no fewer entries
pub shown-seen : (p : Knows) (s : ShelfView) (entries x : ℕ) (state : State) → IsShelfOf p s → length p.seen ≤ entries → IsShownLast s.published entries x (held_of state) → x < length (graph_seen p) → held_of state ≡ state_after (frame_of p) p.seen x
shown-seen p s entries x state is few shown low =
    let count : is.last.n ≡ entries = sym (ap entries_in is.last_is) ∙ shown.entries_is in
    let whole : take is.last.n p.seen ≡ p.seen = take_all is.last.n p.seen (omega (arith, count, few)) in
    version-state (frame_of p) p.seen is.last x state (subst (λ l. IsVersionAt (frame_of p) l is.last) whole is.version) low
    (ap (λ o. slice_get (states_in o) x) (sym is.last_is) ∙ shown.state)

-- ---- the node that was settled and has published

module _ (a b c : Seen) where
  pub grew-learned : OnlyGrew (node_seen a) (node_seen b) → OnlyLearns (node_seen b) (node_seen c) → OnlyGrew (node_seen a) (node_seen c)
  grew-learned x y = let l = y.learns in record {
    still = record { graph = l.still.graph ∙ x.still.graph; replica = l.still.replica ∙ x.still.replica; nodes = l.still.nodes ∙ x.still.nodes };
    peer = l.peer ∙ x.peer;
    calls = l.calls ∙ x.calls;
    grew = record { more = λ v threshold met. l.more v threshold (x.grew.more v threshold met); released = refl; sent = y.sent ∙ x.grew.sent };
  }

  pub learned-chain : OnlyLearns (node_seen a) (node_seen b) → OnlyLearns (node_seen b) (node_seen c) → OnlyLearns (node_seen a) (node_seen c)
  learned-chain x y = learns-chain as_they_are a b c x y

pub learned-settled : (b c : Seen) → OnlyLearns (node_seen b) (node_seen c) → IsSettled (node_seen b) → IsSettled (node_seen c)
learned-settled b c y settled = let l = y.learns in l.settled settled ∙ settled ∙ (λ i. shown_at (sym l.still.graph i) (sym l.peer i))

pub learned-low : (b c : Seen) (x : ℕ) → OnlyLearns (node_seen b) (node_seen c) → x < length (graph_seen b.feed) → x < length (graph_seen c.feed)
learned-low b c x y low = subst (λ (g : List Decl). x < length g) (sym y.learns.still.graph) low

pub ruleset shows = (grew-learned, learned-chain, learned-settled, learned-low)

pub ruleset peeks = (shown-last, shown-seen)
