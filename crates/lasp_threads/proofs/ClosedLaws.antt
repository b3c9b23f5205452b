-- What is known of the cores of stores that were closed behind a run.
use Rattle.std.proofs.Common.{◌≡◌, ℕ, ◌+◌, ◌<◌, Bool, true, false, not, cond, suc, List, [], ◌∷◌, ◌++◌, map, length, inl, inr, ◌⊎◌, refl, sym, ap, subst, ◌∙◌, append-nil, arith}
use Rattle.std.specs.Prelude.{Some, slice_get, All, Ok, ◌≢◌}
use Rattle.std.proofs.lemmas.List.Elements.{All-head, All-tail, filter-append}
use Rattle.std.proofs.lemmas.List.{length-map}
use Rattle.std.proofs.lemmas.Option.{slice_get_within, same_Some}
use Rattle.model_graph.specs.Graph.{Decl}
use Rattle.model_journal.specs.Callers.{MayMake}
use Rattle.model_journal.specs.Entry.{Act, Update, Deliver, Bind, Extend, Entry, Frame}
use Rattle.model_journal.specs.Journal.{vals, counts}
use Rattle.model_journal.specs.Legal.{IsLegal}
use Rattle.model_core.specs.Core.{Core}
use Rattle.model_core.specs.Peer.{peer_of}
use Rattle.model_runs.specs.Calls.{is_bind, unbound, calls}
use Rattle.model_core.specs.Traced.{IsTraced, AreTraced}
use Rattle.model_world.specs.Command.{Script}
use Rattle.model_world.specs.World.{Run, start, ended, peer_at}
use Rattle.lasp_histlock.specs.History.{added}
use Rattle.lasp_histlock.specs.Names.{LockId}
use Rattle.lasp_histlock.specs.Steps.{SomeOut}
use Rattle.lasp_store.specs.Settled.{IsBind, AreBinds, evaluation}
use Rattle.lasp_store.specs.Turn.{Knows, frame_in, frame_of}
use Rattle.lasp_store.proofs.EvaluatedLaws.{kept-binds, same-evaluation, evaluated-alone}
use Rattle.lasp_threads.specs.Closed.{IsClosable, AreClosable, IsClosed, AreClosed}
use Rattle.lasp_threads.specs.Stores.{frame_at, AreBack, HaveRun}
use Rattle.lasp_threads.proofs.ListLaws.{at-place, mapped-from, at-or-last}

-- ---- what stands behind what the feed had seen

-- who isn't the feed makes results alone
other-binds : (by : ℕ) (act : Act) → by ≢ 0 → MayMake by act → IsBind act
other-binds by (Update x op) other may = absurd (other may)
other-binds by (Deliver i m) other may = absurd (other may)
other-binds by (Bind y n) other may = tt
other-binds by (Extend d) other may = absurd (other may)

pub others-bind : (more : List Entry) → All (λ (e : Entry). e.by ≢ 0) more → All (λ (e : Entry). MayMake e.by e.act) more → AreBinds more
others-bind [] others may = tt
others-bind (e ∷ more) others may = (
  other-binds e.by e.act (All-head (λ (e : Entry). e.by ≢ 0) e more others) (All-head (λ (e : Entry). MayMake e.by e.act) e more may),
  others-bind more (All-tail (λ (e : Entry). e.by ≢ 0) e more others) (All-tail (λ (e : Entry). MayMake e.by e.act) e more may),
)

-- what is said of a list is said of its end
pub All-behind : {A : Type 0} (P : A → Type 0) (first more : List A) → All P (first ++ more) → All P more
All-behind P [] more all = all
All-behind P (x ∷ first) more all = All-behind P first more (All-tail P x (first ++ more) all)

-- no hand is out, and the feed is in no turn
pub none-out : (lock : LockId) (f : Knows) → IsClosable lock f → (f.turn ≡ true) ⊎ SomeOut f.made f.back → ⊥
none-out lock f is (inl turn) = let clash : true ≡ false = sym turn ∙ is.feed.seated.idle in cc
none-out lock f is (inr (k, some, low, out)) = let clash : true ≡ false = sym (is.hands k some low) ∙ out in cc

-- what the closed store answered is the feed's core
pub closed-of : (f : Knows) (core : Core) → Some core.frame ≡ f.frame → core.entries ≡ f.seen ++ added f.seen core.entries → All (λ (e : Entry). e.by ≢ 0) (added f.seen core.entries)
    → All (λ (e : Entry). MayMake e.by e.act) core.entries → IsLegal core.frame core.entries → IsClosed f core
closed-of f core frame list others may legal = record {
  frame = frame;
  entries = (
    added f.seen core.entries,
    list,
    others-bind (added f.seen core.entries) others (All-behind (λ (e : Entry). MayMake e.by e.act) f.seen (added f.seen core.entries) (subst (All (λ (e : Entry). MayMake e.by e.act)) list may)),
  );
  legal = legal;
}

-- results are no calls
bind-is : (act : Act) → IsBind act → is_bind act ≡ true
bind-is (Update x op) is = absurd is
bind-is (Deliver i m) is = absurd is
bind-is (Bind y n) is = refl
bind-is (Extend d) is = absurd is

none-unbound : (more : List Entry) → AreBinds more → unbound more ≡ []
none-unbound [] are = refl
none-unbound (e ∷ more) are = ap (λ (b : Bool). cond (not b) (e ∷ unbound more) (unbound more)) (bind-is e.act are.0) ∙ none-unbound more are.1

same-calls : (seen more : List Entry) → AreBinds more → unbound (seen ++ more) ≡ unbound seen
same-calls seen more are = filter-append (λ (e : Entry). not (is_bind e.act)) seen more ∙ ap (λ (l : List Entry). unbound seen ++ l) (none-unbound more are) ∙ append-nil (unbound seen)

-- ---- one store after the other

pub both-closable : (closing : List LockId) (left : List Knows) (store : LockId) (stores : List LockId) (feed : Knows) (feeds : List Knows) → closing ≡ store ∷ stores → left ≡ feed ∷ feeds → AreClosable closing left → AreClosable (store ∷ stores) (feed ∷ feeds)
both-closable closing left store stores feed feeds first second are = subst (λ (z : List LockId × List Knows). AreClosable z.0 z.1) (λ i. (first i, second i)) are

pub tail-closable : (store : LockId) (stores : List LockId) (feed : Knows) (feeds : List Knows) → AreClosable (store ∷ stores) (feed ∷ feeds) → AreClosable stores feeds
tail-closable store stores feed feeds are = record { size = omega (arith, are.size); each = λ p lock f at there. are.each (suc p) lock f at there }

pub closed-next : (feeds : List Knows) (cores : List Core) (f : Knows) (core : Core) → AreClosed feeds cores → IsClosed f core → AreClosed (feeds ++ f ∷ []) (cores ++ core ∷ [])
closed-next feeds cores f core are is = record {
  size = length-push-both;
  each = λ p g c at there. by p g c (at-or-last feeds f p g at) (at-or-last cores core p c there);
} where
  grown : {A : Type 0} (xs : List A) (x : A) → length (xs ++ x ∷ []) ≡ length xs + 1
  grown [] x = refl
  grown (y ∷ xs) x = omega (arith, grown xs x)

  length-push-both : length (cores ++ core ∷ []) ≡ length (feeds ++ f ∷ [])
  length-push-both = grown cores core ∙ ap (λ (n : ℕ). n + 1) are.size ∙ sym (grown feeds f)

  by : (p : ℕ) (g : Knows) (c : Core) → (slice_get feeds p ≡ Some g) ⊎ ((p ≡ length feeds) × (f ≡ g)) → (slice_get cores p ≡ Some c) ⊎ ((p ≡ length cores) × (core ≡ c)) → IsClosed g c
  by p g c (inl at) (inl there) = are.each p g c at there
  by p g c (inl at) (inr last) = absurd (omega (arith, slice_get_within feeds p g at, last.0, are.size))
  by p g c (inr last) (inl there) = absurd (omega (arith, slice_get_within cores p c there, last.0, are.size))
  by p g c (inr here) (inr last) = subst (λ (z : Knows × Core). IsClosed z.0 z.1) (λ i. (here.1 i, last.1 i)) is

-- ---- behind a run

-- feeds that are given back may be closed
pub back-closable : (g : List Decl) (stores : List LockId) (feeds : List Knows) → AreBack g stores feeds → AreClosable stores feeds
back-closable g stores feeds are = record { size = are.size; each = λ p lock f at there. let is = are.each p lock f at there in record { feed = is.feed; hands = is.hands } }

-- the journal of a core that was closed when the run had ended
closed-traced : (g : List Decl) (script : Script) (run : Run) (p : ℕ) (f : Knows) (core : Core) → Some (frame_at g script.nodes p) ≡ f.frame → IsClosed f core
    → unbound f.seen ≡ calls 1 (start g script.nodes) p script.commands → vals (frame_at g script.nodes p) f.seen ≡ evaluation (frame_at g script.nodes p) f.seen
    → ((h : List Entry) → IsLegal (frame_at g script.nodes p) h → unbound h ≡ calls 1 (start g script.nodes) p script.commands → counts (frame_at g script.nodes p) h ≡ (peer_at run.peers p).counts)
    → IsTraced g script run p core.entries
closed-traced g script run p f core frame closed made evaluated counted = record {
  legal = legal;
  calls_made = calls-made;
  counted = counted core.entries legal calls-made;
  evaluated = on (λ (h : List Entry). vals X h ≡ evaluation X h) (evaluated-alone X f.seen more there binds evaluated ∙ evaluated ∙ sym (same-evaluation X f.seen (f.seen ++ more) (kept-binds X f.seen more there binds)));
} where
  X : Frame
  X = frame_at g script.nodes p

  more : List Entry
  more = closed.entries.0

  is-here : core.entries ≡ f.seen ++ more
  is-here = closed.entries.1

  binds : AreBinds more
  binds = closed.entries.2

  on : (P : List Entry → Type 0) → P (f.seen ++ more) → P core.entries
  on P = subst P (sym is-here)

  same-frame : core.frame ≡ X
  same-frame = same_Some core.frame X (closed.frame ∙ sym frame)

  legal : IsLegal X core.entries
  legal = subst (λ (Y : Frame). IsLegal Y core.entries) same-frame closed.legal

  there : IsLegal X (f.seen ++ more)
  there = subst (IsLegal X) is-here legal

  calls-made : unbound core.entries ≡ calls 1 (start g script.nodes) p script.commands
  calls-made = ap unbound is-here ∙ same-calls f.seen more binds ∙ made

-- what a journal of node p counts when the run is over, if it has the calls that the script makes there
abbrev pub HaveCounts : List Decl → Script → Run → Type 0
HaveCounts g script run = (p : ℕ) → p < script.nodes → (h : List Entry) → IsLegal (frame_at g script.nodes p) h → unbound h ≡ calls 1 (start g script.nodes) p script.commands → counts (frame_at g script.nodes p) h ≡ (peer_at run.peers p).counts

-- the cores of the stores of a run that came to its end
module _ (g : List Decl) (script : Script) (run : Run) (stores : List LockId) (feeds : List Knows) (cores : List Core) (size : length stores ≡ script.nodes) (back : AreBack g stores feeds) (closed : AreClosed feeds cores) where
  many-feeds : length feeds ≡ script.nodes
  many-feeds = back.size ∙ size

  frame-back : (p : ℕ) (f : Knows) → slice_get feeds p ≡ Some f → f.frame ≡ Some (frame_at g script.nodes p)
  frame-back p f at =
      let store = at-place stores p (omega (arith, slice_get_within feeds p f at, back.size)) in
      (back.each p store.0 f store.1 at).frame ∙ ap (λ (n : ℕ). Some (frame_at g n p)) size

  pub closed-frames : (p : ℕ) (core : Core) → slice_get cores p ≡ Some core → core.frame ≡ frame_at g script.nodes p
  closed-frames p core there =
      let feed = at-place feeds p (omega (arith, slice_get_within cores p core there, closed.size)) in
      same_Some core.frame (frame_at g script.nodes p) ((closed.each p feed.0 core feed.1 there).frame ∙ frame-back p feed.0 feed.1)

  each-traced : HaveRun g script feeds → HaveCounts g script run → (p : ℕ) (core : Core) → slice_get cores p ≡ Some core → IsTraced g script run p core.entries
  each-traced ran counted p core there =
      let feed = at-place feeds p (omega (arith, slice_get_within cores p core there, closed.size)) in
      let f = feed.0 in
      let frame = frame-back p f feed.1 in
      closed-traced g script run p f core (sym frame) (closed.each p f core feed.1 there) (ran.calls p f feed.1)
      (subst (λ (X : Frame). vals X f.seen ≡ evaluation X f.seen) (ap frame_in frame) (ran.evaluated p f feed.1))
      (counted p (omega (arith, slice_get_within feeds p f feed.1, many-feeds)))

  pub closed-run : HaveRun g script feeds → HaveCounts g script run → AreTraced g script run (map (λ (c : Core). c.entries) cores)
  closed-run ran counted = record {
    many = length-map cores (λ (c : Core). c.entries) ∙ closed.size ∙ many-feeds;
    each = λ p entries at. let from = mapped-from (λ (c : Core). c.entries) cores p entries at in subst (λ (h : List Entry). IsTraced g script run p h) (sym from.2) (each-traced ran counted p from.0 from.1);
  }

  pub closed-peers : HaveRun g script feeds → ended g script ≡ Ok run → length run.peers ≡ script.nodes
  closed-peers ran is = sym (ap length (ran.peers run is)) ∙ length-map feeds (λ (f : Knows). peer_of (frame_of f) f.seen) ∙ many-feeds
